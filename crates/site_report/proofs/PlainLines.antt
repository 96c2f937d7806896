-- Lines of a text, one after another: as no line has a newline within, a line that stands in the text of some lines is one of them.
use Rattle.std.proofs.Common.{◌≡◌, ◌≢◌, ◌⊎◌, inl, inr, ℕ, zero, suc, cond, ◌==◌, ◌+◌, ◌/◌, ◌%◌, ◌≤◌, Bool, true, false, not, nat_lt, if◌then◌else◌, eqb, eqb-true, eq-eqb, leb-true, List, [], ◌∷◌, ◌++◌, decimal, length, length-append, All, refl, sym, ap, ◌∙◌, append_assoc, arith}
use Rattle.std.specs.List.{AllByRecursion, flat_map, list_all}
use Rattle.std.proofs.lemmas.Bool.{and_parts, false≢true, not-true}
use Rattle.std.proofs.lemmas.List.Elements.{All-head, All-tail}
use Rattle.std.specs.Fmt.{digits, digits_onto, digit_glyph}
use Rattle.site_report.specs.Printed.{printed, printed_byte, is_printed_plainly, hex_digit}

-- A text without a newline.
pub record IsPlain (text : List ℕ) : Type 0 where
  pub each : AllByRecursion (λ b. b ≢ 10) text

-- A text that is empty or ends with a newline.
abbrev pub IsFront : List ℕ → Type 0
IsFront front = (front ≡ []) ⊎ ((earlier : List ℕ) × (front ≡ earlier ++ 10 ∷ []))

-- A line: a text without a newline, and then one.
pub record IsLine (line : List ℕ) : Type 0 where
  pub content : List ℕ
  pub plain : IsPlain content
  pub is : line ≡ content ++ 10 ∷ []

-- The lines, one after another.
abbrev pub text_of : List (List ℕ) → List ℕ
text_of lines = flat_map (λ line. line) lines

-- The line is one of the lines.
abbrev pub Among : List ℕ → List (List ℕ) → Type 0
Among line [] = ⊥
Among line (other ∷ lines) = (other ≡ line) ⊎ Among line lines

-- ---- texts without a newline

IsPlain-nil : IsPlain []
IsPlain-nil = record { each = tt }

IsPlain-cons : (b : ℕ) (text : List ℕ) → b ≢ 10 → IsPlain text → IsPlain (b ∷ text)
IsPlain-cons b text other plain = record { each = (other, plain.each) }

IsPlain-rest : (b : ℕ) (text : List ℕ) → IsPlain (b ∷ text) → IsPlain text
IsPlain-rest b text plain = record { each = plain.each.1 }

pub IsPlain-all : (text : List ℕ) → All (λ b. b ≢ 10) text → IsPlain text
IsPlain-all [] h = IsPlain-nil
IsPlain-all (b ∷ text) h = IsPlain-cons b text (All-head (λ x. x ≢ 10) b text h) (IsPlain-all text (All-tail (λ x. x ≢ 10) b text h))

pub IsPlain-test : (text : List ℕ) → list_all (λ b. not (eqb b 10)) text ≡ true → IsPlain text
IsPlain-test [] e = IsPlain-nil
IsPlain-test (b ∷ text) e =
    let other : eqb b 10 ≡ false = not-true (eqb b 10) (and_parts _ _ e).0 in
    IsPlain-cons b text (λ is. false≢true (sym other ∙ eq-eqb b 10 is)) (IsPlain-test text (and_parts _ _ e).1)

pub IsPlain-append : (xs ys : List ℕ) → IsPlain xs → IsPlain ys → IsPlain (xs ++ ys)
IsPlain-append [] ys h k = k
IsPlain-append (x ∷ xs) ys h k = IsPlain-cons x (xs ++ ys) h.each.0 (IsPlain-append xs ys (IsPlain-rest x xs h) k)

-- ---- what is printed

digit_plain : (n : ℕ) → hex_digit n ≢ 10
digit_plain n = by (nat_lt n 10)
  where
    by : (small : Bool) → (if small then 48 + n else 87 + n) ≢ 10
    by true e = absurd (omega arith)
    by false e = absurd (omega arith)

printed_byte_plain : (b : ℕ) → IsPlain (printed_byte b)
printed_byte_plain b = by (is_printed_plainly b) refl
  where
    by : (plainly : Bool) → is_printed_plainly b ≡ plainly
        → IsPlain (if plainly then b ∷ [] else 0x5C ∷ 120 ∷ hex_digit (b / 16) ∷ hex_digit (b % 16) ∷ [])
    by true e =
        let least : 0x21 ≤ b = leb-true 0x21 b (and_parts _ _ (and_parts _ _ e).0).0 in
        record { each = ((λ is. absurd (omega arith)), tt) }
    by false e = record { each = ((λ is. absurd (omega arith)), ((λ is. absurd (omega arith)), (digit_plain (b / 16), (digit_plain (b % 16), tt)))) }

printed_plain : (name : List ℕ) → IsPlain (printed name)
printed_plain [] = IsPlain-nil
printed_plain (b ∷ name) = IsPlain-append (printed_byte b) (printed name) (printed_byte_plain b) (printed_plain name)

-- a text goes on with a word, with a number or with a name
pub word : {text : List ℕ} (more : List ℕ) → list_all (λ b. not (eqb b 10)) more ≡ true → IsPlain text → IsPlain (text ++ more)
word more e plain = IsPlain-append _ more plain (IsPlain-test more e)

-- a digit of a number, and a number of any length
glyph_plain : (n : ℕ) → digit_glyph false n ≢ 10
glyph_plain n = by (nat_lt n 10)
  where
    by : (small : Bool) → cond small (48 + n) (87 + n) ≢ 10
    by true e = absurd (omega arith)
    by false e = absurd (omega arith)

onto_plain : (count n : ℕ) (after : List ℕ) → IsPlain after → IsPlain (digits_onto count 10 false n after)
onto_plain zero n after plain = plain
onto_plain (suc count) n after plain = by (n / 10 == 0) (onto_plain count (n / 10) (digit_glyph false (n % 10) ∷ after) more)
  where
    more : IsPlain (digit_glyph false (n % 10) ∷ after)
    more = IsPlain-cons _ after (glyph_plain (n % 10)) plain

    by : (last : Bool) → IsPlain (digits_onto count 10 false (n / 10) (digit_glyph false (n % 10) ∷ after))
        → IsPlain (if last then digit_glyph false (n % 10) ∷ after else digits_onto count 10 false (n / 10) (digit_glyph false (n % 10) ∷ after))
    by true deeper = more
    by false deeper = deeper

decimal_plain : (n : ℕ) → IsPlain (decimal n)
unfolding digits
decimal_plain n = onto_plain 64 n [] IsPlain-nil

pub number : {text : List ℕ} (n : ℕ) → IsPlain text → IsPlain (text ++ decimal n)
number n plain = IsPlain-append _ (decimal n) plain (decimal_plain n)

pub name : {text : List ℕ} (more : List ℕ) → IsPlain text → IsPlain (text ++ printed more)
name more plain = IsPlain-append _ (printed more) plain (printed_plain more)

pub ended : {text : List ℕ} → IsPlain text → IsLine (text ++ 10 ∷ [])
ended plain = record { content = _; plain = plain; is = refl }

-- ---- a line of a text

-- the first line of a text is one
first_same : (xs ys v w : List ℕ) → IsPlain xs → IsPlain ys → xs ++ 10 ∷ v ≡ ys ++ 10 ∷ w → (xs ≡ ys) × (v ≡ w)
first_same [] [] v w h k e = (refl, (cc))
first_same [] (y ∷ ys) v w h k e = let same : 10 ≡ y = cc in absurd (k.each.0 (sym same))
first_same (x ∷ xs) [] v w h k e = let same : x ≡ 10 = cc in absurd (h.each.0 same)
first_same (x ∷ xs) (y ∷ ys) v w h k e =
    let head : x ≡ y = cc in
    let tail : xs ++ 10 ∷ v ≡ ys ++ 10 ∷ w = cc in
    let rest = first_same xs ys v w (IsPlain-rest x xs h) (IsPlain-rest y ys k) tail in
    let front : xs ≡ ys = rest.0 in
    ((cc), rest.1)

-- The first line of a text that ends with a newline, and the rest.
record HasFirst (text : List ℕ) : Type 0 where
  line : List ℕ
  rest : List ℕ
  plain : IsPlain line
  is : text ≡ line ++ 10 ∷ rest
  front : IsFront rest

first_line : (earlier : List ℕ) → HasFirst (earlier ++ 10 ∷ [])
first_line [] = record { line = []; rest = []; plain = IsPlain-nil; is = refl; front = inl refl }
first_line (x ∷ xs) = by (eqb x 10) refl (first_line xs)
  where
    by : (same : Bool) → eqb x 10 ≡ same → HasFirst (xs ++ 10 ∷ []) → HasFirst (x ∷ (xs ++ 10 ∷ []))
    by true e first =
        record { line = []; rest = xs ++ 10 ∷ []; plain = IsPlain-nil; is = ap (λ b. b ∷ (xs ++ 10 ∷ [])) (eqb-true x 10 e); front = inr (xs, refl) }
    by false e first =
        let other : x ≢ 10 = λ is. false≢true (sym e ∙ eq-eqb x 10 is) in
        let plain = IsPlain-cons x first.line other first.plain in
        record { line = x ∷ first.line; rest = first.rest; plain = plain; is = ap (λ ys. x ∷ ys) first.is; front = first.front }

-- the text of some lines begins with the first one
whole : (line : List ℕ) (lines : List (List ℕ)) (is_line : IsLine line) → text_of (line ∷ lines) ≡ is_line.content ++ 10 ∷ text_of lines
whole line lines is_line = ap (λ xs. xs ++ text_of lines) is_line.is ∙ append_assoc is_line.content (10 ∷ []) (text_of lines)

-- a line that stands in the text of some lines, at its start or after a newline, is one of them
pub line_among : (lines : List (List ℕ)) (front line rest : List ℕ) → AllByRecursion IsLine lines → IsFront front → IsPlain line
    → text_of lines ≡ front ++ (line ++ 10 ∷ rest) → Among (line ++ 10 ∷ []) lines
line_among [] front line rest are at plain e =
    absurd (omega (arith, ap length e ∙ length-append front (line ++ 10 ∷ rest), length-append line (10 ∷ rest)))
line_among (first ∷ lines) front line rest are (inl none) plain e =
    let here : are.0.content ++ 10 ∷ text_of lines ≡ line ++ 10 ∷ rest = sym (whole first lines are.0) ∙ (e ∙ ap (λ xs. xs ++ (line ++ 10 ∷ rest)) none) in
    inl (are.0.is ∙ ap (λ xs. xs ++ 10 ∷ []) (first_same are.0.content line (text_of lines) rest are.0.plain plain here).0)
line_among (first ∷ lines) front line rest are (inr (earlier, ends)) plain e =
    let split = first_line earlier in
    let here : are.0.content ++ 10 ∷ text_of lines ≡ split.line ++ 10 ∷ (split.rest ++ (line ++ 10 ∷ rest)) =
    sym (whole first lines are.0)
    ∙ (e ∙ (ap (λ xs. xs ++ (line ++ 10 ∷ rest)) (ends ∙ split.is) ∙ append_assoc split.line (10 ∷ split.rest) (line ++ 10 ∷ rest))) in
    let after = (first_same are.0.content split.line (text_of lines) (split.rest ++ (line ++ 10 ∷ rest)) are.0.plain split.plain here).1 in
    inr (line_among lines split.rest line rest are.1 split.front plain after)
