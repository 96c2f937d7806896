-- A guess is right where the bytes begin with what is guessed: numbers, names and sites.
use Rattle.std.proofs.Common.{rules, ◌≡◌, ℕ, zero, suc, ◌+◌, ◌-◌, ◌*◌, ◌/◌, ◌%◌, ◌^◌, ◌<◌, ◌≤◌, Bool, true, false, cond, eqb, ◌&&◌, nat_le, nat_lt, List, [], ◌∷◌, ◌++◌, length, length-append, take, drop, decimal, Option, Some, None, refl, ap, sym, ◌∙◌, append_assoc, arith}
use Rattle.std.proofs.lemmas.Bool.{and_parts}
use Rattle.std.proofs.lemmas.Bool.Decides.{nat_tests}
use Rattle.std.proofs.lemmas.Fmt.{digits_decimal, digits_value-decimal, length-decimal-le, decimal_nonempty}
use Rattle.std.proofs.lemmas.Str.Parse.{IsNumeralModel, numerals_by_fold}
use Rattle.jvm_model.specs.declared.number.MethodNo.{MethodNo}
use Rattle.jvm_model.specs.declared.site.Site.{Site}
use Rattle.jvm_model.specs.declared.site.SiteKind.{SiteKind}
use Rattle.jvm_model.specs.declared.site.SiteKind.TheVariants as kinds
use Rattle.site_report.specs.Printed.{hex_digit, is_printed_plainly, printed, printed_byte}
use Rattle.edge_lines.specs.EdgeLines.{kind_word, method_word, site_words}
use Rattle.line_guesses.specs.Guess.{byte_at, digit_count, first_byte, hex_value, is_digit, kind_at, method_at, name_at, name_on, number_at, read_on, site_at, small_at}
use Rattle.line_guesses.specs.Fits.{AreBytes, FitsMethod, FitsSite}

-- ---- digits

abbrev is_digits : List ℕ → Bool
is_digits [] = true
is_digits (c ∷ cs) = is_digit c && is_digits cs

own : IsNumeralModel (λ ds. is_digits ds ≡ true) (read_on 0)
own = numerals_by_fold _ (search rules) read_on (search rules)

pub no_digit : (b : ℕ) (rest : List ℕ) → is_digit b ≡ false → digit_count (b ∷ rest) ≡ 0
unfolding digit_count
no_digit b rest e = rw e refl

count_digits : (ds rest : List ℕ) → is_digits ds ≡ true → digit_count rest ≡ 0 → digit_count (ds ++ rest) ≡ length ds
unfolding digit_count
count_digits [] rest e s = s
count_digits (d ∷ ds) rest e s = rw (and_parts (is_digit d) (is_digits ds) e).0 (ap suc (count_digits ds rest (and_parts (is_digit d) (is_digits ds) e).1 s))

take_all : (ds rest : List ℕ) → take (length ds) (ds ++ rest) ≡ ds
take_all [] rest = refl
take_all (d ∷ ds) rest = ap (λ (xs : List ℕ). d ∷ xs) (take_all ds rest)

drop_all : (ds rest : List ℕ) → drop (length ds) (ds ++ rest) ≡ rest
drop_all [] rest = refl
drop_all (d ∷ ds) rest = drop_all ds rest

-- a digit is no other byte
not_digit : (ds rest : List ℕ) (b : ℕ) → is_digits ds ≡ true → 0 < length ds → is_digit b ≡ false → eqb (first_byte (ds ++ rest)) b ≡ false
not_digit [] rest b e l n = absurd (omega (arith, l))
not_digit (d ∷ ds) rest b e l n = by (and_parts (is_digit d) (is_digits ds) e).0
  where
    by : is_digit d ≡ true → eqb d b ≡ false
    by digit = grind (arith, nat_tests, digit, n)

pub number_is_not : (n : ℕ) (rest : List ℕ) (b : ℕ) → n < 4294967296 → is_digit b ≡ false → eqb (first_byte (decimal n ++ rest)) b ≡ false
number_is_not n rest b l other =
    let wide : n < 2 ^ 64 = omega (arith, l) in
    not_digit (decimal n) rest b (digits_decimal own n wide) (decimal_nonempty n wide) other

-- ---- numbers

number_from : (bytes front rest : List ℕ) (n k : ℕ) → digit_count bytes ≡ k → k ≤ 10 → take k bytes ≡ front → drop k bytes ≡ rest → read_on 0 front ≡ n → n < 4294967296
    → number_at bytes ≡ (n, rest)
unfolding number_at
number_from bytes front rest n k e few t d v l =
    let short : nat_le k 10 ≡ true = grind (arith, nat_tests) in
    let small : nat_lt n 4294967296 ≡ true = grind (arith, nat_tests) in
    rw (e, short, t, d, v, small) refl

pub number_again : (n : ℕ) (rest : List ℕ) → n < 4294967296 → digit_count rest ≡ 0 → number_at (decimal n ++ rest) ≡ (n, rest)
number_again n rest l s =
    let wide : n < 2 ^ 64 = omega (arith, l) in
    let digits = digits_decimal own n wide in
    number_from (decimal n ++ rest) (decimal n) rest n (length (decimal n)) (count_digits (decimal n) rest digits s)
    (length-decimal-le 10 n (omega arith) (omega (arith, l)) wide) (take_all (decimal n) rest) (drop_all (decimal n) rest) (digits_value-decimal own n wide) l

pub small_again : (n : ℕ) (rest : List ℕ) → n < 256 → digit_count rest ≡ 0 → small_at (decimal n ++ rest) ≡ (n, rest)
unfolding small_at
small_again n rest l s =
    let small : nat_lt n 256 ≡ true = grind (arith, nat_tests) in
    rw (number_again n rest (omega (arith, l)) s, small) refl

-- ---- names

hex_again : (n : ℕ) → n < 16 → hex_value (hex_digit n) ≡ n
hex_again n l = by (nat_lt n 10) refl
  where
    by : (b : Bool) → nat_lt n 10 ≡ b → hex_value (cond b (48 + n) (87 + n)) ≡ n
    by true e =
        let low : nat_le (48 + n) 57 ≡ true = grind (arith, nat_tests, e) in
        rw low (omega arith)
    by false e =
        let high : nat_le (87 + n) 57 ≡ false = grind (arith, nat_tests, e) in
        rw high (omega arith)

-- A byte of a name, printed, is read again; and it begins with no space.
pub record IsByteAgain (b : ℕ) (text rest : List ℕ) : Type 0 where
  pub read : byte_at (text ++ rest) ≡ (b, rest)
  pub seen : nat_le (first_byte (text ++ rest)) 32 ≡ false

halves : (b : ℕ) → b < 256 → (16 * (b / 16) + b % 16) % 256 ≡ b
halves b l = omega (arith, l)

escaped : (b : ℕ) (rest : List ℕ) → b < 256 → IsByteAgain b (92 ∷ 120 ∷ hex_digit (b / 16) ∷ hex_digit (b % 16) ∷ []) rest
unfolding byte_at
escaped b rest l =
    let high = hex_again (b / 16) (omega (arith, l)) in
    let low = hex_again (b % 16) (omega arith) in
    let value : (16 * hex_value (hex_digit (b / 16)) + hex_value (hex_digit (b % 16))) % 256 ≡ b = ap (λ n. (16 * n + hex_value (hex_digit (b % 16))) % 256) high
    ∙ ap (λ n. (16 * (b / 16) + n) % 256) low ∙ halves b l in
    record { read = ap (λ (n : ℕ). (n, rest)) value; seen = refl }

as_it_is : (b : ℕ) (rest : List ℕ) → b < 256 → is_printed_plainly b ≡ true → IsByteAgain b (b ∷ []) rest
unfolding byte_at
as_it_is b rest l e =
    let other : eqb b 92 ≡ false = grind (arith, nat_tests, e) in
    let high : nat_le b 32 ≡ false = grind (arith, nat_tests, e) in
    let small : nat_lt b 256 ≡ true = grind (arith, nat_tests, l) in
    record { read = rw (other, small) refl; seen = high }

byte_again : (b : ℕ) (rest : List ℕ) → b < 256 → IsByteAgain b (printed_byte b) rest
byte_again b rest l = by (is_printed_plainly b) refl
  where
    by : (p : Bool) → is_printed_plainly b ≡ p → IsByteAgain b (cond p (b ∷ []) (92 ∷ 120 ∷ hex_digit (b / 16) ∷ hex_digit (b % 16) ∷ [])) rest
    by true e = as_it_is b rest l e
    by false e = escaped b rest l

one_byte : (k b : ℕ) (name bytes rest : List ℕ) → nat_le (first_byte bytes) 32 ≡ false → byte_at bytes ≡ (b, rest) → name_on (suc k) name bytes ≡ name_on k (name ++ b ∷ []) rest
unfolding name_on
one_byte k b name bytes rest seen read = rw (seen, read) refl

name_ends : (k : ℕ) (name rest : List ℕ) → nat_le (first_byte rest) 32 ≡ true → name_on k name rest ≡ (name, rest)
unfolding name_on
name_ends zero name rest e = refl
name_ends (suc k) name rest e = rw e refl

append_none : (xs : List ℕ) → xs ++ [] ≡ xs
append_none [] = refl
append_none (x ∷ xs) = ap (λ (ys : List ℕ). x ∷ ys) (append_none xs)

names_on : (k : ℕ) (name more rest : List ℕ) → length more ≤ k → AreBytes more → nat_le (first_byte rest) 32 ≡ true → name_on k name (printed more ++ rest) ≡ (name ++ more, rest)
names_on k name [] rest l is e = name_ends k name rest e ∙ ap (λ (x : List ℕ). (x, rest)) (sym (append_none name))
names_on zero name (b ∷ bs) rest l is e = absurd (omega (arith, l))
names_on (suc k) name (b ∷ bs) rest l is e =
    let again = byte_again b (printed bs ++ rest) is.0 in
    let whole : (printed_byte b ++ printed bs) ++ rest ≡ printed_byte b ++ (printed bs ++ rest) = append_assoc (printed_byte b) (printed bs) rest in
    ap (λ (x : List ℕ). name_on (suc k) name x) whole ∙ one_byte k b name (printed_byte b ++ (printed bs ++ rest)) (printed bs ++ rest) again.seen again.read
    ∙ names_on k (name ++ b ∷ []) bs rest (omega (arith, l)) is.1 e ∙ ap (λ (x : List ℕ). (x, rest)) (append_assoc name (b ∷ []) bs)

byte_some : (b : ℕ) → 0 < length (printed_byte b)
byte_some b = by (is_printed_plainly b)
  where
    by : (p : Bool) → 0 < length (cond p (b ∷ []) (92 ∷ 120 ∷ hex_digit (b / 16) ∷ hex_digit (b % 16) ∷ []))
    by true = omega arith
    by false = omega arith

name_within : (name : List ℕ) → length name ≤ length (printed name)
name_within [] = omega arith
name_within (b ∷ bs) =
    let some = byte_some b in
    let rest = name_within bs in
    let sum = length-append (printed_byte b) (printed bs) in
    omega (arith, some, rest, sum)

pub name_again : (name rest : List ℕ) → AreBytes name → nat_le (first_byte rest) 32 ≡ true → name_at (printed name ++ rest) ≡ (name, rest)
unfolding name_at
name_again name rest is e =
    let within = name_within name in
    let sum = length-append (printed name) rest in
    names_on (length (printed name ++ rest)) [] name rest (omega (arith, within, sum)) is e

-- ---- sites

kind_again : (k : SiteKind) (rest : List ℕ) → kind_at (kind_word k ++ rest) ≡ k
unfolding kind_at
kind_again kinds.Boot rest = refl
kind_again kinds.New rest = refl
kind_again kinds.Result rest = refl
kind_again kinds.Thrown rest = refl

kind_over : (k : SiteKind) (rest : List ℕ) → drop 2 (kind_word k ++ (32 ∷ rest)) ≡ rest
kind_over kinds.Boot rest = refl
kind_over kinds.New rest = refl
kind_over kinds.Result rest = refl
kind_over kinds.Thrown rest = refl

pub method_again : (m : Option MethodNo) (rest : List ℕ) → FitsMethod m → digit_count rest ≡ 0 → method_at (method_word m ++ rest) ≡ (m, rest)
unfolding method_at
method_again None rest is s = refl
method_again (Some m) rest is s = rw (number_is_not m.0 rest 98 is refl, number_again m.0 rest is s) refl

site_from : (bytes kindless after offset_rest rest : List ℕ) (s : Site) → kind_at bytes ≡ s.kind → drop 2 bytes ≡ kindless → method_at kindless ≡ (s.method, 32 ∷ after)
    → number_at after ≡ (s.offset, 32 ∷ offset_rest) → name_at offset_rest ≡ (s.class, rest) → site_at bytes ≡ (s, rest)
unfolding site_at
site_from bytes kindless after offset_rest rest s k d m o c = rw (k, d, m, o, c) refl

pub site_again : (s : Site) (rest : List ℕ) → FitsSite s → nat_le (first_byte rest) 32 ≡ true → site_at (site_words s ++ rest) ≡ (s, rest)
site_again s rest is e =
    let class = printed s.class ++ rest in
    let offset = decimal s.offset ++ (32 ∷ class) in
    let method = method_word s.method ++ (32 ∷ offset) in
    let whole : site_words s ++ rest ≡ kind_word s.kind ++ (32 ∷ method) = simp append_assoc in
    ap site_at whole
    ∙ site_from (kind_word s.kind ++ (32 ∷ method)) method offset class rest s (kind_again s.kind (32 ∷ method)) (kind_over s.kind method)
    (method_again s.method (32 ∷ offset) is.method (no_digit 32 offset refl)) (number_again s.offset (32 ∷ class) is.offset (no_digit 32 class refl))
    (name_again s.class rest is.class e)
