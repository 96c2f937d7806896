-- A text is cut into lines.
use Rattle.std.proofs.Common.{◌≡◌, ◌≢◌, ◌∙◌, ℕ, zero, suc, ◌<◌, Bool, true, false, nat_eq, if◌then◌else◌, List, [], ◌∷◌, ◌++◌, length, take, drop, get_or, All, eq-eqb, eqb-true, refl, sym, ap, append_assoc, arith}
use Rattle.std.proofs.lemmas.List.Elements.{All-head, All-tail}
use Rattle.report_analysis.specs.Texts.{text_of}
use Rattle.typestate_core.specs.Output.{IsLine, lines_in, with_first}

-- a newline ends a line at once
newline_first : (b : ℕ) (lines : List (List ℕ)) → b ≡ 10 → with_first b lines ≡ (b ∷ []) ∷ lines
newline_first b [] is = refl
newline_first b (line ∷ lines) is = ap (λ (same : Bool). if same then (b ∷ []) ∷ line ∷ lines else (b ∷ line) ∷ lines) (eq-eqb b 10 is)

differs : (b : ℕ) → b ≢ 10 → nat_eq b 10 ≡ false
differs b other = by (nat_eq b 10) refl
  where
    by : (same : Bool) → nat_eq b 10 ≡ same → nat_eq b 10 ≡ false
    by true e = absurd (other (eqb-true b 10 e))
    by false e = e

-- any other byte stands in the line that follows
other_first : (b : ℕ) (line : List ℕ) (lines : List (List ℕ)) → b ≢ 10 → with_first b (line ∷ lines) ≡ (b ∷ line) ∷ lines
other_first b line lines other = ap (λ (same : Bool). if same then (b ∷ []) ∷ line ∷ lines else (b ∷ line) ∷ lines) (differs b other)

-- ---- the first line

-- up to the first newline
pub cut_after : (text : List ℕ) (k : ℕ) → k < length text → ((j : ℕ) → j < k → get_or text j 0 ≢ 10) → get_or text k 0 ≡ 10
    → lines_in text ≡ take (suc k) text ∷ lines_in (drop (suc k) text)
cut_after [] k within none is = absurd (omega arith)
cut_after (b ∷ text) zero within none is = newline_first b (lines_in text) is
cut_after (b ∷ text) (suc k) within none is =
    let rest = cut_after text k (omega arith) (λ j below. none (suc j) (omega arith)) is in
    ap (with_first b) rest ∙ other_first b (take (suc k) text) (lines_in (drop (suc k) text)) (none 0 (omega arith))

-- or all of the text
pub cut_nowhere : (text : List ℕ) → 0 < length text → ((j : ℕ) → j < length text → get_or text j 0 ≢ 10) → lines_in text ≡ text ∷ []
cut_nowhere [] some none = absurd (omega arith)
cut_nowhere (b ∷ []) some none = refl
cut_nowhere (b ∷ c ∷ text) some none =
    let rest = cut_nowhere (c ∷ text) (omega arith) (λ j below. none (suc j) (omega arith)) in
    ap (with_first b) rest ∙ other_first b (c ∷ text) [] (none 0 (omega arith))

-- ---- the whole text

with_first_text : (b : ℕ) (lines : List (List ℕ)) → text_of (with_first b lines) ≡ b ∷ text_of lines
with_first_text b [] = refl
with_first_text b (line ∷ lines) = by (nat_eq b 10)
  where
    by : (same : Bool) → text_of (if same then (b ∷ []) ∷ line ∷ lines else (b ∷ line) ∷ lines) ≡ b ∷ text_of (line ∷ lines)
    by true = refl
    by false = refl

pub text_of_lines : (text : List ℕ) → text_of (lines_in text) ≡ text
text_of_lines [] = refl
text_of_lines (b ∷ text) = with_first_text b (lines_in text) ∙ ap (λ (bs : List ℕ). b ∷ bs) (text_of_lines text)

-- a line before a text is its first line
line_before : (content : List ℕ) → All (λ b. b ≢ 10) content → (text : List ℕ) → lines_in (content ++ 10 ∷ text) ≡ (content ++ 10 ∷ []) ∷ lines_in text
line_before [] plain text = newline_first 10 (lines_in text) refl
line_before (b ∷ content) plain text =
    let P : ℕ → Type 0 = λ (x : ℕ). x ≢ 10 in
    ap (with_first b) (line_before content (All-tail P b content plain) text)
    ∙ other_first b (content ++ 10 ∷ []) (lines_in text) (All-head P b content plain)

pub lines_of_text : (lines : List (List ℕ)) → All IsLine lines → lines_in (text_of lines) ≡ lines
lines_of_text [] are = refl
lines_of_text (line ∷ lines) are =
    let here = All-head IsLine line lines are in
    let rest = lines_of_text lines (All-tail IsLine line lines are) in
    let text : line ++ text_of lines ≡ here.content ++ 10 ∷ text_of lines =
    ap (λ (xs : List ℕ). xs ++ text_of lines) here.line_is ∙ append_assoc here.content (10 ∷ []) (text_of lines) in
    ap lines_in text ∙ (line_before here.content here.plain (text_of lines)
    ∙ (ap (λ (xs : List ℕ). xs ∷ lines_in (text_of lines)) (sym here.line_is) ∙ ap (λ (ls : List (List ℕ)). line ∷ ls) rest))
