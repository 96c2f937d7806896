-- The text of the first lines.
use Rattle.std.proofs.Common.{◌≡◌, ℕ, zero, suc, ◌+◌, ◌<◌, ◌≤◌, List, [], ◌∷◌, length, length-append, take, get_or, refl, sym, ap, subst, arith}
use Rattle.certificate_lines.specs.declared.line.Line.{Line}
use Rattle.certificate_lines.specs.LineTexts.{line_text}
use Rattle.certificates.specs.Texts.{text}

-- a line more
pub length_more : (lines : List Line) (i : ℕ) (x : Line) → i < length lines → x ≡ get_or lines i x
    → length (text (take (i + 1) lines)) ≡ length (text (take i lines)) + length (line_text x)
length_more lines i x l e = subst (λ (n : ℕ). length (text (take n lines)) ≡ length (text (take i lines)) + length (line_text x)) (one i) (by lines i l e)
  where
    one : (n : ℕ) → suc n ≡ n + 1
    one n = omega arith

    by : (xs : List Line) (n : ℕ) → n < length xs → x ≡ get_or xs n x → length (text (take (suc n) xs)) ≡ length (text (take n xs)) + length (line_text x)
    by [] n m f = absurd (omega (arith, m))
    by (y ∷ ys) zero m f =
        let long : length (line_text y) ≡ length (line_text x) = ap (λ (z : Line). length (line_text z)) (sym f) in
        let sum = length-append (line_text y) (text (take zero ys)) in
        omega (arith, long, sum)
    by (y ∷ ys) (suc n) m f =
        let rest = by ys n (omega (arith, m)) f in
        let more = length-append (line_text y) (text (take (suc n) ys)) in
        let fewer = length-append (line_text y) (text (take n ys)) in
        omega (arith, rest, more, fewer)

-- a front is no longer than all
pub front_within : (lines : List Line) (i : ℕ) → length (text (take i lines)) ≤ length (text lines)
front_within [] zero = omega arith
front_within [] (suc i) = omega arith
front_within (x ∷ xs) zero = omega arith
front_within (x ∷ xs) (suc i) =
    let l = front_within xs i in
    let front = length-append (line_text x) (text (take i xs)) in
    let all = length-append (line_text x) (text xs) in
    omega (arith, l, front, all)

pub take_past : (lines : List Line) (i : ℕ) → length lines ≤ i → take i lines ≡ lines
take_past [] zero l = refl
take_past [] (suc i) l = refl
take_past (x ∷ xs) zero l = absurd (omega (arith, l))
take_past (x ∷ xs) (suc i) l = ap (λ (ys : List Line). x ∷ ys) (take_past xs i (omega (arith, l)))
