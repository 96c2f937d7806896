-- Two lists of numbers in order that have each number equally often are equal.
use Rattle.std.proofs.Common.{◌≡◌, ℕ, suc, ◌+◌, ◌<◌, ◌≤◌, cond, eqb, Bool, false, List, [], ◌∷◌, length, get_or, sum_by, refl, sym, ap, ◌∙◌, inl, inr, ◌⊎◌, arith}
use Rattle.std.specs.List.Sorted.{IsPermutation, IsNonDecreasing}
use Rattle.std.proofs.lemmas.Bool.{eq-eqb, cases_order}
use Rattle.std.proofs.lemmas.Bool.Decides.{nat_tests}
use Rattle.std.proofs.lemmas.List.Sorted.{sum_by-IsPermutation}
use Rattle.std.proofs.lemmas.List.Sums.{sum_by-cons}

abbrev pub one_if : Bool → ℕ
one_if b = cond b 1 0

-- how often a number stands in a list
abbrev pub count_of : ℕ → List ℕ → ℕ
count_of q xs = sum_by (λ (m : ℕ). one_if (eqb m q)) xs

-- the numbers stand in order, from a number on
abbrev pub Ascends : ℕ → List ℕ → Type 0
Ascends low [] = Unit {0}
Ascends low (x ∷ xs) = (low ≤ x) × Ascends x xs

pub from_less : (least low : ℕ) (xs : List ℕ) → least ≤ low → Ascends low xs → Ascends least xs
from_less least low [] le a = tt
from_less least low (x ∷ xs) le a = let first = a.0 in (omega (arith, first, le), a.1)

more : (q x : ℕ) (xs : List ℕ) → count_of q (x ∷ xs) ≡ one_if (eqb x q) + count_of q xs
more q x xs = sum_by-cons (λ (m : ℕ). one_if (eqb m q)) x xs

here : (x : ℕ) (xs : List ℕ) → count_of x (x ∷ xs) ≡ 1 + count_of x xs
here x xs = more x x xs ∙ ap (λ (b : Bool). one_if b + count_of x xs) (eq-eqb x x refl)

elsewhere : (q x : ℕ) (xs : List ℕ) → eqb x q ≡ false → count_of q (x ∷ xs) ≡ count_of q xs
elsewhere q x xs apart = let e : count_of q (x ∷ xs) ≡ 0 + count_of q xs = more q x xs ∙ ap (λ (b : Bool). one_if b + count_of q xs) apart in omega (arith, e)

above : (q x : ℕ) → q < x → eqb x q ≡ false
above q x lt = grind (arith, nat_tests, lt)

none_below : (low q : ℕ) (xs : List ℕ) → Ascends low xs → q < low → count_of q xs ≡ 0
none_below low q [] a lt = refl
none_below low q (x ∷ xs) a lt = let first = a.0 in let less : q < x = omega (arith, first, lt) in elsewhere q x xs (above q x less) ∙ none_below x q xs a.1 less

pub same_ascending : (a b : ℕ) (xs ys : List ℕ) → Ascends a xs → Ascends b ys → ((q : ℕ) → count_of q xs ≡ count_of q ys) → xs ≡ ys
same_ascending a b [] [] up up2 same = refl
same_ascending a b [] (y ∷ ys) up up2 same = let e = same y in let f = here y ys in absurd (omega (arith, e, f))
same_ascending a b (x ∷ xs) [] up up2 same = let e = same x in let f = here x xs in absurd (omega (arith, e, f))
same_ascending a b (x ∷ xs) (y ∷ ys) up up2 same = by (λ e. same_ascending x y xs ys up.1 up2.1 (rest e)) (cases_order x y)
  where
    less : (u v : ℕ) (us vs : List ℕ) → Ascends v (v ∷ vs) → u < v → count_of u (u ∷ us) ≡ count_of u (v ∷ vs) → ⊥
    less u v us vs rises lt e = let f = here u us in let none = none_below v u (v ∷ vs) rises lt in omega (arith, e, f, none)

    rest : x ≡ y → (q : ℕ) → count_of q xs ≡ count_of q ys
    rest e q =
        let left = more q x xs in
        let right = more q y ys in
        let both = same q in
        let first : one_if (eqb x q) ≡ one_if (eqb y q) = ap (λ (z : ℕ). one_if (eqb z q)) e in
        omega (arith, left, right, both, first)

    by : (x ≡ y → xs ≡ ys) → (x ≡ y) ⊎ ((x < y) ⊎ (y < x)) → (x ∷ xs) ≡ (y ∷ ys)
    by next (inl e) = ap (λ (z : ℕ). z ∷ xs) e ∙ ap (λ (zs : List ℕ). y ∷ zs) (next e)
    by next (inr (inl lt)) = absurd (less x y xs ys (omega arith, up2.1) lt (same x))
    by next (inr (inr lt)) = absurd (less y x ys xs (omega arith, up.1) lt (sym (same y)))

ascends_from : (low : ℕ) (xs : List ℕ) → IsNonDecreasing xs → (0 < length xs → low ≤ get_or xs 0 0) → Ascends low xs
ascends_from low [] up first = tt
ascends_from low (x ∷ xs) up first = (
  first (omega arith),
  ascends_from x xs (λ i j d le lt. up (suc i) (suc j) d (omega (arith, le)) (omega (arith, lt))) (λ some. up 0 1 0 (omega arith) (omega (arith, some))),
)

pub ascends_of : (xs : List ℕ) → IsNonDecreasing xs → Ascends 0 xs
ascends_of xs up = ascends_from 0 xs up (λ some. omega arith)

-- a list in order of what another list has is the other list, if that one is in order
pub sorted_is : (xs sorted ys : List ℕ) → IsPermutation xs sorted → IsNonDecreasing sorted → Ascends 0 ys → ((q : ℕ) → count_of q xs ≡ count_of q ys) → sorted ≡ ys
sorted_is xs sorted ys moved up rises same = same_ascending 0 0 sorted ys (ascends_of sorted up) rises (λ q. sum_by-IsPermutation (λ (m : ℕ). one_if (eqb m q)) xs sorted moved ∙ same q)
