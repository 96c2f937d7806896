-- What a loop that adds up a list has seen: the front of the list, one item longer each time. The layers above cite it.
use Rattle.std.proofs.Common.{◌≡◌, ℕ, ◌+◌, ◌<◌, ◌≤◌, List, [], ◌∷◌, ◌++◌, length, take, get_or, sum_by, sym, ap, ◌∙◌, subst, arith}
use Rattle.std.proofs.lemmas.List.{take_more}
use Rattle.std.proofs.lemmas.List.Sums.{sum_by-take-le, sum_by-append, sum_by-cons}

longer : {X : Type 0} (xs : List X) (i : ℕ) (x : X) → i < length xs → x ≡ get_or xs i x → take (i + 1) xs ≡ take i xs ++ x ∷ []
longer {X} xs i x lt is = subst (λ (y : X). take (i + 1) xs ≡ take i xs ++ y ∷ []) (sym is) (take_more xs i x lt)

-- a sum with one more item
pub sum_more : {X : Type 0} (f : X → ℕ) (xs : List X) (i : ℕ) (x : X) → i < length xs → x ≡ get_or xs i x → sum_by f (take i xs) + f x ≡ sum_by f (take (i + 1) xs)
sum_more {X} f xs i x lt is =
    let whole : sum_by f (take (i + 1) xs) ≡ sum_by f (take i xs) + sum_by f (x ∷ []) = ap (λ (ys : List X). sum_by f ys) (longer xs i x lt is) ∙ sum_by-append f (take i xs) (x ∷ []) in
    omega (arith, whole, sum_by-cons f x [])

-- it is no more than the sum of all
pub sum_fits : {X : Type 0} (f : X → ℕ) (xs : List X) (i : ℕ) (x : X) → i < length xs → x ≡ get_or xs i x → sum_by f (take i xs) + f x ≤ sum_by f xs
sum_fits f xs i x lt is = omega (arith, sum_more f xs i x lt is, sum_by-take-le f xs (i + 1))
