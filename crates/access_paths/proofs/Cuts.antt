-- To cut a set at each path that is added is to cut it at the end.
use Rattle.std.proofs.Common.{◌≡◌, ℕ, zero, suc, ◌≤◌, nat_lt, Bool, true, false, cond, ◌||◌, List, [], ◌∷◌, length, take, refl, ap, arith, Some}
use Rattle.std.proofs.lemmas.Bool.Decides.{nat_tests}
use Rattle.std.proofs.lemmas.List.{take_all}
use Rattle.access_paths.specs.Paths.{Path, comes_before, most_paths, path_key, same_path, with_path}
use Rattle.access_paths.specs.Operations.{cut_of}
use Rattle.access_paths.specs.Gains.{with_gain}

pub take-take : {X : Type 0} (n : ℕ) (xs : List X) → take n (take n xs) ≡ take n xs
take-take zero xs = refl
take-take (suc n) [] = refl
take-take (suc n) (x ∷ xs) = ap (λ ys. x ∷ ys) (take-take n xs)

-- the front of a list whose rest is cut already
front_again : {X : Type 0} (n : ℕ) (y : X) (ys : List X) → take n (y ∷ take n ys) ≡ take n (y ∷ ys)
front_again zero y ys = refl
front_again (suc n) y ys = ap (λ zs. y ∷ zs) (again n ys)
  where
    again : {X : Type 0} (m : ℕ) (xs : List X) → take m (take (suc m) xs) ≡ take m xs
    again zero xs = refl
    again (suc m) [] = refl
    again (suc m) (x ∷ xs) = ap (λ zs. x ∷ zs) (again m xs)

-- the least paths of a set with one more, from the least of the set
pub take-with : (n : ℕ) (x : Path) (set : List Path) → take n (with_path x (take n set)) ≡ take n (with_path x set)
take-with zero x set = refl
take-with (suc n) x [] = refl
take-with (suc n) x (y ∷ ys) = by (comes_before (path_key x) (path_key y)) (same_path x y) (take-with n x ys)
  where
    by : (a b : Bool) → take n (with_path x (take n ys)) ≡ take n (with_path x ys)
        → take (suc n) (cond a (x ∷ y ∷ take n ys) (cond b (y ∷ take n ys) (y ∷ with_path x (take n ys))))
        ≡ take (suc n) (cond a (x ∷ y ∷ ys) (cond b (y ∷ ys) (y ∷ with_path x ys)))
    by true b rest = ap (λ (zs : List Path). x ∷ zs) (front_again n y ys)
    by false true rest = ap (λ (zs : List Path). y ∷ zs) (take-take n ys)
    by false false rest = ap (λ (zs : List Path). y ∷ zs) rest

pub length-with : (x : Path) (set : List Path) → length set ≤ length (with_path x set)
length-with x [] = omega arith
length-with x (y ∷ ys) = by (comes_before (path_key x) (path_key y)) (same_path x y) (length-with x ys)
  where
    by : (a b : Bool) → length ys ≤ length (with_path x ys) → length (y ∷ ys) ≤ length (cond a (x ∷ y ∷ ys) (cond b (y ∷ ys) (y ∷ with_path x ys)))
    by true b rest = omega arith
    by false true rest = omega arith
    by false false rest = omega arith

-- paths were left out before or now, exactly where there are too many in all
drops : (n : ℕ) (x : Path) (set : List Path) → (nat_lt n (length set) || nat_lt n (length (with_path x (take n set)))) ≡ nat_lt n (length (with_path x set))
drops n x set = by (nat_lt n (length set)) refl
  where
    by : (a : Bool) → nat_lt n (length set) ≡ a → (a || nat_lt n (length (with_path x (take n set)))) ≡ nat_lt n (length (with_path x set))
    by true large = let more = length-with x set in grind (arith, nat_tests, large, more)
    by false small =
        let few : length set ≤ n = grind (arith, nat_tests, small) in
        ap (λ (s : List Path). nat_lt n (length (with_path x s))) (take_all n set few)

-- a cut that takes a path in is the cut of the set with that path
pub cut-with : (x : Path) (set : List Path) → with_gain (cut_of set) (Some x) ≡ cut_of (with_path x set)
cut-with x set =
    let kept = take-with most_paths x set in
    let dropped = drops most_paths x set in
    λ i. record { set = kept i; dropped = dropped i }

-- a set that is small enough is not cut
pub cut_small : (set : List Path) → length set ≤ most_paths → cut_of set ≡ record { set = set; dropped = false }
cut_small set few =
    let kept = take_all most_paths set few in
    let dropped : nat_lt most_paths (length set) ≡ false = grind (arith, nat_tests, few) in
    λ i. record { set = kept i; dropped = dropped i }
