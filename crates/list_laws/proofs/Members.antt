-- What a list contains: its first element and the later ones, what a map makes of its elements, and what holds of all that it contains.
use Rattle.std.proofs.Common.{◌≡◌, ◌⊎◌, inl, inr, ℕ, zero, suc, ◌≤◌, List, [], ◌∷◌, length, map, take, get_or, refl, ap, subst, arith}
use Rattle.std.specs.List.{All, AllByRecursion, Contains}
use Rattle.std.proofs.lemmas.Bool.{cases_eq}
use Rattle.std.proofs.lemmas.List.{take_all}
use Rattle.std.proofs.lemmas.List.Elements.{All-contains, All-from_recursion, Contains-get_or}

pub contains_none : {X : Type 0} (x : X) → Contains [] x → ⊥
contains_none x (k, l, e) = omega arith

pub contains_first : {X : Type 0} (x : X) (xs : List X) → Contains (x ∷ xs) x
contains_first x xs = (0, omega arith, refl)

pub contains_later : {X : Type 0} (x y : X) (xs : List X) → Contains xs y → Contains (x ∷ xs) y
contains_later x y xs (k, l, e) = (suc k, omega arith, e)

pub contains_cases : {X : Type 0} (x y : X) (xs : List X) → Contains (x ∷ xs) y → (x ≡ y) ⊎ Contains xs y
contains_cases x y xs (zero, l, e) = inl e
contains_cases x y xs (suc k, l, e) = inr (k, omega arith, e)

-- a list of one element contains no other
pub contains_only : {X : Type 0} (x y : X) → Contains (x ∷ []) y → x ≡ y
contains_only x y there = elim (contains_cases x y [] there) [ inl same ↦ same | inr none ↦ absurd (contains_none y none) ]

-- ---- by a map

pub contains_map : {X Y : Type 0} (f : X → Y) (xs : List X) (x : X) → Contains xs x → Contains (map f xs) (f x)
contains_map f [] x there = absurd (contains_none x there)
contains_map f (y ∷ xs) x (zero, l, e) = (0, omega arith, ap f e)
contains_map f (y ∷ xs) x (suc k, l, e) = contains_later (f y) (f x) (map f xs) (contains_map f xs x (k, omega arith, e))

pub contained_in_map : {X Y : Type 0} (f : X → Y) (xs : List X) (y : Y) → Contains (map f xs) y → (x : X) × Contains xs x × (f x ≡ y)
contained_in_map f [] y there = absurd (contains_none y there)
contained_in_map f (x ∷ xs) y there = elim (contains_cases (f x) y (map f xs) there) [
  | inl same ↦ (x, contains_first x xs, same)
  | inr later ↦ let found = contained_in_map f xs y later in (found.0, contains_later x found.0 xs found.1, found.2)
]

-- ---- for all

-- what holds of each that is contained holds of all
pub all_from_contains : {X : Type 0} (P : X → Type 0) (xs : List X) → ((x : X) → Contains xs x → P x) → All P xs
all_from_contains P xs f k d l = f (get_or xs k d) (Contains-get_or xs k d l)

-- what holds of each, holds of what is contained
pub each_contained : {X : Type 0} (P : X → Type 0) (xs : List X) (x : X) → AllByRecursion P xs → Contains xs x → P x
each_contained P xs x each there = All-contains P xs x (All-from_recursion P xs each) there

-- what holds of a front as long as the list holds of the list
pub all_from_front : {X : Type 0} (P : X → Type 0) (xs : List X) (n : ℕ) → length xs ≤ n → All P (take n xs) → All P xs
all_from_front {X} P xs n long all = subst (λ (ys : List X). All P ys) (take_all n xs long) all

-- ---- whether a number is contained

pub contained_or_not : (xs : List ℕ) (z : ℕ) → Contains xs z ⊎ (Contains xs z → ⊥)
contained_or_not [] z = inr (λ there. contains_none z there)
contained_or_not (x ∷ xs) z = by (cases_eq x z) (contained_or_not xs z)
  where
    by : (x ≡ z) ⊎ (x ≡ z → ⊥) → Contains xs z ⊎ (Contains xs z → ⊥) → Contains (x ∷ xs) z ⊎ (Contains (x ∷ xs) z → ⊥)
    by (inl e) rest = inl (subst (λ (y : ℕ). Contains (x ∷ xs) y) e (contains_first x xs))
    by (inr ne) (inl there) = inl (contains_later x z xs there)
    by (inr ne) (inr free) = inr (λ there. elim (contains_cases x z xs there) [ inl e ↦ ne e | inr later ↦ free later ])
