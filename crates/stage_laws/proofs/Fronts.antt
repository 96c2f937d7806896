-- The front of a set has its least paths.
use Rattle.std.proofs.Common.{◌≡◌, ℕ, zero, suc, true, List, [], ◌∷◌, take, inl, inr, subst}
use Rattle.std.specs.List.{Contains}
use Rattle.list_laws.proofs.Members.{contains_cases, contains_first, contains_later, contains_none}
use Rattle.access_paths.specs.Paths.{Path, comes_before, path_key}
use Rattle.access_paths.specs.Sets.{AreInOrder}
use Rattle.access_paths.proofs.SetMembers.{before_each}

-- a path of the front comes before one that is behind it
pub front_least : (n : ℕ) (set : List Path) (x y : Path) → AreInOrder set → Contains (take n set) x → Contains set y → (Contains (take n set) y → ⊥)
    → comes_before (path_key x) (path_key y) ≡ true
front_least zero set x y ordered kept there left = absurd (contains_none x kept)
front_least (suc n) [] x y ordered kept there left = absurd (contains_none x kept)
front_least (suc n) (z ∷ rest) x y (first, ordered) kept there left = elim (contains_cases z y rest there) [
  | inl same ↦ absurd (left (subst (λ (p : Path). Contains (z ∷ take n rest) p) same (contains_first z (take n rest))))
  | inr later ↦ elim (contains_cases z x (take n rest) kept) [
    | inl is ↦ subst (λ (p : Path). comes_before (path_key p) (path_key y) ≡ true) is (before_each z rest first ordered y later)
    | inr behind ↦ front_least n rest x y ordered behind later (λ among. left (contains_later z y (take n rest) among))
  ]
]
