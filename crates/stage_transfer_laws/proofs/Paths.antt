-- Paths are equal where their numbers are; and what sets of paths contain.
use Rattle.std.proofs.Common.{◌≡◌, ◌⊎◌, inl, inr, ℕ, Bool, true, false, cond, List, [], ◌∷◌, ◌++◌, refl, sym, ap, subst}
use Rattle.std.specs.List.{Contains}
use Rattle.std.specs.Str.{bytes_eq}
use Rattle.std.proofs.lemmas.Slice.Eq.{bytes_eq-Decides}
use Rattle.list_laws.proofs.Members.{contains_none, contains_first, contains_later, contains_cases}
use Rattle.access_paths.specs.declared.root.Root.{Root}
use Rattle.access_paths.specs.Paths.{bare, Path, comes_before, has_path, path_key, path_set, root_key, same_path, same_root, with_path}
use Rattle.access_paths.proofs.KeyOrders.{same_is_one}
use Rattle.stage_transfer_laws.proofs.Members.{any_passes, one_passes}

-- ---- lists of numbers

pub same_bytes : (xs ys : List ℕ) → bytes_eq xs ys ≡ true → xs ≡ ys
same_bytes xs ys is = (bytes_eq-Decides xs ys).0 is

pub bytes_same : (xs ys : List ℕ) → xs ≡ ys → bytes_eq xs ys ≡ true
bytes_same xs ys is = (bytes_eq-Decides xs ys).1 is

-- ---- roots and paths

pub is_path : (x y : Path) → x ≡ y → same_path x y ≡ true
is_path x y same = bytes_same (path_key x) (path_key y) (ap path_key same)

pub root_is : (r s : Root) → same_root r s ≡ true → r ≡ s
root_is r s is =
    let keys : path_key (bare r) ≡ path_key (bare s) = ap (λ (ns : List ℕ). ns ++ []) (same_bytes (root_key r) (root_key s) is) in
    ap (λ (p : Path). p.root) (same_is_one (bare r) (bare s) (bytes_same (path_key (bare r)) (path_key (bare s)) keys))

pub is_root : (r s : Root) → r ≡ s → same_root r s ≡ true
is_root r s same = bytes_same (root_key r) (root_key s) (ap root_key same)

pub other_root : (r s : Root) → (r ≡ s → ⊥) → same_root r s ≡ false
other_root r s other = by (same_root r s) refl
  where
    by : (b : Bool) → same_root r s ≡ b → b ≡ false
    by true is = absurd (other (root_is r s is))
    by false is = refl

-- ---- sets

-- a set with one path more has that path, and those that it had
record Has (x : Path) (set more : List Path) : Type 0 where
  of : (y : Path) → Contains more y → (x ≡ y) ⊎ Contains set y
  itself : Contains more x
  others : (y : Path) → Contains set y → Contains more y

with_has : (x : Path) (set : List Path) → Has x set (with_path x set)
with_has x [] = record { of = λ y. contains_cases x y []; itself = contains_first x []; others = λ y there. absurd (contains_none y there) }
with_has x (z ∷ zs) = by (comes_before (path_key x) (path_key z)) (same_path x z) refl (with_has x zs)
  where
    by : (a b : Bool) → same_path x z ≡ b → Has x zs (with_path x zs) → Has x (z ∷ zs) (cond a (x ∷ z ∷ zs) (cond b (z ∷ zs) (z ∷ with_path x zs)))
    by true b is rest = record { of = λ y. contains_cases x y (z ∷ zs); itself = contains_first x (z ∷ zs); others = λ y. contains_later x y (z ∷ zs) }
    by false true is rest = record {
      of = λ y there. inr there;
      itself = subst (λ (p : Path). Contains (p ∷ zs) x) (same_is_one x z is) (contains_first x zs);
      others = λ y there. there;
    }
    by false false is rest = record {
      of = λ y there. elim (contains_cases z y (with_path x zs) there) [
        | inl same ↦ inr (subst (λ (p : Path). Contains (z ∷ zs) p) same (contains_first z zs))
        | inr later ↦ elim (rest.of y later) [ inl same ↦ inl same | inr more ↦ inr (contains_later z y zs more) ]
      ];
      itself = contains_later z x (with_path x zs) rest.itself;
      others = λ y there. elim (contains_cases z y zs there) [
        | inl same ↦ subst (λ (p : Path). Contains (z ∷ with_path x zs) p) same (contains_first z (with_path x zs))
        | inr later ↦ contains_later z y (with_path x zs) (rest.others y later)
      ];
    }

pub of_with_path : (x : Path) (set : List Path) (y : Path) → Contains (with_path x set) y → (x ≡ y) ⊎ Contains set y
of_with_path x set = (with_has x set).of

pub of_set : (paths : List Path) (y : Path) → Contains (path_set paths) y → Contains paths y
of_set [] y there = there
of_set (x ∷ xs) y there = elim (of_with_path x (path_set xs) y there) [
  | inl same ↦ subst (λ (p : Path). Contains (x ∷ xs) p) same (contains_first x xs)
  | inr rest ↦ contains_later x y xs (of_set xs y rest)
]

pub in_set : (paths : List Path) (y : Path) → Contains paths y → Contains (path_set paths) y
in_set [] y there = there
in_set (x ∷ xs) y there = elim (contains_cases x y xs there) [
  | inl same ↦ subst (λ (p : Path). Contains (with_path x (path_set xs)) p) same (with_has x (path_set xs)).itself
  | inr later ↦ (with_has x (path_set xs)).others y (in_set xs y later)
]

pub has_it : (set : List Path) (x : Path) → has_path set x ≡ true → Contains set x
has_it set x is = let found = one_passes (same_path x) set is in subst (λ (p : Path). Contains set p) (sym (same_is_one x found.0 found.2)) found.1

pub it_has : (set : List Path) (x : Path) → Contains set x → has_path set x ≡ true
it_has set x there = any_passes (same_path x) set x there (is_path x x refl)
