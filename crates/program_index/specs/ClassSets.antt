-- Public contracts rest on this module.
-- Sets of classes that keep the order in which the classes came.
use Rattle.std.specs.Prelude.{ℕ, ◌<◌, ◌≡◌, Bool, false, List, [], ◌∷◌, ◌++◌, nat_eq, length, take, All, if◌then◌else◌}
use Rattle.std.specs.List.{list_any, slice_index_or, IsDistinct}

-- Some of the classes with numbers below the size.
pub record Classes : Type 0 where
  pub size : ℕ
  pub items : List ℕ

-- Whether the class is in the list.
abbrev pub has : List ℕ → ℕ → Bool
has xs x = list_any (nat_eq x) xs

-- The list with the class at its end, if it was not there.
abbrev pub with_class : List ℕ → ℕ → List ℕ
with_class xs x = if has xs x then xs else xs ++ x ∷ []

-- The list with each of these classes at its end, if it was not there.
abbrev pub with_classes : List ℕ → List ℕ → List ℕ
with_classes xs [] = xs
with_classes xs (y ∷ ys) = with_classes (with_class xs y) ys

-- The set has, beside what it had, the first ones of these classes.
pub record HasFrontOf (old : Classes) (classes : List ℕ) (new : Classes) : Type 0 where
  pub count : ℕ
  pub is : new ≡ record { size = old.size; items = with_classes old.items (take count classes) }

-- The marks tell which classes are in the list, in which none stands twice.
pub record AreMarked (marks : List Bool) (items : List ℕ) : Type 0 where
  pub marked : (x : ℕ) → x < length marks → slice_index_or marks x false ≡ has items x
  pub below : All (λ (x : ℕ). x < length marks) items
  pub distinct : IsDistinct nat_eq items
