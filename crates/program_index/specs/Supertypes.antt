-- Public contracts rest on this module.
-- What stands above a class: its direct supertypes, and those above them. Classes are numbers, places in a list.
use Rattle.std.specs.Prelude.{◌≡◌, ℕ, ◌<◌, List, ◌++◌, Some, length, All, Contains, slice_get}
use Rattle.std.specs.Option.{option_to_list}
use Rattle.program_index.specs.declared.parents.Parents.{Parents}

-- The direct supertypes of a class, in the order in which resolution searches them: its superinterfaces, and then its
-- superclass (JVMS 5.4.3.2).
abbrev pub direct_of : Parents → List ℕ
direct_of p = p.interfaces.items ++ option_to_list p.super_class

-- Each number stands for a class.
pub record AreInRange (g : List Parents) : Type 0 where
  pub below : All (λ (p : Parents). All (λ (y : ℕ). y < length g) (direct_of p)) g

-- y is the superclass or a superinterface of the class x.
pub record IsDirect (g : List Parents) (x y : ℕ) : Type 0 where
  pub parents : Parents
  pub stands : slice_get g x ≡ Some parents
  pub among : Contains (direct_of parents) y

-- i is a direct superinterface of the class x.
pub record IsInterfaceOf (g : List Parents) (x i : ℕ) : Type 0 where
  pub parents : Parents
  pub stands : slice_get g x ≡ Some parents
  pub among : Contains parents.interfaces.items i

-- y is above the class x, by one step or more.
pub data IsAbove (g : List Parents) : ℕ → ℕ → Type 0 where
  one_step : (x y : ℕ) → IsDirect g x y → IsAbove g x y
  more_steps : (x y z : ℕ) → IsDirect g x y → IsAbove g y z → IsAbove g x z

-- y is the class x, or above it.
pub data IsAtOrAbove (g : List Parents) (x y : ℕ) : Type 0 where
  at : x ≡ y → IsAtOrAbove g x y
  above : IsAbove g x y → IsAtOrAbove g x y
