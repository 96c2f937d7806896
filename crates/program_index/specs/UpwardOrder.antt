-- Public contracts rest on this module.
-- The order of all classes in which each stands after its supertypes; and what keeps a program from having one.
use Rattle.std.specs.Prelude.{◌≡◌, ℕ, ◌<◌, ◌≤◌, List, Some, nat_eq, length, take, All, Contains, slice_get}
use Rattle.std.specs.List.{IsDistinct}
use Rattle.program_index.specs.declared.parents.Parents.{Parents}
use Rattle.program_index.specs.Supertypes.{IsDirect, IsAbove}

-- Each class stands in the order once, after all its direct supertypes.
pub record IsUpward (g : List Parents) (order : List ℕ) : Type 0 where
  pub each : (c : ℕ) → c < length g → Contains order c
  pub below : All (λ (c : ℕ). c < length g) order
  pub distinct : IsDistinct nat_eq order
  pub after : (k x y : ℕ) → slice_get order k ≡ Some x → IsDirect g x y → Contains (take k order) y

-- There is such an order.
abbrev pub HasOrder : List Parents → Type 0
HasOrder g = (order : List ℕ) × IsUpward g order

-- The class is above itself, and no class with a smaller number is: a class may not be its own supertype (JVMS 5.3.5).
pub record IsLeastOnCycle (g : List Parents) (c : ℕ) : Type 0 where
  pub cyclic : IsAbove g c c
  pub least : (d : ℕ) → IsAbove g d d → c ≤ d

-- No class is above itself.
pub record HasNoCycle (g : List Parents) : Type 0 where
  pub none : (c : ℕ) → IsAbove g c c → ⊥
