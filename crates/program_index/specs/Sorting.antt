-- Only the proofs of this crate rest on this module.
-- The state of sorting classes upward: those that are placed, and those that wait for a direct supertype to be placed.
use Rattle.std.specs.Prelude.{◌≡◌, ℕ, ◌<◌, ◌≤◌, true, false, List, Vec, Some, length, take, All, Any, Contains, slice_get, nat_eq}
use Rattle.std.specs.List.{IsDistinct}
use Rattle.std.specs.declared.alloc.Global.{Global}
use Rattle.program_index.specs.declared.parents.Parents.{Parents}
use Rattle.program_index.specs.declared.order.Missing.{Missing}
use Rattle.program_index.specs.declared.order.Waiter.{Waiter}
use Rattle.program_index.specs.Supertypes.{direct_of, IsDirect}
use Rattle.program_index.specs.ClassSets.{Classes, has}

-- Each of these classes is placed.
abbrev pub AreIn : List ℕ → List ℕ → Type 0
AreIn order xs = All (λ (x : ℕ). has order x ≡ true) xs

-- A direct supertype that is not placed, while the superinterfaces before the place are.
pub record IsMissing (p : Parents) (order : List ℕ) (m : Missing) : Type 0 where
  pub among : Contains (direct_of p) m.class
  pub missing : has order m.class ≡ false
  pub before : AreIn order (take m.place p.interfaces.items)

-- The superinterfaces of the class before the place are placed.
pub record IsReady (g : List Parents) (order : List ℕ) (w : Waiter) : Type 0 where
  pub parents : Parents
  pub stands : slice_get g w.class ≡ Some parents
  pub before : AreIn order (take w.place parents.interfaces.items)

-- The class waits for its direct supertype y.
pub record IsWaiting (g : List Parents) (order : List ℕ) (y : ℕ) (w : Waiter) : Type 0 where
  pub ready : IsReady g order w
  pub direct : IsDirect g w.class y

-- Each placed class stands after its direct supertypes.
pub record IsFront (g : List Parents) (order : List ℕ) : Type 0 where
  pub after : (k x y : ℕ) → slice_get order k ≡ Some x → IsDirect g x y → has (take k order) y ≡ true

-- What is placed stands upward, and each class in the list of y waits for y. There is a list for each class.
pub record IsSorting (g : List Parents) (order : Classes) (lists : List (Vec Waiter Global)) : Type 0 where
  pub size : order.size ≡ length g
  pub count : length lists ≡ length g
  pub front : IsFront g order.items
  pub waiting : (y : ℕ) (list : Vec Waiter Global) → slice_get lists y ≡ Some list → All (IsWaiting g order.items y) list.items

-- The class is in the list of some y that is not among the first classes of the order.
pub record WaitsInLists (order : List ℕ) (lists : List (Vec Waiter Global)) (done c : ℕ) : Type 0 where
  pub y : ℕ
  pub list : Vec Waiter Global
  pub stands : slice_get lists y ≡ Some list
  pub waits : Any (λ (w : Waiter). w.class ≡ c) list.items
  pub later : has (take done order) y ≡ false

-- The class is placed, or it waits for one that is not among the first classes of the order.
pub data IsHeld (order : List ℕ) (lists : List (Vec Waiter Global)) (done c : ℕ) : Type 0 where
  in_order : has order c ≡ true → IsHeld order lists done c
  in_a_list : WaitsInLists order lists done c → IsHeld order lists done c

-- Each class is.
pub record AreHeld (order : List ℕ) (lists : List (Vec Waiter Global)) (done size : ℕ) : Type 0 where
  pub held : (c : ℕ) → c < size → IsHeld order lists done c

-- More is placed at the end, and what waited still waits.
pub record GoesOn (order : List ℕ) (lists : List (Vec Waiter Global)) (order' : List ℕ) (lists' : List (Vec Waiter Global)) : Type 0 where
  pub longer : (n : ℕ) → n ≤ length order → take n order' ≡ take n order
  pub size : length order ≤ length order'
  pub kept : (x : ℕ) → has order x ≡ true → has order' x ≡ true
  pub lists_kept : (y c : ℕ) (list : Vec Waiter Global) → slice_get lists y ≡ Some list → Any (λ (w : Waiter). w.class ≡ c) list.items
      → (list' : Vec Waiter Global) × (slice_get lists' y ≡ Some list') × Any (λ (w : Waiter). w.class ≡ c) list'.items

-- All that can be placed is, once: each other class has a direct supertype that is not placed either.
pub record IsFilled (g : List Parents) (order : Classes) : Type 0 where
  pub size : order.size ≡ length g
  pub distinct : IsDistinct nat_eq order.items
  pub front : IsFront g order.items
  pub left : (c : ℕ) → c < length g → has order.items c ≡ false → (y : ℕ) × IsDirect g c y × (has order.items y ≡ false)
