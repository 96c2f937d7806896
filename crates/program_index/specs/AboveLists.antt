-- Public contracts rest on this module.
-- The lists of the supertypes of each class through its superinterfaces.
use Rattle.std.specs.Prelude.{◌≡◌, ℕ, ◌<◌, List, Vec, [], ◌∷◌, Some, length, slice_get, IsPermutation}
use Rattle.std.specs.List.Sorted.{IsNonDecreasing}
use Rattle.std.specs.declared.alloc.Global.{Global}
use Rattle.program_index.specs.declared.parents.Parents.{Parents}
use Rattle.program_index.specs.Supertypes.{IsAbove, IsAtOrAbove}
use Rattle.program_index.specs.SearchOrder.{ExpandsAll, firsts}
use Rattle.program_index.specs.ClassSets.{Classes, with_classes}

-- The list has, without doubles, what is searched through the superinterfaces of the class, in that order (JVMS 5.4.3.2).
pub record IsSearched (g : List Parents) (c : ℕ) (list : List ℕ) : Type 0 where
  pub parents : Parents
  pub stands : slice_get g c ≡ Some parents
  pub all : List ℕ
  pub expands : ExpandsAll g parents.interfaces.items all
  pub is : list ≡ firsts all

-- The list at the class is that.
pub record IsListed (g : List Parents) (lists : List (Vec ℕ Global)) (c : ℕ) : Type 0 where
  pub list : Vec ℕ Global
  pub stands : slice_get lists c ≡ Some list
  pub searched : IsSearched g c list.items

-- There is such a list for each class, at its number.
pub record AreAboveLists (g : List Parents) (lists : List (Vec ℕ Global)) : Type 0 where
  pub size : length lists ≡ length g
  pub each : (c : ℕ) → c < length g → IsListed g lists c

-- The class and each one above it has such a list.
pub record AreListedFrom (g : List Parents) (lists : List (Vec ℕ Global)) (x : ℕ) : Type 0 where
  pub listed : (y : ℕ) → IsAtOrAbove g x y → IsListed g lists y

-- Each class above it has such a list.
pub record AreListedAbove (g : List Parents) (lists : List (Vec ℕ Global)) (x : ℕ) : Type 0 where
  pub listed : (y : ℕ) → IsAbove g x y → IsListed g lists y

-- What is searched from x on was added to a set.
pub record IsGathered (g : List Parents) (x : ℕ) (before after : Classes) : Type 0 where
  pub all : List ℕ
  pub expands : ExpandsAll g (x ∷ []) all
  pub is : after ≡ record { size = before.size; items = with_classes before.items all }

-- The same numbers, ascending.
pub record IsSortedCopy (list sorted : Vec ℕ Global) : Type 0 where
  pub moved : IsPermutation list.items sorted.items
  pub ascending : IsNonDecreasing sorted.items

-- The list at the class has, ascending, the supertypes of the class through its superinterfaces.
pub record IsSortedAbove (g : List Parents) (sorted : List (Vec ℕ Global)) (c : ℕ) : Type 0 where
  pub list : List ℕ
  pub searched : IsSearched g c list
  pub copy : Vec ℕ Global
  pub stands : slice_get sorted c ≡ Some copy
  pub moved : IsPermutation list copy.items
  pub ascending : IsNonDecreasing copy.items

-- There is such a list for each class, at its number.
pub record AreSortedAbove (g : List Parents) (sorted : List (Vec ℕ Global)) : Type 0 where
  pub each : (c : ℕ) → c < length g → IsSortedAbove g sorted c
