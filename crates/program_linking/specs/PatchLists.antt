-- Public contracts rest on this module.
-- Patches in lists, one for each name of a class that has patches.
use Rattle.std.specs.Prelude.{◌≡◌, ℕ, List, [], ◌∷◌, ◌++◌, map, length, Some, slice_get}
use Rattle.std.specs.Borrow.{Bor}
use Rattle.std.specs.Global.{Vec}
use Rattle.jvm_model.specs.declared.stub.StubClass.{StubClass}
use Rattle.program_index.specs.FirstPlaces.{StandsNowhere}
use Rattle.program_index.specs.TextNumbers.{AreDistinct}
use Rattle.program_linking.specs.Patching.{patches_for}

-- the stubs to which the references of lists point
abbrev pub lent_stubs : List (Bor StubClass) → List StubClass
lent_stubs list = map (λ (s : Bor StubClass). s.now) list

abbrev pub lent_lists : List (Vec (Bor StubClass)) → List (List StubClass)
lent_lists lists = map (λ (list : Vec (Bor StubClass)). lent_stubs list.items) lists

-- each name has the list of its patches, and a class of another name has none
pub record AreListed (stubs : List StubClass) (names : List (List ℕ)) (lists : List (List StubClass)) : Type 0 where
  pub distinct : AreDistinct names
  pub count : length lists ≡ length names
  pub listed : (place : ℕ) (name : List ℕ) → slice_get names place ≡ Some name → slice_get lists place ≡ Some (patches_for name stubs)
  pub others : (name : List ℕ) → StandsNowhere names name → patches_for name stubs ≡ []

-- with one stub more
pub record PatchGoes (stub : StubClass) (names : List (List ℕ)) (lists : List (List StubClass)) (new_names : List (List ℕ)) (new_lists : List (List StubClass)) : Type 0 where
  pub more : (stubs : List StubClass) → AreListed stubs names lists → AreListed (stubs ++ stub ∷ []) new_names new_lists

-- with one name more, or with none
pub record PlaceGoes (names : List (List ℕ)) (lists : List (List StubClass)) (new_names : List (List ℕ)) (new_lists : List (List StubClass)) : Type 0 where
  pub same : (stubs : List StubClass) → AreListed stubs names lists → AreListed stubs new_names new_lists
