-- This crate's own proofs alone rest on this module.
-- The parts of a cast: a class to a class, an array to itself, and the names of elements in place of those of arrays.
use Rattle.std.specs.Prelude.{◌≡◌, ◌↔◌, ℕ, List, Some, IsTrue}
use Rattle.jvm_model.specs.Programs.{Class, Program}
use Rattle.jvm_model.specs.Soundness.{is_array}
use Rattle.jvm_model.specs.Subtypes.{class_named, IsSubtype, Fits}

-- The lower name is that of a class of the program, which is a subtype of the class of the upper name.
pub record IsClassBelow (p : Program) (upper lower : List ℕ) : Type 0 where
  pub class : Class
  pub named : class_named p lower ≡ Some class
  pub below : IsSubtype p upper lower

-- Both names are that of one array.
abbrev pub IsSameArray : List ℕ → List ℕ → Type 0
IsSameArray upper lower = IsTrue (is_array lower) × (upper ≡ lower)

-- The names over and under stand for the names upper and lower: they fit exactly where those do, and they are not the name of one array.
pub record StandFor (p : Program) (upper lower over under : List ℕ) : Type 0 where
  pub alike : Fits p upper lower ↔ Fits p over under
  pub apart : IsSameArray over under → ⊥
