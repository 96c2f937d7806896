-- Public contracts rest on this module.
-- How many facts of some kind are derivable. A part of a fact is what tells one of that kind from others: the fact itself, a pair that it
-- states, or nothing where it is of another kind.
use Rattle.std.specs.Prelude.{◌≡◌, ℕ, List, length, Option, All}
use Rattle.std.specs.List.{filter_map}
use Rattle.least_sets.specs.Rules.{IsDerivable, IsWithoutDoubles}

-- The parts of the facts that have one, in their order.
abbrev pub parts_of : {F G : Type 0} → (F → Option G) → List F → List G
parts_of part facts = filter_map part facts

-- There are derivable facts whose parts differ, and are this many.
pub record HasAtLeast {F G : Type 0} (Instance : List F → F → Type 0) (part : F → Option G) (n : ℕ) : Type 0 where
  pub facts : List F
  pub derivable : All (IsDerivable Instance) facts
  pub apart : IsWithoutDoubles (parts_of part facts)
  pub count : length (parts_of part facts) ≡ n
