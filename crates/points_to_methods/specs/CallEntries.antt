-- This crate's own proofs alone rest on this module.
-- The entries of a call: a place for each unit of its arguments, and one for its result at each successor; and what they stand for.
use Rattle.std.specs.Prelude.{◌≡◌, ℕ, List, [], length, Option, Some, None, slice_get}
use Rattle.std.specs.List.{AllZip}
use Rattle.op_model.specs.declared.lowered.LoweredMethod.{LoweredMethod}
use Rattle.op_model.specs.declared.node.Node.{Node}
use Rattle.points_to_rules.specs.Facts.{Holder}
use Rattle.points_to_rules.specs.Rules.{IsSlotAt}
use Rattle.points_to_constraints.specs.NodeItems.{IsUnitHolder}
use Rattle.points_to_rules.specs.declared.place.PlaceNo.{PlaceNo}
use Rattle.points_to_numbers.specs.Numbered.{Grows, IsUnitAt, Numbered}

-- What was numbered stays, no call is numbered, and what is numbered then has the property.
pub record GrowsTo (P : Numbered → Type 0) (old new : Numbered) : Type 0 where
  pub grows : Grows old new
  pub calls : length new.calls ≡ length old.calls
  pub holds : P new

-- The entry stands for the holder of the unit of the arguments.
abbrev pub StandsForUnit : LoweredMethod → Node → Numbered → Option ℕ → Option PlaceNo → Type 0
StandsForUnit l n tables unit entry = (h : Option Holder) × IsUnitHolder l n unit h × IsUnitAt tables entry h

-- The place stands for the holder of the slot at the offset.
abbrev pub StandsForResult : LoweredMethod → (z : ℕ) → Numbered → (offset : ℕ) → PlaceNo → Type 0
StandsForResult l z tables offset place = (h : Holder) × IsSlotAt l offset z h × (slice_get tables.holders place.0 ≡ Some h)

-- The places stand for the holders of the result, one for each successor in their order.
abbrev pub StandForResults : LoweredMethod → Node → Numbered → Option ℕ → List PlaceNo → Type 0
StandForResults l n tables None places = places ≡ []
StandForResults l n tables (Some z) places = AllZip (StandsForResult l z tables) n.successors places
