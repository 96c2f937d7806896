-- This crate's own proofs alone rest on this module.
-- How an item is put among the constraints of the places.
use Rattle.std.specs.Prelude.{List}
use Rattle.std.specs.declared.vec.Vec.{Vec}
use Rattle.std.specs.declared.alloc.Global.{Global}
use Rattle.points_to_numbers.specs.declared.item.Item.{Item}
use Rattle.points_to_numbers.specs.declared.item.Item.TheVariants.{Holds, Runs, Calls, Constrains}
use Rattle.points_to_numbers.specs.declared.keys.ConstraintNo.{ConstraintNo}
use Rattle.grouped_lists.specs.Groups.{IsPut, IsSame}

abbrev pub ConstraintGroups : Type 0
ConstraintGroups = List (Vec ConstraintNo Global)

-- The constraint is put at its place; or nothing is.
abbrev pub IsIndexed : ConstraintGroups → ConstraintGroups → Item → Type 0
IsIndexed old new (Holds place site) = IsSame old new
IsIndexed old new (Runs method) = IsSame old new
IsIndexed old new (Calls call target) = IsSame old new
IsIndexed old new (Constrains place constraint) = IsPut old new place.0 constraint
