use Rattle.std.proofs.Common.{◌≡◌, take}
use Rattle.std.specs.List.{flat_map}
use Rattle.lowering_operations.specs.UnitLists.{unit_kinds}
use Rattle.lowering_operations.proofs.units.units_of.Given as goal

abbrev pub invariant-loop-kind : goal.invariant-loop-kind
invariant-loop-kind l = l.units.items ≡ flat_map unit_kinds (take l.kind-index l.kinds)
