use Rattle.std.proofs.Common.{◌≡◌, ◌+◌, take, map}
use Rattle.jvm_model.specs.RowViews.{kind_view}
use Rattle.lowering_spec.specs.Operations.{unit_slots}
use Rattle.lowering_operations.proofs.units.unit_slots.Given as goal

abbrev pub invariant-loop-unit : goal.invariant-loop-unit
invariant-loop-unit l = record {
  at : l.slot ≡ l.start + l.unit-index;
  made : l.slots.items ≡ unit_slots l.start (map kind_view (take l.unit-index l.units));
}
