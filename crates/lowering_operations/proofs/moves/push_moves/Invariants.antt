use Rattle.std.proofs.Common.{◌≡◌, ◌+◌, ◌++◌, take, map}
use Rattle.jvm_model.specs.RowViews.{source_view}
use Rattle.lowering_operations.specs.MoveLists.{moves_from}
use Rattle.lowering_operations.proofs.moves.push_moves.Given as goal

abbrev pub invariant-loop-unit : goal.invariant-loop-unit
invariant-loop-unit l = record {
  at : l.target ≡ l.start + l.unit-index;
  made : l.moves.items ≡ l.initial.moves.items ++ moves_from l.operand l.base l.start (map source_view (take l.unit-index l.units));
}
