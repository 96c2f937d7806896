use Rattle.std.proofs.Common.{◌≡◌, Some, take}
use Rattle.std.specs.List.{slice_get}
use Rattle.op_model.specs.declared.lowered.LoweredMethod.{LoweredMethod}
use Rattle.ground_views.specs.Views.{AreNodeWays, AreOneForOne}
use Rattle.ground_views.proofs.method_ways.ways_of_method.Given as goal

abbrev pub invariant-loop-node : goal.invariant-loop-node
invariant-loop-node l = record {
  each : (m : LoweredMethod) → slice_get l.ground.methods l.place ≡ Some m → AreOneForOne (AreNodeWays l.ground m) (take l.node m.nodes) l.ways.items;
}
