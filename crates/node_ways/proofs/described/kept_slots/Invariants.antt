use Rattle.std.proofs.Common.{◌≡◌, ℕ, List, take}
use Rattle.std.specs.List.{flat_map}
use Rattle.node_ways.specs.Parts.{AreParameters}
use Rattle.node_ways.proofs.Describing.{kept_of}
use Rattle.node_ways.proofs.described.kept_slots.Given as goal

abbrev pub invariant-loop-argument : goal.invariant-loop-argument
invariant-loop-argument l = record {
  kept : (parameters : List (List ℕ)) → AreParameters l.stub parameters → l.kept.items ≡ flat_map (kept_of l.call l.stub parameters) (take l.argument-index l.argument-items);
}
