use Rattle.std.proofs.Common.{take}
use Rattle.slot_names.specs.Branches.{Extends}
use Rattle.ground.specs.Added.{AreAdded, OfOne}
use Rattle.call_graph.proofs.Closings.{IsWriteBy}
use Rattle.call_graph.proofs.writes.add_to_callers.Given as goal

abbrev pub invariant-loop-caller : goal.invariant-loop-caller
invariant-loop-caller l = record {
  added : AreAdded (OfOne (IsWriteBy l.field) (take l.caller-index l.callers)) l.initial.writes.keys l.writes.keys;
  longer : Extends l.initial.writes.keys l.writes.keys;
}
