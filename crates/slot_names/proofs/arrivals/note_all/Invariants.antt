use Rattle.slot_names.specs.Arriving.{AreNoted, AreSound}
use Rattle.slot_names.proofs.arrivals.note_all.Given as goal

-- all is noted of the nodes so far
abbrev pub invariant-loop-from : goal.invariant-loop-from
invariant-loop-from l = record {
  sound : AreSound l.method l.arrivals;
  noted : AreNoted l.method l.arrivals l.from;
}
