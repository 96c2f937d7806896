use Rattle.std.proofs.Common.{take}
use Rattle.std.specs.List.{All}
use Rattle.slot_names.specs.Arriving.{AreSound, IsNoted, Rises}
use Rattle.slot_names.proofs.arrivals.note_successors.Given as goal

-- the successors so far are noted
abbrev pub invariant-loop-offset : goal.invariant-loop-offset
invariant-loop-offset l = record {
  sound : AreSound l.method l.arrivals;
  rises : Rises l.initial.arrivals l.arrivals;
  noted : All (IsNoted l.method l.arrivals l.from) (take l.offset-index l.offset-items);
}
