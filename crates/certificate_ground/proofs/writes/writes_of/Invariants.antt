use Rattle.std.proofs.Common.{[], take}
use Rattle.ground.specs.Added.{AreAdded, OfOne}
use Rattle.certificate_ground.specs.Reached.{IsWriteOf}
use Rattle.certificate_ground.proofs.writes.writes_of.Given as goal

abbrev pub invariant-loop-line : goal.invariant-loop-line
invariant-loop-line l = record { added : AreAdded (OfOne IsWriteOf (take l.line-index l.lines)) [] l.writes.keys }
