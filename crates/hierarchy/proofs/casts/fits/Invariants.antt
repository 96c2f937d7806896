use Rattle.std.proofs.Common.{length}
use Rattle.hierarchy.specs.Casts.{StandFor}
use Rattle.hierarchy.proofs.casts.fits.Given as goal

abbrev pub invariant-loop-over : goal.invariant-loop-over
invariant-loop-over l = StandFor l.program l.upper l.lower l.over l.under

abbrev pub decreases-loop-over : goal.decreases-loop-over
decreases-loop-over l = length l.under
