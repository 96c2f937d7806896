use Rattle.std.proofs.Common.{◌≡◌, ◌⊎◌, ◌<◌, length}
use Rattle.typestate_core.specs.Output.{lines_in}
use Rattle.typestate_core.proofs.LastLines.{IsLeft}
use Rattle.typestate_core.proofs.sample.last_line.Given as goal

abbrev pub invariant-loop-line : goal.invariant-loop-line
invariant-loop-line l = record { left : IsLeft (lines_in l.text) (lines_in l.rest); some : (l.rest ≡ l.text) ⊎ (0 < length l.rest) }

abbrev pub decreases-loop-line : goal.decreases-loop-line
decreases-loop-line l = length l.rest
