use Rattle.std.proofs.Common.{length}
use Rattle.lowering_reasons.proofs.ArrayElements.{AreTaken}
use Rattle.lowering_reasons.proofs.absent.behind_brackets.Given as goal

abbrev pub invariant-loop-inner : goal.invariant-loop-inner
invariant-loop-inner l = AreTaken l.name l.rest

abbrev pub decreases-loop-inner : goal.decreases-loop-inner
decreases-loop-inner l = length l.rest
