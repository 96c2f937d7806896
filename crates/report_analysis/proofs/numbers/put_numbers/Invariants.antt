use Rattle.std.proofs.Common.{length}
use Rattle.report_analysis.specs.Numbers.{AreTurnedRound}
use Rattle.report_analysis.proofs.numbers.put_numbers.Given as goal

abbrev pub invariant-loop-number : goal.invariant-loop-number
invariant-loop-number l = record { turned : AreTurnedRound l.places (length l.initial.numbers) l.number l.numbers }
