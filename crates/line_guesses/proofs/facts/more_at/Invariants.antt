use Rattle.std.proofs.Common.{◌≡◌}
use Rattle.line_guesses.specs.Guess.{more_at}
use Rattle.line_guesses.proofs.facts.more_at.Given as goal

-- what is left gives what all gave
abbrev pub invariant-loop-left : goal.invariant-loop-left
invariant-loop-left l = record { same : more_at l.left l.paths l.rest ≡ more_at 5 l.fn.set l.bytes }

abbrev pub decreases-loop-left : goal.decreases-loop-left
decreases-loop-left l = l.left
