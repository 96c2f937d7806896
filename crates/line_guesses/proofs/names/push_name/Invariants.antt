use Rattle.std.proofs.Common.{◌≡◌, length}
use Rattle.line_guesses.specs.Guess.{name_on}
use Rattle.line_guesses.proofs.names.push_name.Given as goal

-- what is left gives what all gave
abbrev pub invariant-loop-left : goal.invariant-loop-left
invariant-loop-left l = record { same : name_on l.left l.name.items l.rest ≡ name_on (length l.bytes) l.fn.name.items l.bytes }

abbrev pub decreases-loop-left : goal.decreases-loop-left
decreases-loop-left l = l.left
