use Rattle.std.proofs.Common.{◌≡◌, length}
use Rattle.line_guesses.specs.Guess.{states_on}
use Rattle.line_guesses.proofs.line_guess.push_states.Given as goal

-- what is left gives what all gave
abbrev pub invariant-loop-left : goal.invariant-loop-left
invariant-loop-left l = record { same : states_on l.left l.states.items l.rest ≡ states_on (length l.bytes) l.fn.states.items l.bytes }

abbrev pub decreases-loop-left : goal.decreases-loop-left
decreases-loop-left l = l.left
