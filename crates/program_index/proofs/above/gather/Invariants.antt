use Rattle.program_index.proofs.Gathering.{IsGathering, places_left}
use Rattle.program_index.proofs.above.gather.Given as goal

-- what was gathered, and what is left to search from the next class on
abbrev pub invariant-loop-next : goal.invariant-loop-next
invariant-loop-next l = IsGathering l.parents l.lists l.first l.initial.gathered l.gathered l.next

abbrev pub decreases-loop-next : goal.decreases-loop-next
decreases-loop-next l = places_left l.order l.next
