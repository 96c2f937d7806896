use Rattle.program_index.proofs.Reaching.{IsReaching}
use Rattle.program_index.proofs.above.is_at_or_above.Given as goal

-- the upper class is reached from the lower one exactly if it is from the class that is searched now
abbrev pub invariant-loop : goal.invariant-loop
invariant-loop l = IsReaching l.parents l.lower l.upper l.class l.index
