use Rattle.chained_lists.specs.Entries.{IsOn}
use Rattle.stage_tests.proofs.chains.walked.Given as goal

abbrev pub invariant-loop : goal.invariant-loop
invariant-loop l = record { on : IsOn l.chains l.number l.last }
