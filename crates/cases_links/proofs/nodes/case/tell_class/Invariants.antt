use Rattle.std.proofs.Common.{◌≡◌}
use Rattle.cases_links.proofs.nodes.case.tell_class.Given as goal

abbrev pub invariant-loop-member : goal.invariant-loop-member
invariant-loop-member g l = l.supply ≡ l.program
