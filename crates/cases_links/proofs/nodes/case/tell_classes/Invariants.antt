use Rattle.std.proofs.Common.{◌≡◌}
use Rattle.cases_links.proofs.nodes.case.tell_classes.Given as goal

abbrev pub invariant-loop-number : goal.invariant-loop-number
invariant-loop-number g l = l.supply ≡ l.program
