use Rattle.certificate_lines.proofs.LineOrders.{line_exact, line_total}
use Rattle.certificate_lines.proofs.laws.lines_are_ordered.Goals as goal

pub returns-clause-total : goal.returns-clause-total
returns-clause-total c = line_total

pub returns-clause-exact : goal.returns-clause-exact
returns-clause-exact c = line_exact
