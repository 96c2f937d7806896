use Rattle.run_soundness.proofs.Verdicts.{least_are_closed}
use Rattle.run_soundness.proofs.report_laws.least_facts_are_closed.Goals as goal

pub returns : goal.returns
returns c = least_are_closed
