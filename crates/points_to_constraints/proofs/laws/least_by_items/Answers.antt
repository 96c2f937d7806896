use Rattle.points_to_rules.specs.WholeMethods.{as_given}
use Rattle.points_to_constraints.proofs.ClosedFacts.{least_facts}
use Rattle.points_to_constraints.proofs.MeantItems.{derivable_fact}
use Rattle.points_to_constraints.proofs.laws.least_by_items.Goals as goal

pub returns : goal.returns
returns c = λ p given entry items methods least. least_facts p (as_given given) entry items methods (derivable_fact p (as_given given) entry) least
