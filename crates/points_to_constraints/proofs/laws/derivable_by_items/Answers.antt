use Rattle.points_to_rules.specs.WholeMethods.{as_given}
use Rattle.points_to_constraints.proofs.MeantItems.{derivable_fact}
use Rattle.points_to_constraints.proofs.laws.derivable_by_items.Goals as goal

pub returns : goal.returns
returns c p given = derivable_fact p (as_given given)
