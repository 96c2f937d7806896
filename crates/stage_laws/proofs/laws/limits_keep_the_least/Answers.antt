use Rattle.access_paths.specs.Paths.{most_paths}
use Rattle.stage_laws.proofs.Fronts.{front_least}
use Rattle.stage_laws.proofs.laws.limits_keep_the_least.Goals as goal

pub returns : goal.returns
returns c = λ set x y ordered kept there left. front_least most_paths set x y ordered kept there left
