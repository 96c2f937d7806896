use Rattle.stage_soundness.proofs.Theorems.{safe_never_errs}
use Rattle.stage_soundness.proofs.laws.safe_stages_never_err.Goals as goal

pub returns : goal.returns
returns c = safe_never_errs c.slots_of_one_variable.ensures c.objects_survive.ensures
