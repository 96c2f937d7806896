use Rattle.std.proofs.Common.{Contains}
use Rattle.stage_soundness.proofs.Theorems.{stages_never_err}
use Rattle.stage_soundness.proofs.laws.closed_stages_never_err.Goals as goal

pub returns : goal.returns
returns c = λ x facts w edges. stages_never_err c.slots_of_one_variable.ensures c.objects_survive.ensures x facts w (Contains edges)
