use Rattle.lowering_laws.proofs.FirstReasons.{one_reason}
use Rattle.lowering_laws.proofs.answers.one_first_reason.Goals as goal

pub returns : goal.returns
returns c = one_reason
