use Rattle.lowering_laws.proofs.EachReason.{first_reason}
use Rattle.lowering_laws.proofs.reasons.each_first_reason.Goals as goal

pub returns : goal.returns
returns c = first_reason
