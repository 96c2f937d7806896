use Rattle.lowering_laws.proofs.EachReason.{has_reason_or_not}
use Rattle.lowering_laws.proofs.reasons.reasons_are_decided.Goals as goal

pub returns : goal.returns
returns c = has_reason_or_not
