use Rattle.lowering_laws.proofs.AlikeNodes.{accepted_once}
use Rattle.lowering_laws.proofs.answers.one_acceptance.Goals as goal

pub returns : goal.returns
returns c = accepted_once
