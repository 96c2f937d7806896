use Rattle.lowering_laws.proofs.OneRefusal.{refused_once}
use Rattle.lowering_laws.proofs.answers.one_refusal.Goals as goal

pub returns : goal.returns
returns c = refused_once
