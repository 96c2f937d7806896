use Rattle.lowering_laws.proofs.OneRefusal.{refused_alone}
use Rattle.lowering_laws.proofs.answers.refused_or_accepted.Goals as goal

pub returns : goal.returns
returns c = refused_alone
