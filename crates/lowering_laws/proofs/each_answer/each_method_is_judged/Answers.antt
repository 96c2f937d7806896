use Rattle.lowering_laws.proofs.Judged.{refused_or_free}
use Rattle.lowering_laws.proofs.each_answer.each_method_is_judged.Goals as goal

pub returns : goal.returns
returns c = refused_or_free
