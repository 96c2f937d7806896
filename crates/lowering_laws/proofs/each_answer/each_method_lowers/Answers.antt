use Rattle.lowering_laws.proofs.Accepted.{lowers}
use Rattle.lowering_laws.proofs.each_answer.each_method_lowers.Goals as goal

pub returns : goal.returns
returns c = lowers
