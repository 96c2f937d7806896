use Rattle.lowering_supply.proofs.EachAnswer.{each_answer}
use Rattle.lowering_supply.proofs.laws.each_answer.Goals as goal

pub returns : goal.returns
returns c = each_answer
