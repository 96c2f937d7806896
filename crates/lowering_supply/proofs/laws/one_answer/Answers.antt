use Rattle.lowering_supply.specs.OneAnswer.{one_answer}
use Rattle.lowering_supply.proofs.laws.one_answer.Goals as goal

pub returns : goal.returns
returns c = one_answer
