use Rattle.listed_answers.proofs.Answering.{are_answers}
use Rattle.listed_answers.proofs.laws.answers_by_are_of.Goals as goal

pub returns : goal.returns
returns c = are_answers
