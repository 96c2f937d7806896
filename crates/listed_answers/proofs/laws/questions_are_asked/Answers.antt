use Rattle.listed_answers.proofs.Answering.{is_asked}
use Rattle.listed_answers.proofs.laws.questions_are_asked.Goals as goal

pub returns : goal.returns
returns c = is_asked
