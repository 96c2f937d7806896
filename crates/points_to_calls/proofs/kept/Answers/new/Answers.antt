use Rattle.points_to_calls.proofs.RightAnswers.{none_answered}
use Rattle.points_to_calls.proofs.kept.Answers.new.Goals as goal

pub returns-clause-right : goal.returns-clause-right
returns-clause-right c = λ p n. none_answered p n (record { fits = c.new.result; selected = c.new-2.result }) c.new.ensures.empty c.new-2.ensures.empty
