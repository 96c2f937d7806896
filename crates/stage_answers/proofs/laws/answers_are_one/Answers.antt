use Rattle.stage_answers.proofs.OneSetting.{either, safe_same}
use Rattle.stage_answers.proofs.laws.answers_are_one.Goals as goal

pub returns-clause-safe : goal.returns-clause-safe
returns-clause-safe c = λ x facts w v limit of_w of_v site stage depth. safe_same x facts w v of_w of_v site stage depth limit

pub returns-clause-either : goal.returns-clause-either
returns-clause-either c = either
