use Rattle.stage_answers.proofs.Listed.{listed_limit, listed_safe}
use Rattle.stage_answers.proofs.laws.listed_methods_suffice.Goals as goal

pub returns-clause-safe : goal.returns-clause-safe
returns-clause-safe c = listed_safe

pub returns-clause-at_limit : goal.returns-clause-at_limit
returns-clause-at_limit c = listed_limit
