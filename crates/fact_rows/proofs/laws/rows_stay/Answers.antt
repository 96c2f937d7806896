use Rattle.fact_rows.proofs.Growing.{kept_path}
use Rattle.fact_rows.proofs.OneRow.{fact_stays}
use Rattle.fact_rows.proofs.laws.rows_stay.Goals as goal

pub returns-clause-paths : goal.returns-clause-paths
returns-clause-paths c = λ old new kept row x is. kept_path old new row x kept is

pub returns-clause-facts : goal.returns-clause-facts
returns-clause-facts c = fact_stays
