use Rattle.fact_rows.proofs.OneRow.{fact_of_row, path_of_row}
use Rattle.fact_rows.proofs.laws.rows_tell_values.Goals as goal

pub returns-clause-paths : goal.returns-clause-paths
returns-clause-paths c = path_of_row

pub returns-clause-facts : goal.returns-clause-facts
returns-clause-facts c = fact_of_row
