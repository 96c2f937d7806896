use Rattle.fact_rows.proofs.OneRow.{row_of_fact, row_of_path}
use Rattle.fact_rows.proofs.laws.values_have_one_row.Goals as goal

pub returns-clause-paths : goal.returns-clause-paths
returns-clause-paths c = row_of_path

pub returns-clause-facts : goal.returns-clause-facts
returns-clause-facts c = row_of_fact
