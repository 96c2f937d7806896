use Rattle.lowering_laws.proofs.StepRows.{step_row}
use Rattle.lowering_laws.proofs.steps.steps_have_rows.Goals as goal

pub returns : goal.returns
returns c = step_row
