use Rattle.simulation.proofs.Executions.{each_execution}
use Rattle.simulation.proofs.laws.each_execution.Goals as goal

pub returns : goal.returns
returns c = each_execution
