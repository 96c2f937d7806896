use Rattle.simulation.proofs.Executions.{each_step}
use Rattle.simulation.proofs.laws.each_step.Goals as goal

pub returns : goal.returns
returns c = each_step
