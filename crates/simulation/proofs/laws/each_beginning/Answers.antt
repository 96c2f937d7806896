use Rattle.simulation.proofs.Executions.{each_beginning}
use Rattle.simulation.proofs.laws.each_beginning.Goals as goal

pub returns : goal.returns
returns c = each_beginning
