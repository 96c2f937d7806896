use Rattle.machine_bytecode.proofs.GoingOn.{goes_on}
use Rattle.machine_bytecode.proofs.laws.executions_go_on.Goals as goal

pub returns : goal.returns
returns c = goes_on
