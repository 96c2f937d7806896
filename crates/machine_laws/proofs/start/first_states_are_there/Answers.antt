use Rattle.machine_laws.proofs.FirstStates.{some_first}
use Rattle.machine_laws.proofs.start.first_states_are_there.Goals as goal

pub returns : goal.returns
returns c = some_first
