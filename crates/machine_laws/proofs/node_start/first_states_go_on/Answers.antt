use Rattle.machine_laws.proofs.Starts.{first_goes_on}
use Rattle.machine_laws.proofs.node_start.first_states_go_on.Goals as goal

pub returns : goal.returns
returns c = first_goes_on
