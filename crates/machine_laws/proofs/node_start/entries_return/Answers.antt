use Rattle.machine_laws.proofs.Starts.{entries_return}
use Rattle.machine_laws.proofs.node_start.entries_return.Goals as goal

pub returns : goal.returns
returns c = entries_return
