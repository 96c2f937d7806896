use Rattle.machine_laws.proofs.Operations.{loads_element, stores_element, makes_arrays}
use Rattle.machine_laws.proofs.node_progress.arrays_go_on.Goals as goal

pub returns : goal.returns
returns c = record { loads = loads_element; stores = stores_element; makes = makes_arrays }
