use Rattle.example_nodes.proofs.LoweredCalls.{nodes_of_gate_close}
use Rattle.example_nodes.proofs.lowering_calls.nodes_of_gate_close.Goals as goal

pub returns : goal.returns
returns c = nodes_of_gate_close
