use Rattle.example_nodes.proofs.ReturnRuns.{an_interface_method_is_called}
use Rattle.example_nodes.proofs.returns.an_interface_method_is_called.Goals as goal

pub returns : goal.returns
returns c = an_interface_method_is_called
