use Rattle.lowering_laws.proofs.OneOperation.{operation_once}
use Rattle.lowering_laws.proofs.nodes.one_operation.Goals as goal

pub returns : goal.returns
returns c = operation_once
