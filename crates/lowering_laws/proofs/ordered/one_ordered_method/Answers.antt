use Rattle.lowering_laws.proofs.OrderedNodes.{ordered_once}
use Rattle.lowering_laws.proofs.ordered.one_ordered_method.Goals as goal

pub returns : goal.returns
returns c = ordered_once
