use Rattle.edge_checker.specs.Parts.{to_node, to_return, to_throw}
use Rattle.edge_checker.proofs.nodes.node_of.Goals as goal

pub returns-in-Node : goal.returns-in-Node
returns-in-Node c = to_node c.in-Node.offset c.in-Node.is

pub returns-in-Returned : goal.returns-in-Returned
returns-in-Returned c = to_return c.in-Returned.is

pub returns-in-Thrown : goal.returns-in-Thrown
returns-in-Thrown c = to_throw c.in-Thrown.is
