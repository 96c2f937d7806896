use Rattle.flow_graph.proofs.WholeFlow.{flow_told}
use Rattle.flow_graph.proofs.build.graph.Goals as goal

pub returns-clause-flow : goal.returns-clause-flow
returns-clause-flow c = flow_told c.args.class.now c.args.code.now c.graph_or_fault.result c.requires.code c.graph_or_fault.ensures
