use Rattle.lowering_laws.proofs.WalkEnds.{some_answer}
use Rattle.lowering_laws.proofs.graphs.each_code_has_a_graph.Goals as goal

pub returns : goal.returns
returns c = some_answer
