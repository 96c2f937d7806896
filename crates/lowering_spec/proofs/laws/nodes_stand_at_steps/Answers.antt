use Rattle.lowering_spec.proofs.StepNodes.{same_offsets}
use Rattle.lowering_spec.proofs.laws.nodes_stand_at_steps.Goals as goal

pub returns : goal.returns
returns c p number pool code graph l is = same_offsets p number is.method pool code graph.steps l.nodes is.nodes
