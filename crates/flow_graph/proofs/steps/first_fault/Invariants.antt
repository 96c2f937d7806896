use Rattle.std.proofs.Common.{◌≡◌, drop}
use Rattle.flow_graph.specs.Graphs.{first_fault}
use Rattle.flow_graph.proofs.steps.first_fault.Given as goal

abbrev pub invariant-loop-number : goal.invariant-loop-number
invariant-loop-number l = first_fault l.instructions l.marks ≡ first_fault (drop l.number l.instructions) (drop l.number l.marks)
