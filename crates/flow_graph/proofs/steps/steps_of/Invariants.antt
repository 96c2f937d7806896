use Rattle.std.proofs.Common.{◌≡◌, ◌++◌, drop}
use Rattle.flow_graph.specs.Graphs.{steps_from, steps_of}
use Rattle.flow_graph.proofs.steps.steps_of.Given as goal

abbrev pub invariant-loop-number : goal.invariant-loop-number
invariant-loop-number l =
    l.steps.items ++ steps_from l.code l.number (drop l.number l.code.instructions) (drop l.number l.marks) ≡ steps_of l.code l.marks
