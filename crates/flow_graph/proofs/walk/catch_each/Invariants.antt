use Rattle.std.proofs.Common.{◌≡◌, drop}
use Rattle.flow_graph.specs.Walks.{caught, at_each}
use Rattle.flow_graph.proofs.walk.catch_each.Given as goal

abbrev pub invariant-loop-offset : goal.invariant-loop-offset
invariant-loop-offset l =
    let change = caught l.code.max_stack in
    at_each change l.code.instructions l.marks (drop l.offset-index l.offsets) ≡ at_each change l.code.instructions l.initial.marks l.offsets
