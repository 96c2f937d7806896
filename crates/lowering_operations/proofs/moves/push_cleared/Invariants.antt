use Rattle.std.proofs.Common.{◌≡◌, ◌++◌}
use Rattle.lowering_operations.specs.MoveLists.{cleared_from}
use Rattle.lowering_operations.proofs.moves.push_cleared.Given as goal

abbrev pub invariant-loop-k : goal.invariant-loop-k
invariant-loop-k l = l.moves.items ≡ l.initial.moves.items ++ cleared_from l.k l.start
