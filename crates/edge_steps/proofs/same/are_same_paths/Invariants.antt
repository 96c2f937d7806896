use Rattle.std.proofs.Common.{◌≡◌, take}
use Rattle.edge_steps.proofs.same.are_same_paths.Given as goal

abbrev pub invariant-loop-at : goal.invariant-loop-at
invariant-loop-at l = record { same : take l.at l.first ≡ take l.at l.second }
