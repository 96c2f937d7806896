use Rattle.std.proofs.Common.{ℕ, ◌<◌, length, take}
use Rattle.std.specs.List.{All}
use Rattle.program_index.specs.declared.parents.Parents.{Parents}
use Rattle.program_index.specs.Supertypes.{direct_of}
use Rattle.unit_tests.proofs.linked.order.are_in_range.Given as goal

-- the classes so far have their supertypes in range
abbrev pub invariant-loop-direct : goal.invariant-loop-direct
invariant-loop-direct l = All (λ (p : Parents). All (λ (y : ℕ). y < length l.parents) (direct_of p)) (take l.direct-index l.parents)
