use Rattle.std.proofs.Common.{◌≡◌, ℕ, ◌<◌, Some, slice_get}
use Rattle.property_file.proofs.state_list.state_number.Given as goal

-- no state so far has the name
abbrev pub invariant-loop-number : goal.invariant-loop-number
invariant-loop-number l = (k : ℕ) → k < l.number → slice_get l.states k ≡ Some l.name → ⊥
