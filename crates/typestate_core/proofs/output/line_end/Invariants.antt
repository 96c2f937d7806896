use Rattle.std.proofs.Common.{◌≢◌, ℕ, ◌<◌, get_or}
use Rattle.typestate_core.proofs.output.line_end.Given as goal

abbrev pub invariant-loop-place : goal.invariant-loop-place
invariant-loop-place l = record { none : (k : ℕ) → k < l.place → get_or l.text k 0 ≢ 10 }
