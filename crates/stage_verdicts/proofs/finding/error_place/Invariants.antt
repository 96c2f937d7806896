use Rattle.std.proofs.Common.{◌≡◌, ◌<◌, ℕ, Some}
use Rattle.std.specs.List.{slice_get}
use Rattle.stage_edges.specs.Edges.{IsError}
use Rattle.stage_edges.specs.Rules.{Edge}
use Rattle.stage_verdicts.proofs.finding.error_place.Given as goal

abbrev pub invariant-loop-place : goal.invariant-loop-place
invariant-loop-place l = record { none : (k : ℕ) (e : Edge) → k < l.place → slice_get l.edges.edges k ≡ Some e → IsError l.automaton e.fact → ⊥ }
