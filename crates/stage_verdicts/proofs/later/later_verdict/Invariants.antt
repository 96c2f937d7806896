use Rattle.std.proofs.Common.{◌≡◌, ◌≤◌, ◌+◌, ◌-◌, ℕ, Some, Contains}
use Rattle.std.specs.List.{slice_get}
use Rattle.jvm_model.specs.declared.site.Site.{Site}
use Rattle.machine_bytecode.specs.Objects.{Subject}
use Rattle.ground.specs.Findings.{gives_listed}
use Rattle.prune_stage.specs.Pruning.{IsPruned}
use Rattle.stage_verdicts.specs.LaterVerdicts.{IsAtLimitBy, IsSafeBy, IsSubjectOf}
use Rattle.stage_verdicts.proofs.FirstStages.{IsSoFar}
use Rattle.stage_verdicts.proofs.later.later_verdict.Given as goal

abbrev pub invariant-loop-stage : goal.invariant-loop-stage
invariant-loop-stage l = record {
  from : 2 ≤ l.stage;
  within : l.stage ≤ l.asked.stages + 1;
  so_far : (x : Subject) (s : Site) → IsSubjectOf l.asked x → slice_get l.asked.ground.now.sites l.site.0 ≡ Some s
      → (IsPruned (gives_listed l.asked.ground.now.methods) (Contains l.asked.ground.now.facts) x.property s → ⊥) → (n : ℕ) → n + 1 ≡ l.stage
      → IsSoFar (IsSafeBy l.asked x s) (IsAtLimitBy l.asked x s) n l.verdict;
}

abbrev pub decreases-loop-stage : goal.decreases-loop-stage
decreases-loop-stage l = l.asked.stages + 1 - l.stage
