use Rattle.std.proofs.Common.{◌≡◌, ◌+◌, ◌-◌, ℕ, sym, subst, arith}
use Rattle.report_spec.specs.Verdicts.{IsFirstStage}
use Rattle.stage_verdicts.specs.LaterVerdicts.{IsAtLimitBy, IsFinding, IsLimited, IsSafeBy}
use Rattle.stage_verdicts.proofs.FirstStages.{IsSoFar, last_so_far, limit_so_far, neither_so_far, safe_at_last}
use Rattle.stage_verdicts.proofs.later.later_verdict.Goals as goal
use Rattle.stage_verdicts.proofs.later.later_verdict.Goals.{in-AtLimit, in-Unproved}

pub returns-in-Safe : goal.returns-in-Safe
returns-in-Safe c = λ x s subject at unpruned.
    let a = c.args.asked in
    let stage = c.loop-stage.stage in
    let from = c.loop-stage.invariant.from in
    let next : (stage - 1) + 1 ≡ stage = (omega (arith, from)) in
    let now : IsSafeBy a x s stage = subst (IsFinding a x s stage) c.in-Safe.is (c.in_ok-finding_of.ensures x s subject at) in
    let short = c.loop-stage-test.true in
    subst (λ (k : ℕ). IsFirstStage (IsSafeBy a x s) a.stages k) next
    (safe_at_last (IsSafeBy a x s) (IsAtLimitBy a x s) (stage - 1) a.stages c.loop-stage.verdict (c.loop-stage.invariant.so_far x s subject at unpruned (stage - 1) next)
    (subst (IsSafeBy a x s) (sym next) now) (omega (arith, from, short)))

pub loop-stage-preserved : goal.loop-stage-preserved
loop-stage-preserved c =
    let a = c.args.asked in
    let stage = c.loop-stage.stage in
    let from = c.loop-stage.invariant.from in
    let short = c.loop-stage-test.true in
    let next : (stage - 1) + 1 ≡ stage = (omega (arith, from)) in
    record {
      from = omega (arith, from);
      within = omega (arith, short);
      so_far = λ x s subject at unpruned n is.
          let found = c.in_ok-finding_of.ensures x s subject at in
          let before = c.loop-stage.invariant.so_far x s subject at unpruned (stage - 1) next in
          let same : (stage - 1) + 1 ≡ n = (omega (arith, from, is)) in
          subst (λ (k : ℕ). IsSoFar (IsSafeBy a x s) (IsAtLimitBy a x s) k c.match-branch-2.verdict) same
          (elim c.match-branch-2.branch [
            | in-AtLimit w ↦
                let both = subst (IsFinding a x s stage) w.in-AtLimit.is found in
                limit_so_far (IsSafeBy a x s) (IsAtLimitBy a x s) (stage - 1) c.loop-stage.verdict c.match-branch-2.verdict before
                (subst (λ (k : ℕ). IsSafeBy a x s k → ⊥) (sym next) both.0) (subst (IsAtLimitBy a x s) (sym next) both.1)
                (subst (IsLimited c.loop-stage.verdict (stage - 1 + 1)) (sym w.verdict-is)
                (subst (λ (k : ℕ). IsLimited c.loop-stage.verdict k w.with_limit-verdict.result) (sym next) w.with_limit-verdict.ensures))
            | in-Unproved w ↦
                let both = subst (IsFinding a x s stage) w.in-Unproved.is found in
                subst (IsSoFar (IsSafeBy a x s) (IsAtLimitBy a x s) (stage - 1 + 1)) (sym w.verdict-is)
                (neither_so_far (IsSafeBy a x s) (IsAtLimitBy a x s) (stage - 1) c.loop-stage.verdict before (subst (λ (k : ℕ). IsSafeBy a x s k → ⊥) (sym next) both.0)
                (subst (λ (k : ℕ). IsAtLimitBy a x s k → ⊥) (sym next) both.1))
          ]);
    }

pub returns : goal.returns
returns c = λ x s subject at unpruned.
    let a = c.args.asked in
    let stage = c.loop-stage.stage in
    let from = c.loop-stage.invariant.from in
    let within = c.loop-stage.invariant.within in
    let all = c.loop-stage-test.false in
    let next : a.stages + 1 ≡ stage = (omega (arith, within, all)) in
    last_so_far (IsSafeBy a x s) (IsAtLimitBy a x s) a.stages c.loop-stage.verdict (c.loop-stage.invariant.so_far x s subject at unpruned a.stages next)
