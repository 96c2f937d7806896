use Rattle.std.proofs.Common.{[], ◌∷◌, ◌++◌, take, sym, ◌∙◌, subst}
use Rattle.std.specs.List.{filter}
use Rattle.stage_views.specs.declared.gathering.Gathering.{Gathering}
use Rattle.stage_views.specs.Views.{Gathers}
use Rattle.stage_calls.proofs.Gathering.{gathers_failing, gathers_passing}
use Rattle.stage_calls.proofs.path_test.gather_paths.Goals as goal
use Rattle.stage_calls.proofs.path_test.gather_paths.Goals.{then-holds, else-holds}

pub loop-path-preserved : goal.loop-path-preserved
loop-path-preserved g c p before computes initial =
    let xs = c.args.paths.now in
    let i = c.loop-path.path-index in
    let x = c.path-item.result in
    let told = sym (c.holds.ensures p computes) in
    let gathered = c.loop-path.invariant p before computes initial in
    elim c.if-holds.branch [
      | then-holds w ↦
          let more : Gathers c.if-holds.gathering (before ++ filter p (take i xs) ++ x ∷ []) =
          subst (λ (s : Gathering). Gathers s (before ++ filter p (take i xs) ++ x ∷ [])) (sym w.gathering-is) (w.add.ensures _ gathered) in
          gathers_passing c.if-holds.gathering before p xs i x c.loop-path-test.true c.path-item.is (told ∙ w.if-holds.true) more
      | else-holds w ↦
          let same : Gathers c.if-holds.gathering (before ++ filter p (take i xs)) =
          subst (λ (s : Gathering). Gathers s (before ++ filter p (take i xs))) (sym w.gathering-is) gathered in
          gathers_failing c.if-holds.gathering before p xs i x c.loop-path-test.true c.path-item.is (told ∙ w.if-holds.false) same
    ]
