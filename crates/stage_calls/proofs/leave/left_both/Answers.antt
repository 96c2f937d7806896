use Rattle.std.proofs.Common.{◌≡◌, List, subst, ◌∙◌}
use Rattle.access_paths.specs.Paths.{Path}
use Rattle.stage_transfer.specs.Calls.{left, left_set}
use Rattle.stage_views.specs.Views.{entering_of}
use Rattle.stage_views.specs.Drafts.{IsCutOf}
use Rattle.stage_calls.proofs.leave.left_both.Goals as goal

pub returns : goal.returns
returns g c w l n setting knows =
    let by = entering_of c.args.joins.now.by in
    let target = c.args.joins.now.target in
    let caller = c.args.caller.now in
    let exit = c.args.exit.now in
    let unique : c.exit.inside.unique ≡ exit.unique = cc in
    let state : c.exit.inside.state ≡ exit.state = cc in
    let caller_must : c.caller.inside.must ≡ caller.must = cc in
    let exit_must : c.exit.inside.must ≡ exit.must = cc in
    let caller_others : c.caller.inside.must_not ≡ caller.must_not = cc in
    let exit_others : c.exit.inside.must_not ≡ exit.must_not = cc in
    let paths = c.has_paths.ensures in
    let others = c.has_others.ensures in
    c.finish.ensures w (left w l n by target caller exit) setting (record {
      unique = unique;
      state = state;
      must = λ has.
          subst (λ (xs : List Path). IsCutOf c.left_set.result xs) (λ i. left_set w by target (caller_must i) (exit_must i)) (c.left_set.ensures w l n (paths ∙ has) knows);
      may = λ has. c.both_may.ensures w l n knows;
      must_not = λ has.
          (subst (λ (xs : List Path). IsCutOf c.left_set-2.result xs) (λ i. left_set w by target (caller_others i) (exit_others i)) (c.left_set-2.ensures w l n (others ∙ has) knows)).set;
    })
