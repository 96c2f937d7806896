use Rattle.std.proofs.Common.{◌≡◌, List, refl, subst, ◌∙◌}
use Rattle.access_paths.specs.Paths.{Path}
use Rattle.stage_transfer.specs.Calls.{joined, referring}
use Rattle.stage_transfer.specs.Settings.{alike}
use Rattle.stage_calls.specs.Events.{in_state}
use Rattle.stage_views.specs.Drafts.{IsCutOf}
use Rattle.stage_calls.proofs.event.referring.Goals as goal

pub returns : goal.returns
returns g c w l n setting knows =
    let t = c.args.tuple.now in
    let slots = alike w l n c.args.slot in
    let unique : c.tuple.inside.unique ≡ t.unique = cc in
    let may : c.tuple.inside.may ≡ t.may = cc in
    let must : c.tuple.inside.must ≡ t.must = cc in
    let must_not : c.tuple.inside.must_not ≡ t.must_not = cc in
    let paths = c.has_paths.ensures in
    c.finish.ensures w (referring slots (in_state c.args.state t)) setting (record {
      unique = unique;
      state = refl;
      must = λ has. subst (λ (xs : List Path). IsCutOf c.joined.result (joined slots xs)) must (c.joined.ensures w l n (paths ∙ has) knows);
      may = λ has. may;
      must_not = λ has. (subst (λ (xs : List Path). IsCutOf c.whole.result xs) must_not c.whole.ensures.cut).set;
    })
