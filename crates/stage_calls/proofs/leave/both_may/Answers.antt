use Rattle.std.proofs.Common.{◌≡◌, List, false, ◌||◌, refl, sym, ◌∙◌, ap}
use Rattle.std.specs.List.{list_any}
use Rattle.access_paths.specs.Paths.{Path}
use Rattle.stage_transfer.specs.Calls.{is_dropped}
use Rattle.stage_views.specs.Views.{entering_of}
use Rattle.stage_calls.specs.Testing.{is_left_out_of}
use Rattle.stage_calls.proofs.leave.both_may.Goals as goal

pub returns : goal.returns
returns g c w l n knows =
    let by = entering_of c.args.joins.now.by in
    let target = c.args.joins.now.target in
    let out = is_left_out_of w l n by target c.args.caller.now.must c.args.exit.now.must in
    let exit : c.args.exit.now.may ≡ false = cc in
    let caller : c.args.caller.now.may ≡ false = cc in
    let exit_must : c.exit.inside.must ≡ c.args.exit.now.must = cc in
    let caller_must : c.caller.inside.must ≡ c.args.caller.now.must = cc in
    let dropped : false ≡ list_any (is_dropped by) c.args.exit.now.must =
    c.if-any.ensures (is_dropped by) (λ x. refl) ∙ ap (λ (ys : List Path). list_any (is_dropped by) ys) exit_must in
    let lost : c.any-2.result ≡ list_any out c.args.caller.now.must =
    c.any-2.ensures (is_left_out_of w l n by target c.caller.inside.must c.args.exit.now.must)
    (record { setting = w; method = l; node = n; exit = c.args.exit.now.must; known = knows; tells = λ x. refl })
    ∙ ap (λ (ys : List Path). list_any (is_left_out_of w l n by target ys c.args.exit.now.must) ys) caller_must in
    lost ∙ (λ i. sym exit i || (sym caller i || (dropped i || list_any out c.args.caller.now.must)))
