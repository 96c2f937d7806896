use Rattle.std.proofs.Common.{refl, sym}
use Rattle.stage_transfer.specs.Calls.{joins}
use Rattle.stage_views.specs.Views.{entering_of}
use Rattle.stage_calls.proofs.Doubling.{not_left_out_joined, unless_doubled}
use Rattle.stage_calls.proofs.left_out.is_slot_left_out.Goals as goal

pub returns-then-holds : goal.returns-then-holds
returns-then-holds g c w l n exit knows root =
    let by = entering_of c.args.joins.now.by in
    let target = c.args.joins.now.target in
    let joined = c.if-holds.ensures (joins w by target) (record { setting = w; method = l; node = n; known = knows; tells = λ y. refl }) in
    not_left_out_joined w l n by target c.args.caller.now exit c.args.path.now (sym joined)

pub returns : goal.returns
returns g c w l n exit knows root =
    let by = entering_of c.args.joins.now.by in
    let target = c.args.joins.now.target in
    let apart = c.if-holds.ensures (joins w by target) (record { setting = w; method = l; node = n; known = knows; tells = λ y. refl }) in
    unless_doubled w l n by target c.args.caller.now exit c.args.path.now c.args.slot _ _ root c.if-not-has_fields.ensures apart
    (c.is_doubled.ensures w l n knows) c.as_slice.ensures.paths
