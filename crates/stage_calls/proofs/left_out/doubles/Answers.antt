use Rattle.std.proofs.Common.{refl}
use Rattle.stage_transfer.specs.Calls.{joins}
use Rattle.stage_views.specs.Views.{entering_of}
use Rattle.stage_calls.proofs.Doubling.{doubles_from}
use Rattle.stage_calls.proofs.left_out.doubles.Goals as goal

pub returns : goal.returns
returns g c w l n knows =
    let by = entering_of c.args.joins.now.by in
    let target = c.args.joins.now.target in
    doubles_from w l n by target c.args.path.now c.args.slot c.args.other.now c.root-root.result c.with_root.result c.holds.result c.root-root.ensures
    (c.if-not-holds_afterwards.ensures w l n knows) c.with_root.ensures c.if-not-is_same.ensures
    (c.holds.ensures (joins w by target) (record { setting = w; method = l; node = n; known = knows; tells = λ y. refl }))
