use Rattle.std.proofs.Common.{refl, ap}
use Rattle.stage_transfer.specs.Changes.{Change, changed}
use Rattle.stage_flow.specs.Shapes.{change_of}
use Rattle.stage_flow.proofs.Drafted.{cut_set, drafted}
use Rattle.stage_flow.proofs.change.PathChange.draft.Goals as goal

pub returns : goal.returns
returns g c w l n k knows makes =
    let code = c.args.self.now in
    drafted (changed (change_of w l n code)) c.tuple.view_is (ap (λ (x : Change). changed x c.args.tuple.now) makes.same) _ c.gathered-must_not.result refl refl
    (cut_set w l n code c.tuple.inside.must c.gathered.result c.gathered.ensures) (c.may_after.ensures w l n knows makes.proper) refl
    (cut_set w l n code c.tuple.inside.must_not c.gathered-must_not.result c.gathered-must_not.ensures)
