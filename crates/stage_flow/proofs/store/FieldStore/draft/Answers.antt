use Rattle.std.proofs.Common.{refl, ◌∙◌}
use Rattle.stage_flow.specs.Stores.{after_field_store}
use Rattle.stage_flow.proofs.Drafted.{drafted}
use Rattle.stage_flow.proofs.StoreDrafted.{store_cut, store_may}
use Rattle.stage_flow.proofs.store.FieldStore.draft.Goals as goal

pub returns : goal.returns
returns g c w l n is knows =
    let s = c.args.self.now in
    drafted (after_field_store w l n s) c.tuple.view_is refl _ c.gathered-must_not.result refl refl
    (store_cut w l n s c.tuple.inside.must c.gathered.result (c.gathered.ensures w l n is knows)) (c.may_after.ensures w l n is knows ∙ store_may w l n s c.args.tuple.now) refl
    (store_cut w l n s c.tuple.inside.must_not c.gathered-must_not.result (c.gathered-must_not.ensures w l n is knows))
