use Rattle.std.proofs.Common.{Bool, ◌∙◌, ap, subst}
use Rattle.stage_facts.specs.Facts.{Tuple}
use Rattle.stage_transfer.specs.Changes.{changed, with_may}
use Rattle.stage_transfer.specs.Operations.{may_be_loaded}
use Rattle.stage_views.specs.Drafts.{IsDraft}
use Rattle.stage_flow.specs.Shapes.{loading}
use Rattle.stage_flow.proofs.loads.loaded_draft.Goals as goal

pub returns : goal.returns
returns g c w l n knows =
    let t = c.args.tuple.now in
    let k = loading w l n c.args.object c.args.field c.args.target in
    let may = c.may_be_loaded.ensures ∙ ap (λ (u : Tuple). may_be_loaded c.args.object c.args.field u.must) c.tuple.view_is in
    subst (λ (b : Bool). IsDraft c.with_may.result (with_may b (changed k t))) may
    (c.with_may.ensures (changed k t) (c.draft.ensures w l n k knows (c.loading.ensures w l n)))
