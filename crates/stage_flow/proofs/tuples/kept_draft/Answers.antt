use Rattle.std.proofs.Common.{ℕ, Bool, ◌∙◌, ap, subst}
use Rattle.std.specs.List.{list_any}
use Rattle.access_paths.specs.declared.root.Root.TheVariants.{Slot}
use Rattle.access_paths.specs.Paths.{bare, has_path}
use Rattle.stage_facts.specs.Facts.{Tuple}
use Rattle.stage_transfer.specs.Changes.{changed, with_may}
use Rattle.stage_views.specs.Drafts.{IsDraft}
use Rattle.stage_flow.proofs.Drafted.{may_later}
use Rattle.stage_flow.proofs.tuples.kept_draft.Goals as goal

pub returns : goal.returns
returns g c w l n k knows makes =
    let t = c.args.tuple.now in
    let held = c.is_put_away.ensures
    ∙ ap (λ (u : Tuple). list_any (λ (z : ℕ). has_path u.must (bare (Slot z))) c.args.kept.now) c.tuple.view_is in
    let is = c.with_may.ensures (changed k t) (c.draft.ensures w l n k knows makes) in
    subst (λ (b : Bool). IsDraft c.with_may.result (changed k (with_may b t))) held
    (may_later k t c.is_put_away.result c.with_may.result is)
