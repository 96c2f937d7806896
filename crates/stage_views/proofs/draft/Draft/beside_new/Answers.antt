use Rattle.std.proofs.Common.{false, refl}
use Rattle.stage_views.specs.declared.draft.Draft.{Draft}
use Rattle.stage_views.proofs.Drafted.{beside_draft}
use Rattle.stage_views.proofs.draft.Draft.beside_new.Goals as goal

pub returns : goal.returns
returns c t is =
    let new : Draft = record { unique = false; state = c.args.self.state; must = c.args.self.must; may = c.args.self.may; must_not = c.with_slot.result } in
    beside_draft c.args.target t c.args.self new is refl refl refl refl c.with_slot.ensures
