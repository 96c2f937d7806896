use Rattle.std.proofs.Common.{◌++◌, [], List, sym, ◌∙◌, ap, subst}
use Rattle.std.proofs.lemmas.Bool.{cond-false}
use Rattle.std.proofs.lemmas.List.{append_assoc}
use Rattle.access_paths.specs.Paths.{Path}
use Rattle.stage_transfer.specs.Operations.{passes_field}
use Rattle.stage_views.specs.Views.{Gathers}
use Rattle.stage_flow.specs.Stores.{own_path, stored_path}
use Rattle.stage_flow.proofs.store.FieldStore.give.Goals as goal

pub returns : goal.returns
returns g c w l n is knows paths gathers =
    let s = c.args.self.now in
    let x = c.args.path.now in
    let passes = sym c.passes.ensures ∙ c.if-passes.false in
    subst (Gathers c.store.new.all)
    (append_assoc paths (own_path s x) (stored_path w l n s x)
    ∙ ap (λ (ps : List Path). paths ++ ps) (sym (cond-false (passes_field s.field x) [] (own_path s x ++ stored_path w l n s x) passes)))
    (c.store.ensures w l n is knows (paths ++ own_path s x) (c.keep.ensures paths gathers))
