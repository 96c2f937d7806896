use Rattle.std.proofs.Common.{◌≡◌, ℕ, List, Option, subst}
use Rattle.std.proofs.lemmas.Result.{on_ok_weaker}
use Rattle.ground.specs.Added.{AreAdded}
use Rattle.stage_facts.specs.Plain.{fact_of}
use Rattle.stage_transfer.specs.Stages.{transfer_of}
use Rattle.stage_views.specs.Views.{entering_of}
use Rattle.edge_steps.specs.Parts.{LeftWith}
use Rattle.edge_steps.proofs.Adding.{added_where}
use Rattle.edge_steps.proofs.method_exits.add_from_method.Goals as goal

pub returns : goal.returns
returns g c =
    let e = c.args.method.now in
    let a = c.args.within.now.items in
    let b = c.add_from_entry.new.within.items in
    let same : e.method ≡ c.args.exit.method = λ i. record { 0 = c.if-method-exit.false i } in
    on_ok_weaker c.add_from_entry.result
    (λ added. λ w l like known.
    let Left = λ (landings : List (Option ℕ)).
    LeftWith (transfer_of w) l c.args.view.now.node.now (entering_of c.args.by) c.args.exit.method (fact_of c.args.exit.entry.now) c.args.exit.spot (fact_of c.args.exit.fact.now) landings (fact_of c.args.sent.now) in
    added_where (e.method ≡ c.args.exit.method) (Left e.landings.items) same a b
    (subst (λ (landings : List (Option ℕ)). AreAdded (Left landings) a b) c.as_slice.ensures.value (added w l like known)))
    c.add_from_entry.ensures
