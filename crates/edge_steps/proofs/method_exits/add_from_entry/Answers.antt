use Rattle.std.proofs.Common.{◌≡◌, sym, ◌∙◌, subst}
use Rattle.std.proofs.lemmas.Bool.{false≢true}
use Rattle.std.proofs.lemmas.Result.{on_ok_weaker}
use Rattle.ground.specs.Added.{AreAdded}
use Rattle.stage_facts.specs.Facts.{SiteFact}
use Rattle.stage_facts.specs.Plain.{fact_of}
use Rattle.stage_transfer.specs.Stages.{transfer_of}
use Rattle.stage_views.specs.Views.{entering_of}
use Rattle.edge_steps.specs.Parts.{After}
use Rattle.edge_steps.proofs.Adding.{added_not, added_where}
use Rattle.edge_steps.proofs.method_exits.add_from_entry.Goals as goal

pub returns-then-not-is_same_fact : goal.returns-then-not-is_same_fact
returns-then-not-is_same_fact g c = λ w l like known.
    let n = c.args.view.now.node.now in
    let t = transfer_of w in
    let by = entering_of c.args.by in
    let f = fact_of c.args.sent.now in
    let entry = c.entered-entry.ensures w like c.requires in
    added_not (t.enter by f ≡ fact_of c.args.exit.entry.now)
    (After t l n by c.args.landings.now (t.leave l n by c.args.exit.method f (fact_of c.args.exit.fact.now)) c.args.exit.spot)
    (λ same. false≢true (sym c.if-not-is_same_fact.true ∙ c.is_same_fact.ensures.1 (entry ∙ same)))
    c.args.within.now.items

pub returns : goal.returns
returns g c =
    on_ok_weaker c.add_after.result
    (λ added. λ w l like known.
    let n = c.args.view.now.node.now in
    let t = transfer_of w in
    let by = entering_of c.args.by in
    let f = fact_of c.args.sent.now in
    let landings = c.args.landings.now in
    let spot = c.args.exit.spot in
    let a = c.args.within.now.items in
    let b = c.add_after.new.within.items in
    let entry = c.entered-entry.ensures w like c.requires in
    let left = t.leave l n by c.args.exit.method f (fact_of c.args.exit.fact.now) in
    added_where (t.enter by f ≡ fact_of c.args.exit.entry.now) (After t l n by landings left spot)
    (sym entry ∙ c.is_same_fact.ensures.0 c.if-not-is_same_fact.false) a b
    (subst (λ (h : SiteFact). AreAdded (After t l n by landings h spot) a b) (c.left-after.ensures w l n like known) (added w l like known)))
    c.add_after.ensures
