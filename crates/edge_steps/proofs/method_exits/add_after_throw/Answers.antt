use Rattle.std.proofs.Common.{sym, subst}
use Rattle.std.proofs.lemmas.Result.{on_ok_weaker}
use Rattle.ground.specs.Added.{AreAdded, OfOne}
use Rattle.ground.proofs.Adding.{added_both}
use Rattle.stage_facts.specs.Plain.{fact_of}
use Rattle.stage_transfer.specs.Stages.{transfer_of}
use Rattle.stage_views.specs.declared.calls.Entering.{Entering}
use Rattle.stage_views.specs.Views.{entering_of}
use Rattle.stage_edges.specs.Rules.{before}
use Rattle.edge_steps.specs.Parts.{AfterThrow, IsAt, Raised}
use Rattle.edge_steps.proofs.method_exits.add_after_throw.Goals as goal

pub returns-in-Call : goal.returns-in-Call
returns-in-Call g c =
    on_ok_weaker c.add_raised.result
    (λ added. λ w l like known.
    subst (λ (by : Entering). AreAdded (AfterThrow (transfer_of w) l c.args.view.now.node.now (entering_of by) c.args.landings.now (fact_of c.args.after.now)) c.args.within.now.items
    c.add_raised.new.within.items) (sym c.in-Call.is) (added w l like known))
    c.add_raised.ensures

pub returns-in_ok-add_fact-in-Trigger : goal.returns-in_ok-add_fact-in-Trigger
returns-in_ok-add_fact-in-Trigger g c =
    let n = c.args.view.now.node.now in
    let f = fact_of c.args.after.now in
    let a = c.args.within.now.items in
    let mid = c.add_fact.new.within.items in
    let b = c.add_raised-in-Trigger.new.within.items in
    on_ok_weaker c.add_raised-in-Trigger.result
    (λ added. λ w l like known.
    subst (λ (by : Entering). AreAdded (AfterThrow (transfer_of w) l n (entering_of by) c.args.landings.now f) a b) (sym c.in-Trigger.is)
    (added_both (IsAt (before n) f) (OfOne (Raised (transfer_of w) l n f) c.args.landings.now) a mid b c.in_ok-add_fact-in-Trigger.ensures (added w l like known)))
    c.add_raised-in-Trigger.ensures
