use Rattle.std.proofs.Common.{ℕ, List, sym, subst}
use Rattle.std.proofs.lemmas.Result.{on_ok_weaker}
use Rattle.ground.specs.Added.{AreAdded}
use Rattle.stage_facts.specs.Plain.{fact_of}
use Rattle.stage_transfer.specs.Stages.{transfer_of}
use Rattle.stage_views.specs.declared.calls.Entering.{Entering}
use Rattle.stage_views.specs.Views.{entering_of, facts_of}
use Rattle.edge_steps.specs.Parts.{AfterReturn, OneAtEach}
use Rattle.edge_steps.proofs.Adding.{placed_each}
use Rattle.edge_steps.proofs.method_exits.add_after_return.Goals as goal

pub returns-in-Call : goal.returns-in-Call
returns-in-Call g c =
    let n = c.args.view.now.node.now in
    let f = fact_of c.args.after.now in
    let facts = facts_of c.after_node-facts.result in
    let a = c.args.within.now.items in
    let b = c.add_at_each.new.within.items in
    on_ok_weaker c.add_at_each.result
    (λ added. λ w l like known.
    subst (λ (by : Entering). AreAdded (AfterReturn (transfer_of w) l n (entering_of by) f) a b) (sym c.in-Call.is)
    (placed_each n.successors facts ((transfer_of w).next l n f) a b (c.after_node-facts.ensures w l like known)
    (subst (λ (offsets : List ℕ). AreAdded (OneAtEach offsets facts) a b) c.as_slice.ensures added)))
    c.add_at_each.ensures

pub returns-in-Trigger : goal.returns-in-Trigger
returns-in-Trigger g c =
    on_ok_weaker c.add_fact.result
    (λ added. λ w l like known.
    subst (λ (by : Entering). AreAdded (AfterReturn (transfer_of w) l c.args.view.now.node.now (entering_of by) (fact_of c.args.after.now)) c.args.within.now.items
    c.add_fact.new.within.items) (sym c.in-Trigger.is) added)
    c.add_fact.ensures
