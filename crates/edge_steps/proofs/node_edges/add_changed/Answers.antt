use Rattle.std.proofs.Common.{ℕ, List, refl, sym, ◌∙◌, subst}
use Rattle.std.proofs.lemmas.Bool.{false≢true}
use Rattle.std.proofs.lemmas.Result.{on_ok_weaker}
use Rattle.op_model.specs.declared.node.Spot.TheVariants as spots
use Rattle.ground.specs.Added.{AreAdded}
use Rattle.stage_facts.specs.Plain.{fact_of}
use Rattle.stage_transfer.specs.Stages.{transfer_of}
use Rattle.stage_views.specs.Views.{facts_of}
use Rattle.edge_steps.specs.Parts.{OneAtEach}
use Rattle.edge_steps.proofs.Adding.{placed, placed_each}
use Rattle.edge_steps.proofs.Doing.{passed_added, returned_added}
use Rattle.edge_steps.proofs.node_edges.add_changed.Goals as goal

pub returns-then-is_return : goal.returns-then-is_return
returns-then-is_return g c =
    let n = c.args.view.now.node.now in
    let f = fact_of c.args.fact.now in
    let facts = facts_of c.after_node-facts.result in
    let a = c.args.within.now.items in
    let b = c.add_at_each.new.within.items in
    let d = c.add_facts.new.within.items in
    on_ok_weaker c.add_facts.result
    (λ added. λ w l like known.
    let next = (transfer_of w).next l n f in
    let are = c.after_node-facts.ensures w l like known in
    returned_added (transfer_of w) l c.args.view.now.method n c.args.view.now.ways.now f c.requires (c.is_return.ensures.0 c.if-is_return.true) a b d
    (placed_each n.successors facts next a b are (subst (λ (offsets : List ℕ). AreAdded (OneAtEach offsets facts) a b) c.as_slice.ensures c.in_ok-add_at_each.ensures))
    (placed spots.Returned spots.Returned facts next b d refl are added))
    c.add_facts.ensures

pub returns : goal.returns
returns g c = λ w l like known.
    let n = c.args.view.now.node.now in
    let f = fact_of c.args.fact.now in
    let facts = facts_of c.after_node-facts.result in
    let a = c.args.within.now.items in
    let b = c.add_at_each.new.within.items in
    passed_added (transfer_of w) l c.args.view.now.method n c.args.view.now.ways.now f c.requires (λ is. false≢true (sym c.if-is_return.false ∙ c.is_return.ensures.1 is)) a b
    (placed_each n.successors facts ((transfer_of w).next l n f) a b (c.after_node-facts.ensures w l like known)
    (subst (λ (offsets : List ℕ). AreAdded (OneAtEach offsets facts) a b) c.as_slice.ensures c.in_ok-add_at_each.ensures))
