use Rattle.std.proofs.Common.{ℕ, List, [], ◌∷◌, refl, sym, ◌∙◌, subst}
use Rattle.std.proofs.lemmas.Bool.{false≢true}
use Rattle.std.proofs.lemmas.Result.{on_ok_weaker}
use Rattle.op_model.specs.declared.node.Spot.TheVariants as spots
use Rattle.ground.specs.Added.{AreAdded}
use Rattle.stage_facts.specs.Plain.{fact_of}
use Rattle.stage_transfer.specs.Stages.{transfer_of}
use Rattle.edge_steps.specs.Parts.{IsAt, OneAtEach}
use Rattle.edge_steps.proofs.Adding.{of_one, placed, placed_each}
use Rattle.edge_steps.proofs.Doing.{passed_added, returned_added}
use Rattle.edge_steps.proofs.Staying.{next_stays}
use Rattle.edge_steps.proofs.unchanged.add_unchanged.Goals as goal

pub returns-then-is_return : goal.returns-then-is_return
returns-then-is_return g c =
    let n = c.args.view.now.node.now in
    let f = fact_of c.args.fact.now in
    let a = c.args.within.now.items in
    let b = c.add_at_nodes.new.within.items in
    let d = c.add_fact.new.within.items in
    on_ok_weaker c.add_fact.result
    (λ added. λ w l.
    let next = (transfer_of w).next l n f in
    let are = sym (next_stays w l n f c.requires.stays) in
    returned_added (transfer_of w) l c.args.view.now.method n c.args.view.now.ways.now f c.requires.no_call (c.is_return.ensures.0 c.if-is_return.true) a b d
    (placed_each n.successors (f ∷ []) next a b are (subst (λ (offsets : List ℕ). AreAdded (OneAtEach offsets (f ∷ [])) a b) c.as_slice.ensures c.in_ok-add_at_nodes.ensures))
    (placed spots.Returned spots.Returned (f ∷ []) next b d refl are (of_one (IsAt spots.Returned) f b d added)))
    c.add_fact.ensures

pub returns : goal.returns
returns g c = λ w l.
    let n = c.args.view.now.node.now in
    let f = fact_of c.args.fact.now in
    let a = c.args.within.now.items in
    let b = c.add_at_nodes.new.within.items in
    passed_added (transfer_of w) l c.args.view.now.method n c.args.view.now.ways.now f c.requires.no_call (λ is. false≢true (sym c.if-is_return.false ∙ c.is_return.ensures.1 is)) a b
    (placed_each n.successors (f ∷ []) ((transfer_of w).next l n f) a b (sym (next_stays w l n f c.requires.stays))
    (subst (λ (offsets : List ℕ). AreAdded (OneAtEach offsets (f ∷ [])) a b) c.as_slice.ensures c.in_ok-add_at_nodes.ensures))
