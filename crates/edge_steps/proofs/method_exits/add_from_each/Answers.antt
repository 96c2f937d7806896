use Rattle.std.proofs.Common.{List, subst}
use Rattle.std.proofs.lemmas.Result.{on_ok_weaker}
use Rattle.ground.specs.Added.{AreAdded}
use Rattle.node_ways.specs.declared.ways.EnteredMethod.{EnteredMethod}
use Rattle.stage_facts.specs.Plain.{fact_of}
use Rattle.stage_transfer.specs.Calls.{by_call}
use Rattle.stage_transfer.specs.Stages.{transfer_of}
use Rattle.edge_steps.specs.Parts.{LeftOne}
use Rattle.edge_steps.proofs.Adding.{one_of, two_of}
use Rattle.edge_steps.proofs.method_exits.add_from_each.Goals as goal

pub returns-in-One : goal.returns-in-One
returns-in-One g c =
    on_ok_weaker c.add_from_methods.result
    (λ added. λ w l like known.
    let a = c.args.within.now.items in
    let b = c.add_from_methods.new.within.items in
    let R = λ (methods : List EnteredMethod).
    LeftOne (transfer_of w) l c.args.view.now.node.now (by_call c.args.call.now) c.args.exit.method (fact_of c.args.exit.entry.now) c.args.exit.spot (fact_of c.args.exit.fact.now) methods in
    one_of (R c.args.view.now.ways.now.called.items) c.args.sent.now c.in-One.fact c.in-One.is a b
    (subst (λ (methods : List EnteredMethod). AreAdded (R methods (fact_of c.in-One.fact)) a b) c.as_slice-called.ensures.value (added w l like known)))
    c.add_from_methods.ensures

pub returns-in_ok-add_from_methods-in-Two : goal.returns-in_ok-add_from_methods-in-Two
returns-in_ok-add_from_methods-in-Two g c =
    on_ok_weaker c.add_from_methods-in-Two-2.result
    (λ added. λ w l like known.
    let a = c.args.within.now.items in
    let mid = c.add_from_methods-in-Two.new.within.items in
    let b = c.add_from_methods-in-Two-2.new.within.items in
    let R = λ (methods : List EnteredMethod).
    LeftOne (transfer_of w) l c.args.view.now.node.now (by_call c.args.call.now) c.args.exit.method (fact_of c.args.exit.entry.now) c.args.exit.spot (fact_of c.args.exit.fact.now) methods in
    two_of (R c.args.view.now.ways.now.called.items) c.args.sent.now c.in-Two.first c.in-Two.second c.in-Two.is a mid b
    (subst (λ (methods : List EnteredMethod). AreAdded (R methods (fact_of c.in-Two.first)) a mid) c.as_slice-called.ensures.value (c.in_ok-add_from_methods-in-Two.ensures w l like known))
    (subst (λ (methods : List EnteredMethod). AreAdded (R methods (fact_of c.in-Two.second)) mid b) c.as_slice-called.ensures.value (added w l like known)))
    c.add_from_methods-in-Two-2.ensures
