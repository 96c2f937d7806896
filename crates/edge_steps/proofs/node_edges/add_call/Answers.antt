use Rattle.std.proofs.Common.{List, subst}
use Rattle.std.proofs.lemmas.Result.{on_ok_weaker}
use Rattle.ground.specs.Added.{AreAdded, OfOne}
use Rattle.stage_facts.specs.Facts.{SiteFact}
use Rattle.stage_facts.specs.Plain.{fact_of}
use Rattle.stage_transfer.specs.Stages.{transfer_of}
use Rattle.edge_steps.specs.Parts.{BegunFrom, DescribedFrom}
use Rattle.edge_steps.proofs.Doing.{answered_added, called_added}
use Rattle.edge_steps.proofs.node_edges.add_call.Goals as goal

pub returns-clause-within : goal.returns-clause-within
returns-clause-within g c = λ is.
    let n = c.args.view.now.node.now in
    let call = c.args.call.now in
    let a = c.args.within.now.items in
    let b = c.add_described.new.within.items in
    on_ok_weaker c.add_called.result
    (λ called. λ w l like known.
    answered_added (transfer_of w) l c.args.view.now.method n c.args.view.now.ways.now (fact_of c.args.fact.now) call is a b
    (subst (λ (fs : List SiteFact). AreAdded (OfOne (DescribedFrom (transfer_of w) l c.args.view.now.method n call c.args.view.now.ways.now.described.items) fs) a b)
    (c.call_facts-sent.ensures w l n like known) (c.in_ok-add_described.ensures w l like known)))
    c.add_called.ensures

pub returns-clause-methods : goal.returns-clause-methods
returns-clause-methods g c = λ is.
    let n = c.args.view.now.node.now in
    let call = c.args.call.now in
    let a = c.args.methods.now.items in
    let b = c.add_called.new.methods.items in
    on_ok_weaker c.add_called.result
    (λ called. λ w l like known.
    called_added (transfer_of w) l c.args.view.now.method n c.args.view.now.ways.now (fact_of c.args.fact.now) call is a b
    (subst (λ (fs : List SiteFact). AreAdded (OfOne (BegunFrom (transfer_of w) call c.args.view.now.ways.now.called.items) fs) a b)
    (c.call_facts-sent.ensures w l n like known) (called w like)))
    c.add_called.ensures
