use Rattle.std.proofs.Common.{List, subst}
use Rattle.std.proofs.lemmas.Result.{on_ok_weaker}
use Rattle.ground.specs.Added.{AreAdded, OfOne}
use Rattle.stage_facts.specs.Facts.{SiteFact}
use Rattle.stage_facts.specs.Plain.{fact_of}
use Rattle.stage_transfer.specs.Calls.{by_call}
use Rattle.stage_transfer.specs.Stages.{transfer_of}
use Rattle.edge_steps.specs.Parts.{LeftOne}
use Rattle.edge_steps.proofs.Doing.{left_added, nothing_left}
use Rattle.edge_steps.proofs.method_exits.add_from_call.Goals as goal

pub returns-in-Some : goal.returns-in-Some
returns-in-Some g c =
    on_ok_weaker c.add_from_each.result
    (λ added. λ w l like known.
    let t = transfer_of w in
    let n = c.args.view.now.node.now in
    let ways = c.args.view.now.ways.now in
    let target = c.args.exit.method in
    let entry = fact_of c.args.exit.entry.now in
    let spot = c.args.exit.spot in
    let out = fact_of c.args.exit.fact.now in
    let call = c.in-Some.call.now in
    let a = c.args.within.now.items in
    let b = c.add_from_each.new.within.items in
    left_added t l n ways (fact_of c.args.fact.now) target entry spot out call c.in-Some.ensures a b
    (subst (λ (fs : List SiteFact). AreAdded (OfOne (LeftOne t l n (by_call call) target entry spot out ways.called.items) fs) a b)
    (c.call_facts-sent.ensures w l n like known) (added w l like known)))
    c.add_from_each.ensures

pub returns-in-None : goal.returns-in-None
returns-in-None g c = λ w l like known.
    nothing_left (transfer_of w) l c.args.view.now.node.now c.args.view.now.ways.now (fact_of c.args.fact.now) c.args.exit.method (fact_of c.args.exit.entry.now) c.args.exit.spot (fact_of c.args.exit.fact.now) c.in-None.ensures c.args.within.now.items
