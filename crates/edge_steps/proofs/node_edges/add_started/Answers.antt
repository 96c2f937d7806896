use Rattle.std.proofs.Common.{List, subst}
use Rattle.std.proofs.lemmas.Result.{on_ok_weaker}
use Rattle.ground.specs.Added.{AreAdded, OfOne}
use Rattle.node_ways.specs.declared.ways.EnteredMethod.{EnteredMethod}
use Rattle.stage_facts.specs.Plain.{fact_of}
use Rattle.stage_transfer.specs.Calls.{by_trigger}
use Rattle.stage_transfer.specs.Stages.{transfer_of}
use Rattle.edge_steps.specs.Parts.{IsBegun}
use Rattle.edge_steps.proofs.Adding.{begun_as, none_begin}
use Rattle.edge_steps.proofs.node_edges.add_started.Goals as goal

pub returns-then-is_empty : goal.returns-then-is_empty
returns-then-is_empty g c = λ w like.
    let methods = c.as_slice-started.result.now in
    let begun = (transfer_of w).enter by_trigger (fact_of c.args.fact.now) in
    subst (λ (ms : List EnteredMethod). AreAdded (OfOne (IsBegun begun) ms) c.args.methods.now.items c.args.methods.now.items) c.as_slice-started.ensures.value
    (none_begin (IsBegun begun) methods c.is_empty.result c.is_empty.ensures c.if-is_empty.true c.args.methods.now.items)

pub returns : goal.returns
returns g c =
    let a = c.args.methods.now.items in
    let b = c.add_begun.new.entered.items in
    let methods = c.as_slice-started.result.now in
    on_ok_weaker c.add_begun.result
    (λ added. λ w like.
    let begun = (transfer_of w).enter by_trigger (fact_of c.args.fact.now) in
    subst (λ (ms : List EnteredMethod). AreAdded (OfOne (IsBegun begun) ms) a b) c.as_slice-started.ensures.value
    (begun_as methods (fact_of c.entered-entry.result) begun a b (c.entered-entry.ensures w like tt) added))
    c.add_begun.ensures
