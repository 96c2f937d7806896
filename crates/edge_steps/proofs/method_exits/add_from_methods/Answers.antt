use Rattle.std.proofs.Common.{length, refl}
use Rattle.std.proofs.lemmas.Option.{slice_get_read}
use Rattle.ground.proofs.Adding.{added_more}
use Rattle.stage_facts.specs.Plain.{fact_of}
use Rattle.stage_transfer.specs.Stages.{transfer_of}
use Rattle.stage_views.specs.Views.{entering_of}
use Rattle.edge_steps.specs.Parts.{LeftFrom}
use Rattle.edge_steps.proofs.method_exits.add_from_methods.Goals as goal

pub loop-method-preserved : goal.loop-method-preserved
loop-method-preserved g c = record {
  added = λ w l like known.
      let methods = c.args.methods.now in
      let k = c.loop-method.method-index in
      let e = c.method-item.result in
      added_more (LeftFrom (transfer_of w) l c.args.view.now.node.now (entering_of c.args.by) c.args.exit.method (fact_of c.args.exit.entry.now) c.args.exit.spot (fact_of c.args.exit.fact.now) (fact_of c.args.sent.now)) methods k e
      (slice_get_read methods (length methods) k e refl c.loop-method-test.true c.method-item.is) c.args.within.now.items c.loop-method.within.items
      c.add_from_method.new.within.items (c.loop-method.invariant.added w l like known) (c.in_ok-add_from_method.ensures w l like known);
}
