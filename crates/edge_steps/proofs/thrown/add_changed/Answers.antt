use Rattle.std.proofs.Common.{None, get_or}
use Rattle.std.proofs.lemmas.Option.{slice_get-get_or}
use Rattle.ground.proofs.Adding.{added_more}
use Rattle.stage_facts.specs.Plain.{fact_of}
use Rattle.stage_transfer.specs.Stages.{transfer_of}
use Rattle.stage_views.specs.Views.{facts_of}
use Rattle.edge_steps.specs.Parts.{Raised, landing}
use Rattle.edge_steps.proofs.Adding.{placed}
use Rattle.edge_steps.proofs.thrown.add_changed.Goals as goal

pub loop-handler-preserved : goal.loop-handler-preserved
loop-handler-preserved g c = record {
  added = λ w l like known.
      let n = c.args.view.now.node.now in
      let f = fact_of c.args.fact.now in
      let handlers = c.args.landings.now in
      let k = c.loop-handler.handler-index in
      let handler = get_or handlers k None in
      let b = c.loop-handler.within.items in
      let new = c.add_facts.new.within.items in
      added_more (Raised (transfer_of w) l n f) handlers k handler (slice_get-get_or handlers k None c.loop-handler-test.true) c.args.within.now.items b new
      (c.loop-handler.invariant.added w l like known)
      (placed c.landing.result (landing handler) (facts_of c.after_raise-facts.result) ((transfer_of w).raise l n handler f) b new c.landing.ensures
      (c.after_raise-facts.ensures w l like known) c.in_ok-add_facts.ensures);
}
