use Rattle.std.proofs.Common.{◌≡◌, ℕ, List, None, get_or, subst}
use Rattle.std.proofs.lemmas.Option.{slice_get-get_or}
use Rattle.ground.proofs.Adding.{added_more}
use Rattle.stage_facts.specs.Plain.{fact_of}
use Rattle.stage_transfer.specs.Stages.{transfer_of}
use Rattle.stage_views.specs.Views.{facts_of}
use Rattle.edge_steps.specs.Parts.{Excepted, landing}
use Rattle.edge_steps.proofs.Adding.{placed}
use Rattle.edge_steps.proofs.described.add_exceptions.Goals as goal

pub loop-handler-preserved : goal.loop-handler-preserved
loop-handler-preserved g c = record {
  added = λ w l like known.
      let n = c.args.view.now.node.now in
      let f = fact_of c.args.sent.now in
      let kept = c.args.target.now.kept.items in
      let handlers = c.as_slice-handler-items.result.now in
      let k = c.loop-handler.handler-index in
      let handler = get_or handlers k None in
      let b = c.loop-handler.within.items in
      let new = c.add_facts.new.within.items in
      let facts = facts_of c.after_exception-facts.result in
      let are : facts ≡ (transfer_of w).exception l n kept handler f =
      subst (λ (slots : List ℕ). facts ≡ (transfer_of w).exception l n slots handler f) c.as_slice-kept.ensures.value (c.after_exception-facts.ensures w l like known) in
      added_more (Excepted (transfer_of w) l n kept f) handlers k handler (slice_get-get_or handlers k None c.loop-handler-test.true) c.args.within.now.items b new
      (c.loop-handler.invariant.added w l like known)
      (placed c.landing.result (landing handler) facts ((transfer_of w).exception l n kept handler f) b new c.landing.ensures are c.in_ok-add_facts.ensures);
}
