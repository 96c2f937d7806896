use Rattle.std.proofs.Common.{◌≡◌, ℕ, List, get_or, sym, subst}
use Rattle.std.proofs.lemmas.Option.{slice_get-get_or}
use Rattle.jvm_model.specs.declared.site.Site.{Site}
use Rattle.ground.specs.Added.{AreAdded}
use Rattle.ground.proofs.Adding.{added_more}
use Rattle.node_ways.specs.declared.ways.GivenResult.{GivenResult}
use Rattle.node_ways.specs.declared.ways.GivenResult.TheVariants.{Argument}
use Rattle.node_ways.specs.Ways.{result_of}
use Rattle.stage_facts.specs.Plain.{fact_of}
use Rattle.stage_transfer.specs.Stages.{transfer_of}
use Rattle.stage_views.specs.Views.{facts_of, IsAnswerOf}
use Rattle.edge_steps.specs.Parts.{Answered, OneAtEach}
use Rattle.edge_steps.proofs.Adding.{placed_each}
use Rattle.edge_steps.proofs.described.add_answers.Goals as goal

pub loop-given-preserved : goal.loop-given-preserved
loop-given-preserved g c = record {
  added = λ w l like known.
      let m = c.args.view.now.method in
      let n = c.args.view.now.node.now in
      let f = fact_of c.args.sent.now in
      let call = c.args.call.now in
      let kept = c.args.target.now.kept.items in
      let givens = c.as_slice-given-items.result.now in
      let k = c.loop-given.given-index in
      let past : GivenResult = Argument 0 in
      let given = get_or givens k past in
      let r = result_of m n given in
      let facts = facts_of c.after_answer-facts.result in
      let b = c.loop-given.within.items in
      let new = c.add_at_each.new.within.items in
      let is_answer = subst (λ (site : Site). IsAnswerOf site c.answer_of-answer.result r) (sym like.site) c.answer_of-answer.ensures in
      let are : facts ≡ (transfer_of w).answer l n call kept r f =
      subst (λ (slots : List ℕ). facts ≡ (transfer_of w).answer l n call slots r f) c.as_slice-kept.ensures.value (c.after_answer-facts.ensures w l n r like known is_answer) in
      added_more (Answered (transfer_of w) l m n call kept f) givens k given (slice_get-get_or givens k past c.loop-given-test.true) c.args.within.now.items b new
      (c.loop-given.invariant.added w l like known)
      (placed_each n.successors facts ((transfer_of w).answer l n call kept r f) b new are
      (subst (λ (offsets : List ℕ). AreAdded (OneAtEach offsets facts) b new) c.as_slice.ensures c.in_ok-add_at_each.ensures));
}
