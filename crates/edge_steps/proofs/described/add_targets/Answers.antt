use Rattle.std.proofs.Common.{length, refl}
use Rattle.std.proofs.lemmas.Option.{slice_get_read}
use Rattle.ground.specs.Added.{OfOne}
use Rattle.ground.proofs.Adding.{added_both, added_more}
use Rattle.stage_facts.specs.Plain.{fact_of}
use Rattle.stage_transfer.specs.Stages.{transfer_of}
use Rattle.edge_steps.specs.Parts.{Answered, Described, Excepted}
use Rattle.edge_steps.proofs.described.add_targets.Goals as goal

pub loop-target-preserved : goal.loop-target-preserved
loop-target-preserved g c = record {
  added = λ w l like known.
      let t = transfer_of w in
      let m = c.args.view.now.method in
      let n = c.args.view.now.node.now in
      let f = fact_of c.args.sent.now in
      let call = c.args.call.now in
      let targets = c.as_slice-target-items.result.now in
      let k = c.loop-target.target-index in
      let d = c.target-item.result in
      let b = c.loop-target.within.items in
      let mid = c.add_answers.new.within.items in
      let new = c.add_exceptions.new.within.items in
      added_more (Described t l m n call f) targets k d (slice_get_read targets (length targets) k d refl c.loop-target-test.true c.target-item.is) c.args.within.now.items b new
      (c.loop-target.invariant.added w l like known)
      (added_both (OfOne (Answered t l m n call d.kept.items f) d.results.items) (OfOne (Excepted t l n d.kept.items f) d.landings.items) b mid new
      (c.in_ok-add_answers.ensures w l like known) (c.in_ok-add_exceptions.ensures w l like known));
}
