use Rattle.std.proofs.Common.{ℕ, get_or}
use Rattle.std.proofs.lemmas.Option.{slice_get-get_or}
use Rattle.op_model.specs.declared.node.Spot.TheVariants as spots
use Rattle.ground.proofs.Adding.{added_more}
use Rattle.stage_views.specs.Views.{facts_of}
use Rattle.edge_steps.specs.Parts.{OneAt}
use Rattle.edge_steps.proofs.spots.add_at_each.Goals as goal

pub loop-offset-preserved : goal.loop-offset-preserved
loop-offset-preserved c =
    let offsets = c.args.offsets.now in
    let k = c.loop-offset.offset-index in
    let facts = facts_of c.args.facts.now in
    record {
      added = added_more (λ (offset : ℕ). OneAt (spots.Node offset) facts) offsets k (get_or offsets k 0) (slice_get-get_or offsets k 0 c.loop-offset-test.true)
          c.args.within.now.items c.loop-offset.within.items c.add_facts.new.within.items c.loop-offset.invariant.added c.in_ok-add_facts.ensures;
    }
