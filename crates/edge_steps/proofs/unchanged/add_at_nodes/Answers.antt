use Rattle.std.proofs.Common.{ℕ, [], ◌∷◌, get_or}
use Rattle.std.proofs.lemmas.Option.{slice_get-get_or}
use Rattle.op_model.specs.declared.node.Spot.TheVariants as spots
use Rattle.ground.proofs.Adding.{added_more}
use Rattle.stage_facts.specs.Plain.{fact_of}
use Rattle.edge_steps.specs.Parts.{IsAt, OneAt}
use Rattle.edge_steps.proofs.Adding.{of_one}
use Rattle.edge_steps.proofs.unchanged.add_at_nodes.Goals as goal

pub loop-offset-preserved : goal.loop-offset-preserved
loop-offset-preserved c =
    let offsets = c.args.offsets.now in
    let k = c.loop-offset.offset-index in
    let offset = get_or offsets k 0 in
    let f = fact_of c.args.fact.now in
    let b = c.loop-offset.within.items in
    let new = c.add_fact.new.within.items in
    record {
      added = added_more (λ (z : ℕ). OneAt (spots.Node z) (f ∷ [])) offsets k offset (slice_get-get_or offsets k 0 c.loop-offset-test.true)
          c.args.within.now.items b new c.loop-offset.invariant.added (of_one (IsAt (spots.Node offset)) f b new c.in_ok-add_fact.ensures);
    }
