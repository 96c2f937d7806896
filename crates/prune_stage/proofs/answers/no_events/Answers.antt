use Rattle.std.proofs.Common.{◌≤◌, ℕ, List, length, sym, subst, arith}
use Rattle.std.proofs.lemmas.List.{length_push}
use Rattle.prune_stage.specs.declared.event_set.EventSet.{EventSet}
use Rattle.prune_stage.specs.Marks.{IsMarked}
use Rattle.prune_stage.proofs.Marking.{none_more}
use Rattle.prune_stage.proofs.answers.no_events.Goals as goal

pub loop-sets-preserved : goal.loop-sets-preserved
loop-sets-preserved c =
    let sets = c.loop-sets.sets.items in
    let items = c.in_ok-push.ensures.items in
    let long = length_push sets c.none.result in
    record {
      count = subst (λ (all : List EventSet). length all ≤ c.args.count) (sym items) (omega (arith, long, c.len.ensures, c.loop-sets-test.true));
      none = subst (λ (all : List EventSet). (place event : ℕ) → IsMarked all place event → ⊥) (sym items)
          (none_more sets c.none.result c.loop-sets.invariant.none c.none.ensures);
    }
