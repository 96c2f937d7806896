use Rattle.std.proofs.Common.{◌≡◌, ◌<◌, Bool, true, false, List, length, slice_set, slice_get, get_or, replicate, Some, sym, ap, ◌∙◌, subst, refl, arith}
use Rattle.std.proofs.Math.ListN.{length-set}
use Rattle.std.proofs.lemmas.Option.{slice_get-get_or}
use Rattle.jvm_model.specs.declared.automaton.Event.{Event}
use Rattle.prune_stage.specs.Reaching.{FindsNothing}
use Rattle.prune_stage.proofs.Reach.{get_set_same, get_set_keeps, unreached, unreached-set, safe_by_search, found_first, found_next, fresh_below}
use Rattle.prune_stage.proofs.stage_one.is_safe.Goals as goal

pub loop-state-init : goal.loop-state-init
loop-state-init c =
    let inside : c.from.result < 32 = omega arith in
    let falses : List Bool = replicate 32 false in
    record {
      size = length-set falses c.from.result true;
      initial = subst (λ i. slice_get (slice_set falses c.from.result true) i ≡ Some true) c.from.ensures (get_set_same falses c.from.result true inside);
      found = found_first c.args.automaton.now c.args.occurs.now falses c.from.result refl c.from.ensures;
    }

pub bounds-reached-from-in-Some : goal.bounds-reached-from-in-Some
bounds-reached-from-in-Some c =
    let below = fresh_below c.args.occurs.now c.as_slice.result.now c.loop-state.reached c.in-Some.state c.in-Some.ensures.found in
    omega (arith, below)

pub loop-state-smaller : goal.loop-state-smaller
loop-state-smaller c =
    subst (λ i. unreached (slice_set c.loop-state.reached i true) < unreached c.loop-state.reached) (sym c.from-in-Some.ensures)
    (unreached-set c.loop-state.reached c.in-Some.state c.in-Some.ensures.found.adds.fresh)

pub loop-state-preserved : goal.loop-state-preserved
loop-state-preserved c = record {
  size = length-set c.loop-state.reached c.from-in-Some.result true ∙ c.loop-state.invariant.size;
  initial = get_set_keeps c.loop-state.reached c.from-in-Some.result c.args.automaton.now.initial c.loop-state.invariant.initial;
  found = found_next c.args.automaton.now c.as_slice.result.now c.args.occurs.now c.loop-state.reached c.from-in-Some.result c.in-Some.state c.as_slice.ensures c.from-in-Some.ensures c.loop-state.invariant.found c.in-Some.ensures.found;
}

pub returns : goal.returns
returns c =
    let reached = c.loop-state.reached in
    let sound = c.requires.sound in
    let inside : c.from-2.result < length reached = omega (arith, c.loop-state.invariant.size, c.from-2.ensures, sound.error, sound.state_limit) in
    let nothing = subst (λ (es : List Event). FindsNothing c.args.occurs.now es reached) c.as_slice.ensures c.in_default.ensures.none in
    safe_by_search c.args.automaton.now c.args.occurs.now reached sound c.requires.answers c.loop-state.invariant.size c.loop-state.invariant.initial c.loop-state.invariant.found nothing
    (get_or reached c.from-2.result false)
    (ap (slice_get reached) (sym c.from-2.ensures) ∙ slice_get-get_or reached c.from-2.result false inside)
