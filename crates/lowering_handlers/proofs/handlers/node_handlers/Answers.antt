use Rattle.std.proofs.Common.{ℕ, ◌<◌, List, take, get_or, subst, sym, ◌+◌}
use Rattle.std.specs.List.{AllZip, Contains}
use Rattle.std.proofs.lemmas.List.{get_or_default}
use Rattle.std.proofs.lemmas.List.Elements.{Contains-get_or}
use Rattle.jvm_model.specs.declared.code.Handler.{Handler}
use Rattle.op_model.specs.declared.node.NodeHandler.{NodeHandler}
use Rattle.program_model.proofs.Bridges.{zip_more}
use Rattle.lowering_spec.specs.LoweredMethods.{IsHandlerAt}
use Rattle.lowering_handlers.specs.declared.catches.Catch.TheVariants.{Each}
use Rattle.lowering_handlers.proofs.TakenHandlers.{as_long, covering_below, handler_at}
use Rattle.lowering_handlers.proofs.handlers.node_handlers.Goals as goal

pub bounds-handlers-place : goal.bounds-handlers-place
bounds-handlers-place c =
    let places = c.args.places.now in
    let there = Contains-get_or places c.loop-place.place-index 0 c.loop-place-test.true in
    covering_below c.args.handlers.now c.requires.within.0 _ (subst (λ (xs : List ℕ). Contains xs (get_or places c.loop-place.place-index 0)) c.requires.within.1 there)

pub bounds-catches-place : goal.bounds-catches-place
bounds-catches-place c =
    let places = c.args.places.now in
    let place = get_or places c.loop-place.place-index 0 in
    let there = Contains-get_or places c.loop-place.place-index 0 c.loop-place-test.true in
    let within = covering_below c.args.handlers.now c.requires.within.0 place (subst (λ (xs : List ℕ). Contains xs place) c.requires.within.1 there) in
    subst (λ (n : ℕ). place < n) (sym (as_long c.args.program.now c.args.pool.now c.args.handlers.now c.args.catches.now c.requires.catches)) within

pub loop-place-preserved : goal.loop-place-preserved
loop-place-preserved c =
    let p = c.args.program.now in
    let pool = c.args.pool.now in
    let handlers = c.args.handlers.now in
    let places = c.args.places.now in
    let i = c.loop-place.place-index in
    let place = get_or places i 0 in
    let there = Contains-get_or places i 0 c.loop-place-test.true in
    let within = covering_below handlers c.requires.within.0 place (subst (λ (xs : List ℕ). Contains xs place) c.requires.within.1 there) in
    let none : Handler = record { start = 0; finish = 0; target = 0; catch_type = 0 } in
    let is = handler_at p pool handlers c.args.catches.now c.requires.catches place none Each c.class_taken.result c.class_taken.ensures within (c.requires.known place there) in
    record {
      so_far = subst (λ (xs : List NodeHandler). AllZip (IsHandlerAt p pool handlers) (take (i + 1) places) xs) (sym {A = List NodeHandler} c.in_ok-push.ensures.items)
          (zip_more (IsHandlerAt p pool handlers) places c.loop-place.covering.items i place _ c.loop-place-test.true (get_or_default places i 0 place c.loop-place-test.true) c.loop-place.invariant.so_far is);
    }
