use Rattle.std.proofs.Common.{List, inl, inr, subst}
use Rattle.std.specs.List.{All}
use Rattle.std.specs.Result.{OnOk}
use Rattle.std.proofs.lemmas.Result.{IfErr-weaker, err_from_is_err_and}
use Rattle.failure.proofs.HandedOn.{handed_ok}
use Rattle.points_to_constraints.specs.ItemRules.{StartItem}
use Rattle.points_to_numbers.specs.declared.item.Item.{Item}
use Rattle.points_to_numbers.specs.Steps.{Adds}
use Rattle.points_to.specs.Queues.{IsHeld, IsQueueEnd, Takes, state_of}
use Rattle.points_to.specs.Taking.{IsStarted, IsTakingEnd}
use Rattle.points_to.proofs.GivenMethods.{on_always}
use Rattle.points_to.proofs.OutOfRoom.{handed_room}
use Rattle.points_to.proofs.closing.take_start.Goals as goal

pub returns-clause-started : goal.returns-clause-started
returns-clause-started c =
    let p = c.args.program.now in
    let n = c.start_items.new.work.tables in
    let steps = c.start_items.new.work.steps.items in
    let from_none = subst (λ (xs : List Item). Adds n (StartItem p c.args.entry) xs steps) c.requires.steps (handed_ok _ c.start_items.result _ _ c.in_ok-map_err.ensures.cases c.start_items.ensures.adds) in
    on_always c.take_all.result _ (record {
      call = handed_ok _ c.start_items.result _ _ c.in_ok-map_err.ensures.cases c.start_items.ensures.call;
      apart = c.apart.ensures;
      adds = from_none;
    })

pub returns-in_err-map_err-clause-end : goal.returns-in_err-map_err-clause-end
returns-in_err-map_err-clause-end c =
    let e = err_from_is_err_and c.from_residual.result c.from_residual.ensures.1 in
    rw (e.1, e.2) (inl (handed_room c.start_items.result c.in_err-map_err.field-0.0 c.in_err-map_err.ensures.cases))

pub returns-clause-end : goal.returns-clause-end
returns-clause-end c =
    let p = c.args.program.now in
    let n = c.start_items.new.work.tables in
    let steps = c.start_items.new.work.steps.items in
    let old = state_of c.args.queue.now in
    let new = state_of c.take_all.new.self in
    let from_none = subst (λ (xs : List Item). Adds n (StartItem p c.args.entry) xs steps) c.requires.steps (handed_ok _ c.start_items.result _ _ c.in_ok-map_err.ensures.cases c.start_items.ensures.adds) in
    IfErr-weaker c.take_all.result (IsQueueEnd old c.deref.result.now new c.args.pair_limit) (IsTakingEnd (IsStarted p c.args.entry n steps) old steps new c.args.pair_limit) (λ failure end. inr (
      record {
        call = handed_ok _ c.start_items.result _ _ c.in_ok-map_err.ensures.cases c.start_items.ensures.call;
        apart = c.apart.ensures;
        adds = from_none;
      },
      subst (λ (xs : List Item). IsQueueEnd old xs new c.args.pair_limit failure) c.deref.ensures.value end,
    )) c.take_all.ensures.end

pub returns-clause-held : goal.returns-clause-held
returns-clause-held c = subst (λ (xs : List Item). OnOk c.take_all.result (All (IsHeld (state_of c.take_all.new.self)) xs)) c.deref.ensures.value c.take_all.ensures.held

pub returns-clause-takes : goal.returns-clause-takes
returns-clause-takes c = subst (λ (xs : List Item). OnOk c.take_all.result (Takes (state_of c.args.queue.now) xs (state_of c.take_all.new.self))) c.deref.ensures.value c.take_all.ensures.takes
