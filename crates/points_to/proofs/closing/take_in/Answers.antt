use Rattle.std.proofs.Common.{◌<◌, List, inl, inr, sym, ◌∙◌, ap, subst}
use Rattle.std.specs.List.{All}
use Rattle.std.specs.Result.{OnOk}
use Rattle.std.proofs.lemmas.Result.{IfErr-weaker, err_from_is_err_and}
use Rattle.failure.proofs.HandedOn.{handed_ok}
use Rattle.points_to_numbers.specs.declared.item.Item.{Item}
use Rattle.points_to.specs.declared.queue.Queue.{Queue}
use Rattle.points_to.specs.Queues.{IsHeld, IsQueueEnd, IsSound, Takes, state_of, turns_of}
use Rattle.points_to.proofs.GivenMethods.{on_always}
use Rattle.points_to.proofs.OutOfRoom.{handed_room}
use Rattle.points_to.proofs.closing.take_in.Goals as goal

pub returns-clause-concluded : goal.returns-clause-concluded
returns-clause-concluded g c =
    let below = c.conclude.result in
    let cases = c.in_ok-map_err.ensures.cases in
    on_always c.take_all.result _ (record {
      grows = handed_ok _ below _ _ cases c.conclude.ensures.grows;
      apart = c.apart.ensures;
      indexed = handed_ok _ below _ _ cases c.conclude.ensures.indexed;
      adds = handed_ok _ below _ _ cases c.conclude.ensures.adds;
      calls = handed_ok _ below _ _ cases c.conclude.ensures.calls;
      lacks = handed_ok _ below _ _ cases c.conclude.ensures.lacks;
      refused = handed_ok _ below _ _ cases c.conclude.ensures.refused;
      methods = handed_ok _ below _ _ cases c.conclude.ensures.methods;
    })

pub returns-in_err-map_err-clause-end : goal.returns-in_err-map_err-clause-end
returns-in_err-map_err-clause-end g c =
    let e = err_from_is_err_and c.from_residual.result c.from_residual.ensures.1 in
    rw (e.1, e.2) (inl (handed_room c.conclude.result c.in_err-map_err.field-0.0 c.in_err-map_err.ensures.cases))

pub returns-clause-end : goal.returns-clause-end
returns-clause-end g c =
    let below = c.conclude.result in
    let cases = c.in_ok-map_err.ensures.cases in
    let new = state_of c.take_all.new.self in
    let limit = c.args.pair_limit in
    IfErr-weaker c.take_all.result _ _ (λ failure end. inr (
      record {
        grows = handed_ok _ below _ _ cases c.conclude.ensures.grows;
        apart = c.apart.ensures;
        indexed = handed_ok _ below _ _ cases c.conclude.ensures.indexed;
        adds = handed_ok _ below _ _ cases c.conclude.ensures.adds;
        calls = handed_ok _ below _ _ cases c.conclude.ensures.calls;
        lacks = handed_ok _ below _ _ cases c.conclude.ensures.lacks;
        refused = handed_ok _ below _ _ cases c.conclude.ensures.refused;
        methods = handed_ok _ below _ _ cases c.conclude.ensures.methods;
      },
      subst (λ (q : Queue). IsQueueEnd (state_of q) c.conclude.new.working.found.work.steps.items new limit failure) c.conclude.ensures.queue
          (subst (λ (xs : List Item). IsQueueEnd (state_of c.conclude.new.working.queue) xs new limit failure) c.deref.ensures.value end),
    )) c.take_all.ensures.end

pub returns-clause-held : goal.returns-clause-held
returns-clause-held g c = subst (λ (xs : List Item). OnOk c.take_all.result (All (IsHeld (state_of c.take_all.new.self)) xs)) c.deref.ensures.value c.take_all.ensures.held

pub returns-clause-takes : goal.returns-clause-takes
returns-clause-takes g c =
    subst (λ (q : Queue). OnOk c.take_all.result (Takes (state_of q) c.conclude.new.working.found.work.steps.items (state_of c.take_all.new.self))) c.conclude.ensures.queue
    (subst (λ (xs : List Item). OnOk c.take_all.result (Takes (state_of c.conclude.new.working.queue) xs (state_of c.take_all.new.self))) c.deref.ensures.value c.take_all.ensures.takes)

pub returns-clause-turns : goal.returns-clause-turns
returns-clause-turns g c = c.take_all.ensures.turns ∙ ap (λ (q : Queue). turns_of q) c.conclude.ensures.queue

pub returns-in_err-map_err-clause-turns : goal.returns-in_err-map_err-clause-turns
returns-in_err-map_err-clause-turns g c = ap (λ (q : Queue). turns_of q) c.conclude.ensures.queue

pub returns-clause-answers : goal.returns-clause-answers
returns-clause-answers g c = on_always c.take_all.result _ (handed_ok _ c.conclude.result _ _ c.in_ok-map_err.ensures.cases c.conclude.ensures.answers)

-- ---- the work list, which concluding leaves as it was

pub take_all-requires-clause-sound : goal.take_all-requires-clause-sound
take_all-requires-clause-sound g c = subst (λ (q : Queue). IsSound q) (sym c.conclude.ensures.queue) c.requires.sound

pub take_all-requires-clause-room : goal.take_all-requires-clause-room
take_all-requires-clause-room g c = subst (λ (q : Queue). q.rows.pairs < c.args.pair_limit) (sym c.conclude.ensures.queue) c.requires.room
