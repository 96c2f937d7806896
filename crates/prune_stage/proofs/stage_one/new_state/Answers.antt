use Rattle.std.proofs.Common.{◌≡◌, ◌<◌, true, length, slice_get, Some, sym, ap, ◌∙◌, subst, refl, arith, below_more}
use Rattle.std.proofs.lemmas.Option.{slice_get_read, slice_get-get_or, slice_get_within, same_Some}
use Rattle.std.proofs.lemmas.Bool.{false≢true}
use Rattle.std.proofs.lemmas.List.Elements.{All-get_or}
use Rattle.jvm_model.specs.declared.automaton.Event.{Event}
use Rattle.prune_stage.specs.Reaching.{AddsNothing, IsWithin}
use Rattle.prune_stage.proofs.stage_one.new_state.Goals as goal
use Rattle.prune_stage.proofs.stage_one.new_state.Goals.{then-occurs-place+in_default, else-occurs-place}

pub new_state_by-requires : goal.new_state_by-requires
new_state_by-requires c =
    let below : c.loop-place.place < length c.args.events.now = omega arith in
    subst (λ (e : Event). IsWithin (length c.args.reached.now) e) (sym c.index-events-place.is)
    (All-get_or (IsWithin (length c.args.reached.now)) c.args.events.now c.loop-place.place c.index-events-place.result below c.requires.within)

pub returns-in-Some-clause-found : goal.returns-in-Some-clause-found
returns-in-Some-clause-found c =
    let below : c.loop-place.place < length c.args.events.now = omega arith in
    let within : c.loop-place.place < length c.args.occurs.now = omega arith in
    record {
      event = c.index-events-place.result;
      picked = record {
        place = c.loop-place.place;
        stands = slice_get_read c.args.events.now (length c.args.events.now) c.loop-place.place c.index-events-place.result refl below c.index-events-place.is;
        is_true = slice_get-get_or c.args.occurs.now c.loop-place.place _ within ∙ ap Some c.if-occurs-place.true;
      };
      adds = c.in-Some.ensures.found;
    }

pub loop-place-preserved : goal.loop-place-preserved
loop-place-preserved c =
    let i = c.loop-place.place in
    let events = c.args.events.now in
    let reached = c.args.reached.now in
    let below : i < length events = omega arith in
    let within : i < length c.args.occurs.now = omega arith in
    let event = slice_get_read events (length events) i c.index-events-place.result refl below c.index-events-place.is in
    below_more (λ place. (e : Event) → slice_get events place ≡ Some e → slice_get c.args.occurs.now place ≡ Some true → AddsNothing reached e)
    i c.loop-place.invariant
    (λ e stands occurs. elim c.if-occurs-place.branch [
      | then-occurs-place+in_default w ↦ subst (λ (x : Event). AddsNothing reached x) (same_Some _ _ (sym event ∙ stands)) w.in_default.ensures.none
      | else-occurs-place w ↦ absurd (false≢true (sym w.if-occurs-place.false ∙ same_Some _ _ (sym (slice_get-get_or c.args.occurs.now i _ within) ∙ occurs)))
    ])

pub returns-clause-none : goal.returns-clause-none
returns-clause-none c = record {
  none = λ e p. c.loop-place.invariant p.place (omega (arith, slice_get_within c.args.events.now p.place e p.stands)) e p.stands p.is_true;
}
