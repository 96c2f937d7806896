-- What holds of the site and the automaton state of each object still does after a step, if it does after each event.
use Rattle.std.proofs.Common.{◌≡◌, ℕ, Bool, List, [], ◌∷◌, refl, ap, ◌∙◌}
use Rattle.std.specs.Prelude.{slice_index}
use Rattle.jvm_model.specs.declared.site.Site.{Site}
use Rattle.jvm_model.specs.declared.stub.StubResult.{StubResult}
use Rattle.jvm_model.specs.declared.stub.StubResult.TheVariants as results
use Rattle.jvm_model.specs.Lookups.{Signature}
use Rattle.op_model.specs.declared.op.Op.{Op}
use Rattle.op_model.specs.declared.op.Op.TheVariants.{Assign, Load, Store, LoadElement, StoreElement, LoadStatic, StoreStatic, New, NewArray, Constant, Call, Return, Throw, Cast, Probe}
use Rattle.op_model.specs.Supplies.{Given}
use Rattle.machine_bytecode.specs.Described.{DescribedMethod, Gives, GivesResult, ThrowsListed, kept_by}
use Rattle.machine_bytecode.specs.Events.{IsEvent, HasEvents, moved, unmoved}
use Rattle.machine_bytecode.specs.Machine.{ThrowsNew, unwound}
use Rattle.machine_bytecode.specs.Objects.{Subject}
use Rattle.machine_bytecode.specs.States.{Value, Object, Frame, World, State}
use Rattle.machine_nodes.specs.NodeSteps.{AtNode, Leads, Calls, is_selecting_kind, NodeStep, advances, enters, gets_result, gets_exception, enters_entry, returns, resumes, ends, raises, throws, catches, unwinds, starts, wraps}
use Rattle.machine_nodes.specs.Slots.{argument_values}
use Rattle.run_soundness.proofs.Heaps.{AllHave, have_as, set_have, made_have, arrays_have, field_has, element_has}

abbrev heap_of : World → List Object
heap_of w = w.heap

module _ (x : Subject) (Q : Site → ℕ → Type 0) (begins : (s : Site) → Q s x.property.initial) where
  -- it holds of each object of the world
  abbrev pub Have : World → Type 0
  Have w = AllHave x Q begins w.heap

  same_have : (before after : World) → after ≡ before → Have before → Have after
  same_have before after e h = have_as x Q begins after.heap before.heap (ap heap_of e) h

  leads_have : (op : Op) (before : World) (slots left : List Value) (after : World) → Leads op x before slots left after → Have before → Have after
  leads_have (Assign moves) before slots left after l h = same_have before after l.1 h
  leads_have (Load object field target) before slots left after l h = same_have before after l.same h
  leads_have (Store object field value) before slots left after l h = field_has x Q begins before _ _ _ after l.0 h
  leads_have (LoadElement array target) before slots left after l h = same_have before after l.same h
  leads_have (StoreElement array value) before slots left after l h = element_has x Q begins before _ _ after l.0 h
  leads_have (LoadStatic field target) before slots left after l h = same_have before after l.same h
  leads_have (StoreStatic field value) before slots left after l h = have_as x Q begins after.heap before.heap (ap heap_of l.0) h
  leads_have (New site target) before slots left after l h = made_have x Q begins site before l.made after l.is_made h
  leads_have (NewArray sites target) before slots left after l h = arrays_have x Q begins sites before l.made after l.is_made h
  leads_have (Constant site target) before slots left after l h = same_have before after l.same h
  leads_have (Call call) before slots left after l h = absurd l
  leads_have (Return value) before slots left after l h = absurd l
  leads_have (Throw value) before slots left after l h = absurd l
  leads_have (Cast class slot) before slots left after l h = same_have before after l.2 h
  leads_have (Probe slot) before slots left after l h = same_have before after l.0.1 h

  -- ---- described methods

  gives_have : (number : ℕ) (d : DescribedMethod x number) (caller : Frame) (units : List Value) (r : StubResult) (before : World) (v : Value) (after : World)
      → Gives x number d caller units r before v after → Have before → Have after
  gives_have number d caller units results.Primitive before v after g h = same_have before after g.1 h
  gives_have number d caller units results.Void before v after g h = same_have before after g.1 h
  gives_have number d caller units results.Null before v after g h = same_have before after g.1 h
  gives_have number d caller units (results.Given argument) before v after g h = same_have before after g.1 h
  gives_have number d caller units (results.New class) before v after g h = made_have x Q begins _ before v after g h
  gives_have number d caller units results.Kept before v after g h = same_have before after g.1 h

  -- what is kept changes no heap
  result_has : (number : ℕ) (caller : Frame) (units : List Value) (before : World) (v : Value) (after : World) → GivesResult x number caller units before v after → Have before → Have after
  result_has number caller units before v after g h = gives_have number g.called caller units g.result (kept_by x number g.called units before) v after g.gives h

  listed_has : (number : ℕ) (caller : Frame) (units : List Value) (before : World) (thrown : ℕ) (after : World) → ThrowsListed x number caller units before thrown after → Have before → Have after
  listed_has number caller units before thrown after t h = made_have x Q begins _ (kept_by x number t.called units before) _ after t.makes h

  -- a new object is thrown
  thrown_has : (w : World) (f : Frame) (below : List Frame) (class : List ℕ) (t : State) → ThrowsNew x w f below class t → Have w → Have t.world
  thrown_has w f below class t n h = have_as x Q begins t.world.heap n.world.heap (ap (λ (u : State). u.world.heap) n.after) (made_have x Q begins _ w _ n.world n.makes h)

  -- ---- events

  events_have : (selects : Bool) (s : Signature) (units : List Value) (before after : World)
      → ((e : IsEvent x selects s units before) → Q e.receiver.object.site e.receiver.object.automaton → Q e.receiver.object.site (slice_index e.event.next e.receiver.object.automaton))
      → HasEvents x selects s units before after → Have before → Have after
  events_have selects s units before after next (moved e is) h =
      have_as x Q begins after.heap _ (ap heap_of is)
      (set_have x Q begins before.heap e.receiver.place e.receiver.object _ e.receiver.held (next e (h.each e.receiver.place e.receiver.object e.receiver.held)) h)
  events_have selects s units before after next (unmoved none is) h = same_have before after is h

  -- ---- the steps

  unwound_heap : (below : List Frame) (w : World) (place : ℕ) → (unwound below w place).world.heap ≡ w.heap
  unwound_heap [] w place = refl
  unwound_heap (f ∷ below) w place = refl

  -- each event of a call leads on
  abbrev pub EventsLead : Given → State → Type 0
  EventsLead given s =
      (at : AtNode x given s) (calls : Calls x given s at)
      (e : IsEvent x (is_selecting_kind calls.call.kind) (record { name = calls.call.name; descriptor = calls.call.descriptor }) (argument_values calls.call.arguments at.frame.slots) s.world)
      → Q e.receiver.object.site e.receiver.object.automaton → Q e.receiver.object.site (slice_index e.event.next e.receiver.object.automaton)

  module _ (given : Given) (s t : State) (lead : EventsLead given s) where
    after_events : (at : AtNode x given s) (calls : Calls x given s at) → Have s.world → Have calls.world
    after_events at calls h = events_have _ _ _ s.world calls.world (lead at calls) calls.events h

    as_after : (u : State) → t ≡ u → Have u.world → Have t.world
    as_after u e h = have_as x Q begins t.world.heap u.world.heap (ap (λ (r : State). r.world.heap) e) h

    pub step_has : NodeStep x given s t → Have s.world → Have t.world
    step_has (advances at a) h = as_after _ a.after (leads_have at.now.node.op s.world at.frame.slots a.left a.world a.leads h)
    step_has (enters at a) h = as_after _ a.enters.after (after_events at a.calls h)
    step_has (gets_result at a) h = as_after _ a.after (result_has _ _ _ a.calls.world a.value a.world a.gives (after_events at a.calls h))
    step_has (gets_exception at a) h = as_after _ a.after (listed_has _ _ _ a.calls.world a.thrown a.world a.throws (after_events at a.calls h))
    step_has (enters_entry at a) h = as_after _ a.enters.after h
    step_has (returns at a) h = as_after _ a.after h
    step_has (resumes at a) h = as_after _ a.after h
    step_has (ends at a) h = as_after _ a.after h
    step_has (raises at a) h = thrown_has s.world _ _ _ t a.throws h
    step_has (throws at a) h = as_after _ a.after h
    step_has (catches at a) h = as_after _ a.after h
    step_has (unwinds at a) h =
        have_as x Q begins t.world.heap s.world.heap (ap (λ (r : State). r.world.heap) a.after ∙ unwound_heap at.below s.world at.place) h
    step_has (starts at a) h = as_after _ a.after h
    step_has (wraps at a) h = thrown_has _ _ _ _ t a.throws h
