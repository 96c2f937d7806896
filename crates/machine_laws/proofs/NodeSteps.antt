-- What becomes of an object in each step of nodes.
use Rattle.std.proofs.Common.{◌≡◌, ◌⊎◌, inl, inr, ℕ, List, [], ◌∷◌, Some, sym, ◌∙◌, subst}
use Rattle.std.specs.List.{slice_get}
use Rattle.jvm_model.specs.Automata.{IsAutomaton}
use Rattle.op_model.specs.declared.op.Op.{Op}
use Rattle.op_model.specs.declared.op.Op.TheVariants.{Assign, Load, Store, LoadElement, StoreElement, LoadStatic, StoreStatic, New, NewArray, Constant, Call, Return, Throw, Cast, Probe}
use Rattle.op_model.specs.Supplies.{Given}
use Rattle.machine_bytecode.specs.Machine.{ThrowsNew}
use Rattle.machine_bytecode.specs.Objects.{Subject}
use Rattle.machine_bytecode.specs.States.{Value, Object, Frame, World, State, with_started}
use Rattle.machine_nodes.specs.NodeSteps.{AtNode, Leads, Calls, is_selecting_kind, NodeStep, advances, enters, gets_result, gets_exception, enters_entry, returns, resumes, ends, raises, throws, catches, unwinds, starts, wraps}
use Rattle.machine_nodes.specs.Slots.{argument_values}
use Rattle.machine_laws.proofs.Described.{keeps_result, keeps_listed, unwound_world, world_of}
use Rattle.machine_laws.proofs.Errors.{error_stays}
use Rattle.machine_laws.proofs.Heaps.{Keeps, keeps_all, keeps_same, keeps_on, keeps_made, keeps_arrays, keeps_field, keeps_element, keeps_static, keeps_kept, keeps_started}
use Rattle.machine_laws.proofs.Moved.{IsMovedOn, Moves, moves_by, moved_on}
use Rattle.machine_laws.specs.NodeSurvival.{IsMovedBy, Survives}

-- ---- what operations lead to

keeps_leads : (op : Op) (x : Subject) (before : World) (slots left : List Value) (after : World) → Leads op x before slots left after → Keeps before after
keeps_leads (Assign moves) x before slots left after l = keeps_same before after l.1
keeps_leads (Load object field target) x before slots left after l = keeps_same before after l.same
keeps_leads (Store object field value) x before slots left after l = keeps_field before _ _ _ after l.0
keeps_leads (LoadElement array target) x before slots left after l = keeps_same before after l.same
keeps_leads (StoreElement array value) x before slots left after l = keeps_element _ before _ _ after l.0
keeps_leads (LoadStatic field target) x before slots left after l = keeps_same before after l.same
keeps_leads (StoreStatic field value) x before slots left after l = subst (λ (w : World). Keeps before w) (sym l.0) (keeps_static before _ _)
keeps_leads (New site target) x before slots left after l = keeps_made x _ before _ after l.is_made
keeps_leads (NewArray sites target) x before slots left after l = keeps_arrays x _ before _ after l.is_made
keeps_leads (Constant site target) x before slots left after l = keeps_same before after l.same
keeps_leads (Call call) x before slots left after l = absurd l
keeps_leads (Return value) x before slots left after l = absurd l
keeps_leads (Throw value) x before slots left after l = absurd l
keeps_leads (Cast class slot) x before slots left after l = keeps_same before after l.2
keeps_leads (Probe slot) x before slots left after l = keeps_same before after l.0.1

-- ---- an object that stays, and one that an event moves

-- the world after, as it stands in the next state
survives : (x : Subject) (given : Given) (s t : State) (w : World) → t.world ≡ w → Keeps s.world w → (place : ℕ) (o : Object) → slice_get s.world.heap place ≡ Some o → Survives x given s t place o
survives x given s t w e keeps place o held =
    let stays = (subst (λ (v : World). Keeps s.world v) (sym e) keeps).each place o held in
    record { later = stays.later; held = stays.held; site = stays.site; class = stays.class; automaton = inl stays.automaton }

survives_moved : (x : Subject) (given : Given) (s t : State) (at : AtNode x given s) (c : Calls x given s at) (place : ℕ) (o : Object)
    → Moves x (is_selecting_kind c.call.kind) (record { name = c.call.name; descriptor = c.call.descriptor }) (argument_values c.call.arguments at.frame.slots) s.world t.world place o
    → Survives x given s t place o
survives_moved x given s t at c place o m = record { later = m.later; held = m.held; site = m.site; class = m.class; automaton = by m.automaton }
  where
    by : (m.later.automaton ≡ o.automaton)
        ⊎ IsMovedOn x (is_selecting_kind c.call.kind) (record { name = c.call.name; descriptor = c.call.descriptor }) (argument_values c.call.arguments at.frame.slots) s.world place o m.later.automaton
        → (m.later.automaton ≡ o.automaton) ⊎ IsMovedBy x given s place o m.later.automaton
    by (inl e) = inl e
    by (inr i) = inr (record { at = at; calls = c; event = i.event; of_place = i.of_place; is = i.is })

after_call : (x : Subject) (given : Given) (s t : State) (at : AtNode x given s) (c : Calls x given s at) (w : World) → t.world ≡ w → Keeps c.world w
    → (place : ℕ) (o : Object) → slice_get s.world.heap place ≡ Some o → Survives x given s t place o
after_call x given s t at c w e keeps place o held =
    let moves = moves_by x _ _ _ s.world c.world c.events place o held in
    survives_moved x given s t at c place o (moved_on x _ _ _ s.world c.world t.world place o moves (subst (λ (v : World). Keeps c.world v) (sym e) keeps))

-- a new object is thrown
thrown_new : (x : Subject) (given : Given) (s t : State) (w : World) (f : Frame) (below : List Frame) (class : List ℕ) → Keeps s.world w → ThrowsNew x w f below class t
    → (place : ℕ) (o : Object) → slice_get s.world.heap place ≡ Some o → Survives x given s t place o
thrown_new x given s t w f below class keeps h = survives x given s t h.world (world_of t _ h.after) (keeps_on s.world w h.world keeps (keeps_made x _ w _ h.world h.makes))

-- ---- the steps

pub objects_survive : (x : Subject) (given : Given) (s t : State) → NodeStep x given s t → (place : ℕ) (o : Object) → slice_get s.world.heap place ≡ Some o → Survives x given s t place o
objects_survive x given s t (advances at h) = survives x given s t h.world (world_of t _ h.after) (keeps_leads at.now.node.op x s.world at.frame.slots h.left h.world h.leads)
objects_survive x given s t (enters at h) = after_call x given s t at h.calls h.calls.world (world_of t _ h.enters.after) (keeps_all h.calls.world)
objects_survive x given s t (gets_result at h) = after_call x given s t at h.calls h.world (world_of t _ h.after) (keeps_result x _ _ _ h.calls.world h.value h.world h.gives)
objects_survive x given s t (gets_exception at h) = after_call x given s t at h.calls h.world (world_of t _ h.after) (keeps_listed x _ _ _ h.calls.world h.thrown h.world h.throws)
objects_survive x given s t (enters_entry at h) = survives x given s t s.world (world_of t _ h.enters.after) (keeps_all s.world)
objects_survive x given s t (returns at h) = survives x given s t s.world (world_of t _ h.after) (keeps_all s.world)
objects_survive x given s t (resumes at h) = survives x given s t s.world (world_of t _ h.after) (keeps_all s.world)
objects_survive x given s t (ends at h) = survives x given s t s.world (world_of t _ h.after) (keeps_all s.world)
objects_survive x given s t (raises at h) = thrown_new x given s t s.world _ _ _ (keeps_all s.world) h.throws
objects_survive x given s t (throws at h) = survives x given s t s.world (world_of t _ h.after) (keeps_all s.world)
objects_survive x given s t (catches at h) = survives x given s t s.world (world_of t _ h.after) (keeps_all s.world)
objects_survive x given s t (unwinds at h) = survives x given s t s.world (world_of t _ h.after ∙ unwound_world at.below s.world at.place) (keeps_all s.world)
objects_survive x given s t (starts at h) = survives x given s t (with_started s.world h.number) (world_of t _ h.after) (keeps_started s.world h.number)
objects_survive x given s t (wraps at h) = thrown_new x given s t _ _ _ _ (keeps_kept s.world (at.place ∷ [])) h.throws

-- ---- the error state

pub errors_stay : (x : Subject) (given : Given) → IsAutomaton x.property → (s t : State) → NodeStep x given s t → (place : ℕ) (o : Object) → slice_get s.world.heap place ≡ Some o
    → o.automaton ≡ x.property.error → (later : Object) × (slice_get t.world.heap place ≡ Some later) × (later.automaton ≡ x.property.error)
errors_stay x given automaton s t step place o held error = by (objects_survive x given s t step place o held)
  where
    by : Survives x given s t place o → (later : Object) × (slice_get t.world.heap place ≡ Some later) × (later.automaton ≡ x.property.error)
    by h = of h.automaton where
      of : (h.later.automaton ≡ o.automaton) ⊎ IsMovedBy x given s place o h.later.automaton
          → (later : Object) × (slice_get t.world.heap place ≡ Some later) × (later.automaton ≡ x.property.error)
      of (inl same) = (h.later, h.held, same ∙ error)
      of (inr m) = (h.later, h.held, error_stays x automaton _ _ _ s.world place o h.later.automaton (record { event = m.event; of_place = m.of_place; is = m.is }) error)
