-- What becomes of an object in each step of the machine.
use Rattle.std.proofs.Common.{◌≡◌, ◌⊎◌, inl, inr, ℕ, Bool, true, false, List, [], ◌∷◌, Some, sym, ◌∙◌, subst}
use Rattle.std.specs.List.{slice_get}
use Rattle.std.specs.Prelude.{MatchBool, if◌then◌else◌}
use Rattle.jvm_model.specs.declared.pool.PoolEntry.{PoolEntry}
use Rattle.jvm_model.specs.Instructions.{DecodedInstruction}
use Rattle.jvm_model.specs.Programs.{Field}
use Rattle.jvm_model.specs.Table.{Action, plain, load_constant, load_element, store_element, probe_element, probe_array, probe_object, get_static, put_static, get_field, put_field, invoke_virtual, invoke_special, invoke_static, invoke_interface, make_object, make_array, throw_object, cast, leave_method, refused, is_selecting}
use Rattle.machine_bytecode.specs.Machine.{At, Makes, Calls, ReadsFieldOf, WritesFieldOf, WritesStatic, ThrowsNew, Step, advances, enters, gets_result, gets_exception, enters_entry, returns, resumes, ends, raises, throws, catches, unwinds, starts, denies, wraps}
use Rattle.machine_bytecode.specs.Objects.{Subject, Refers, WritesField}
use Rattle.machine_bytecode.specs.States.{Value, Object, Frame, World, State, is_reference_type, with_static, with_started}
use Rattle.machine_laws.specs.Survival.{IsMovedBy, Survives}
use Rattle.machine_laws.proofs.Described.{keeps_result, keeps_listed, unwound_world, world_of}
use Rattle.machine_laws.proofs.Heaps.{Stays, Keeps, keeps_all, keeps_same, keeps_on, keeps_made, keeps_arrays, keeps_field, keeps_element, keeps_static, keeps_kept, keeps_started}
use Rattle.machine_laws.proofs.Moved.{IsMovedOn, Moves, moves_by, moved_on}

-- ---- what actions make

keeps_read : (f : Field) (number : ℕ) (before : World) (object made : Value) (after : World) → ReadsFieldOf f number before object made after → Keeps before after
keeps_read f number before object made after h = keeps_same before after h.1

keeps_put : (f : Field) (number : ℕ) (before : World) (object v : Value) (after : World) → WritesFieldOf f number before object v after → Keeps before after
keeps_put f number before object v after h = by (is_reference_type f.signature.descriptor) h where
  by : (b : Bool) → MatchBool b (WritesField before object number v after) (Refers before object × (after ≡ before)) → Keeps before after
  by true w = keeps_field before object number v after w
  by false w = keeps_same before after w.1

keeps_put_static : (f : Field) (number : ℕ) (before : World) (v : Value) (after : World) → WritesStatic f number before v after → Keeps before after
keeps_put_static f number before v after e = by (is_reference_type f.signature.descriptor) e where
  by : (b : Bool) → after ≡ (if b then with_static before number v else before) → Keeps before after
  by true e = subst (λ (w : World). Keeps before w) (sym e) (keeps_static before number v)
  by false e = keeps_same before after e

keeps_makes : (a : Action) (x : Subject) (f : Frame) (pool : List PoolEntry) (i : DecodedInstruction) (units : List Value) (before : World) (made : Value) (after : World)
    → Makes a x f pool i units before made after → Keeps before after
keeps_makes plain x f pool i units before made after m = keeps_same before after m.1
keeps_makes load_constant x f pool i units before made after m = keeps_same before after m.1
keeps_makes load_element x f pool i units before made after m = keeps_same before after m.1
keeps_makes store_element x f pool i units before made after m = keeps_element _ before _ _ after m.0
keeps_makes probe_element x f pool i units before made after m = keeps_same before after m.1.1
keeps_makes probe_array x f pool i units before made after m = keeps_same before after m.1.1
keeps_makes probe_object x f pool i units before made after m = keeps_same before after m.1.1
keeps_makes get_static x f pool i units before made after m = keeps_same before after m.1.1
keeps_makes put_static x f pool i units before made after m = keeps_put_static m.0.field m.0.number before _ after m.1
keeps_makes get_field x f pool i units before made after m = keeps_read m.0.field m.0.number before _ made after m.1
keeps_makes put_field x f pool i units before made after m = keeps_put m.0.field m.0.number before _ _ after m.1
keeps_makes invoke_virtual x f pool i units before made after m = absurd m
keeps_makes invoke_special x f pool i units before made after m = absurd m
keeps_makes invoke_static x f pool i units before made after m = absurd m
keeps_makes invoke_interface x f pool i units before made after m = absurd m
keeps_makes make_object x f pool i units before made after m = keeps_made x _ before made after m.1
keeps_makes make_array x f pool i units before made after m = keeps_arrays x _ before made after m.2
keeps_makes throw_object x f pool i units before made after m = absurd m
keeps_makes cast x f pool i units before made after m = keeps_same before after m.2.1
keeps_makes leave_method x f pool i units before made after m = absurd m
keeps_makes refused x f pool i units before made after m = absurd m

-- ---- an object that stays, and one that an event moves

stays_on : (x : Subject) (s t : State) (place : ℕ) (o : Object) → Stays t.world place o → Survives x s t place o
stays_on x s t place o h = record { later = h.later; held = h.held; site = h.site; class = h.class; automaton = inl h.automaton }

-- the world after, as it stands in the next state
survives : (x : Subject) (s t : State) (w : World) → t.world ≡ w → Keeps s.world w → (place : ℕ) (o : Object) → slice_get s.world.heap place ≡ Some o → Survives x s t place o
survives x s t w e keeps place o held = stays_on x s t place o (subst (λ (v : World). Stays v place o) (sym e) (keeps.each place o held))

-- an object that the events of a call moved, or did not
survives_moved : (x : Subject) (s t : State) (at : At x.program s) (call : Calls x s at) (place : ℕ) (o : Object)
    → Moves x (is_selecting at.now.row.action) call.names.called.signature call.units s.world t.world place o → Survives x s t place o
survives_moved x s t at call place o m = record { later = m.later; held = m.held; site = m.site; class = m.class; automaton = by m.automaton }
  where
    by : (m.later.automaton ≡ o.automaton) ⊎ IsMovedOn x (is_selecting at.now.row.action) call.names.called.signature call.units s.world place o m.later.automaton
        → (m.later.automaton ≡ o.automaton) ⊎ IsMovedBy x s place o m.later.automaton
    by (inl e) = inl e
    by (inr i) = inr (record { at = at; call = call; event = i.event; of_place = i.of_place; is = i.is })

after_call : (x : Subject) (s t : State) (at : At x.program s) (call : Calls x s at) (w : World) → t.world ≡ w → Keeps call.world w
    → (place : ℕ) (o : Object) → slice_get s.world.heap place ≡ Some o → Survives x s t place o
after_call x s t at call w e keeps place o held =
    let moves = moves_by x _ _ _ s.world call.world call.events place o held in
    survives_moved x s t at call place o (moved_on x _ _ _ s.world call.world t.world place o moves (subst (λ (v : World). Keeps call.world v) (sym e) keeps))

-- a new object is thrown
thrown_new : (x : Subject) (s t : State) (w : World) (f : Frame) (below : List Frame) (class : List ℕ) → Keeps s.world w → ThrowsNew x w f below class t
    → (place : ℕ) (o : Object) → slice_get s.world.heap place ≡ Some o → Survives x s t place o
thrown_new x s t w f below class keeps h = survives x s t h.world (world_of t _ h.after) (keeps_on s.world w h.world keeps (keeps_made x _ w _ h.world h.makes))

pub objects_survive : (x : Subject) (s t : State) → Step x s t → (place : ℕ) (o : Object) → slice_get s.world.heap place ≡ Some o → Survives x s t place o
objects_survive x s t (advances at h) = survives x s t h.world (world_of t _ h.after) (keeps_makes at.now.row.action x _ _ _ h.units s.world h.made h.world h.makes)
objects_survive x s t (enters at h) = after_call x s t at h.call h.call.world (world_of t _ h.enters.after) (keeps_all h.call.world)
objects_survive x s t (gets_result at h) = after_call x s t at h.call h.world (world_of t _ h.after) (keeps_result x _ _ _ h.call.world h.made h.world h.gives)
objects_survive x s t (gets_exception at h) = after_call x s t at h.call h.world (world_of t _ h.after) (keeps_listed x _ _ _ h.call.world h.thrown h.world h.throws)
objects_survive x s t (enters_entry at h) = survives x s t s.world (world_of t _ h.enters.after) (keeps_all s.world)
objects_survive x s t (returns at h) = survives x s t s.world (world_of t _ h.after) (keeps_all s.world)
objects_survive x s t (resumes at h) = survives x s t s.world (world_of t _ h.after) (keeps_all s.world)
objects_survive x s t (ends at h) = survives x s t s.world (world_of t _ h.after) (keeps_all s.world)
objects_survive x s t (raises at h) = thrown_new x s t s.world _ _ _ (keeps_all s.world) h.throws
objects_survive x s t (throws at h) = survives x s t s.world (world_of t _ h.after) (keeps_all s.world)
objects_survive x s t (catches at h) = survives x s t s.world (world_of t _ h.after) (keeps_all s.world)
objects_survive x s t (unwinds at h) = survives x s t s.world (world_of t _ h.after ∙ unwound_world at.below s.world at.place) (keeps_all s.world)
objects_survive x s t (starts h) = survives x s t (with_started s.world h.number) (world_of t _ h.after) (keeps_started s.world h.number)
objects_survive x s t (denies h) = thrown_new x s t s.world _ _ _ (keeps_all s.world) h.throws
objects_survive x s t (wraps at h) = thrown_new x s t _ _ _ _ (keeps_kept s.world (at.place ∷ [])) h.throws
