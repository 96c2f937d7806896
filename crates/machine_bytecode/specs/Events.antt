-- Public contracts rest on this module.
-- The events of a property: which calls are events, and what they do to the automaton of an object (Fink et al., section 2).
use Rattle.std.specs.Prelude.{◌≡◌, ℕ, Bool, false, ◌&&◌, find, List, Option, Some, slice_index, IsTrue}
use Rattle.std.specs.Str.{bytes_eq}
use Rattle.jvm_model.specs.declared.automaton.Automaton.{Automaton}
use Rattle.jvm_model.specs.declared.automaton.Event.{Event}
use Rattle.jvm_model.specs.Lookups.{Signature}
use Rattle.jvm_model.specs.Soundness.{is_array}
use Rattle.jvm_model.specs.Subtypes.{IsSubtype}
use Rattle.machine_bytecode.specs.Objects.{Subject, Refers}
use Rattle.machine_bytecode.specs.States.{Value, World, with_automaton, slot_at}

-- The event that a call of a name and a descriptor is.
abbrev pub event_for : Automaton → Signature → Option Event
event_for a s = find (λ (e : Event). bytes_eq e.name s.name && bytes_eq e.descriptor s.descriptor) a.events

-- A call of a name and a descriptor is an event of an object: it selects by the object's class, and is one of the
-- property's calls; and the object is the receiver, which is no array, and whose class is a subtype of the property's.
pub record IsEvent (x : Subject) (selects : Bool) (s : Signature) (units : List Value) (w : World) : Type 0 where
  pub selecting : IsTrue selects
  pub event : Event
  pub named : event_for x.property s ≡ Some event
  pub receiver : Refers w (slot_at units 0)
  pub no_array : is_array receiver.object.class ≡ false
  pub observed : IsSubtype x.program x.property.class_name receiver.object.class

-- The world after the events of a call, before the call itself: the object's state is the event's next one; all else, and
-- without an event everything, is as it was.
pub data HasEvents (x : Subject) (selects : Bool) (s : Signature) (units : List Value) (before after : World) : Type 0 where
  moved : (e : IsEvent x selects s units before)
      → after ≡ with_automaton before e.receiver.place e.receiver.object (slice_index e.event.next e.receiver.object.automaton)
      → HasEvents x selects s units before after
  unmoved : (IsEvent x selects s units before → ⊥) → after ≡ before → HasEvents x selects s units before after
