-- Public contracts rest on this module.
-- What becomes of an object in a step of the machine.
use Rattle.std.specs.Prelude.{◌≡◌, ◌⊎◌, ℕ, Some, slice_get, slice_index}
use Rattle.jvm_model.specs.Table.{is_selecting}
use Rattle.machine_bytecode.specs.Events.{IsEvent}
use Rattle.machine_bytecode.specs.Machine.{At, Calls}
use Rattle.machine_bytecode.specs.Objects.{Subject}
use Rattle.machine_bytecode.specs.States.{Object, State}

-- The state is at a call that is an event of the object at a place, and this is the next state of its automaton.
pub record IsMovedBy (x : Subject) (s : State) (place : ℕ) (o : Object) (next : ℕ) : Type 0 where
  pub at : At x.program s
  pub call : Calls x s at
  pub event : IsEvent x (is_selecting at.now.row.action) call.names.called.signature call.units s.world
  pub of_place : event.receiver.place ≡ place
  pub is : next ≡ slice_index event.event.next o.automaton

-- The object is at its place afterwards, with its site and its class; its automaton is in the same state, unless an event of
-- the object moved it.
pub record Survives (x : Subject) (s t : State) (place : ℕ) (o : Object) : Type 0 where
  pub later : Object
  pub held : slice_get t.world.heap place ≡ Some later
  pub site : later.site ≡ o.site
  pub class : later.class ≡ o.class
  pub automaton : (later.automaton ≡ o.automaton) ⊎ IsMovedBy x s place o later.automaton
