-- Public contracts rest on this module.
-- What becomes of an object in a step of nodes.
use Rattle.std.specs.Prelude.{◌≡◌, ◌⊎◌, ℕ, Some, slice_get, slice_index}
use Rattle.op_model.specs.Supplies.{Given}
use Rattle.machine_bytecode.specs.Events.{IsEvent}
use Rattle.machine_bytecode.specs.Objects.{Subject}
use Rattle.machine_bytecode.specs.States.{Object, State}
use Rattle.machine_nodes.specs.NodeSteps.{AtNode, Calls, is_selecting_kind}
use Rattle.machine_nodes.specs.Slots.{argument_values}

-- The state is at a call of a kind that selects by the object's class, its units are an event of the object at a place, and this
-- is the next state of the object's automaton.
pub record IsMovedBy (x : Subject) (given : Given) (s : State) (place : ℕ) (o : Object) (next : ℕ) : Type 0 where
  pub at : AtNode x given s
  pub calls : Calls x given s at
  pub event : IsEvent x (is_selecting_kind calls.call.kind) (record { name = calls.call.name; descriptor = calls.call.descriptor }) (argument_values calls.call.arguments at.frame.slots) s.world
  pub of_place : event.receiver.place ≡ place
  pub is : next ≡ slice_index event.event.next o.automaton

-- The object is at its place afterwards, with its site and its class; its automaton is in the same state, unless an event of
-- the object moved it.
pub record Survives (x : Subject) (given : Given) (s t : State) (place : ℕ) (o : Object) : Type 0 where
  pub later : Object
  pub held : slice_get t.world.heap place ≡ Some later
  pub site : later.site ≡ o.site
  pub class : later.class ≡ o.class
  pub automaton : (later.automaton ≡ o.automaton) ⊎ IsMovedBy x given s place o later.automaton
