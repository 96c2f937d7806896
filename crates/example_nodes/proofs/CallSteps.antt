-- Steps of calls and returns on nodes, from what is found at the call; and of exceptions and initialisers.
use Rattle.std.proofs.Common.{codes, ◌≡◌, ℕ, true, false, List, [], ◌∷◌, length, Option, Some, None, Ok, slice_get, refl}
use Rattle.std.specs.List.{Contains}
use Rattle.jvm_model.specs.declared.number.ClassNo.{ClassNo}
use Rattle.jvm_model.specs.declared.site.SiteKind.TheVariants.{Thrown}
use Rattle.jvm_model.specs.Programs.{Method}
use Rattle.jvm_model.specs.Table.{null_pointer}
use Rattle.op_model.specs.declared.lowered.LoweredMethod.{LoweredMethod}
use Rattle.op_model.specs.declared.node.Node.{Node}
use Rattle.op_model.specs.declared.node.NodeHandler.{NodeHandler}
use Rattle.op_model.specs.declared.op.Call.{Call as NodeCall}
use Rattle.op_model.specs.declared.op.Op.TheVariants.{Call, Return, Throw}
use Rattle.op_model.specs.Supplies.{Given}
use Rattle.machine_bytecode.specs.Described.{GivesResult, ThrowsListed}
use Rattle.machine_bytecode.specs.Events.{HasEvents}
use Rattle.machine_bytecode.specs.Machine.{IsInitialiser, Throwing, unwound, exception_class}
use Rattle.machine_bytecode.specs.Objects.{Subject, IsOf}
use Rattle.machine_bytecode.specs.States.{Value, primitive_value, null_value, reference_to, Object, Frame, World, State, slot_at, runs_on, throws_on, waiting, moved_to, with_object, with_kept, with_started, new_object, site_at}
use Rattle.example_machine.proofs.Runs.{frame_at}
use Rattle.example_machine.proofs.Throws.{throwing_at}
use Rattle.machine_nodes.specs.Nodes.{IsClassNumber, StandsAt}
use Rattle.machine_nodes.specs.NodeSteps.{AtNode, Calls, IsTargetOf, is_selecting_kind, Takes, IsFirstTaking}
use Rattle.machine_nodes.specs.Slots.{argument_values, argument_slots, returned_value}
use Rattle.example_nodes.specs.Taking.{EnteringNode, GettingOnNode, ThrownAtNode, ReturningNode, ResumingNode, RaisingNode, ThrowingNode, CatchingNode, UnwindingNode, StartingNode, WrappingNode}
use Rattle.example_nodes.proofs.Slots.{leaves, are_left_by, reads_alike, read_alike, is_among, stands_among, catches_with, are_caught_by}
use Rattle.example_nodes.proofs.Steps.{node_at, stands_on, runs_there}

-- what is found at a call: the target, and the world after the events
pub record Found (x : Subject) (n : Node) (slots : List Value) (w : World) (after : World) : Type 0 where
  pub call : NodeCall
  pub is_call : n.op ≡ Call call
  pub resolved : Method
  pub stands : slice_get x.program.methods call.resolved.0 ≡ Some resolved
  pub target : ℕ
  pub is_target : IsTargetOf call.kind x.program call resolved w (argument_values call.arguments slots) target
  pub events : HasEvents x (is_selecting_kind call.kind) (record { name = call.name; descriptor = call.descriptor }) (argument_values call.arguments slots) w after

module _ (x : Subject) (given : Given) (number : ℕ) (m : LoweredMethod) (is_given : given number ≡ Some (Ok m)) (below : List Frame) (offset : ℕ) (slots : List Value) (w : World) (n : Node) (is : node_at offset m.nodes ≡ Some n) where
  abbrev here : State
  here = runs_on (frame_at number offset slots ∷ below) w

  abbrev now : StandsAt x given (frame_at number offset slots)
  now = stands_on x given number m is_given offset slots false n is

  abbrev at : AtNode x given here
  at = runs_there x given (frame_at number offset slots) below w now

  -- ---- calls

  abbrev call_here : (after : World) → Found x n slots w after → Calls x given here at
  call_here after f = record { number = number; in_method = refl; call = f.call; is_call = f.is_call; resolved = f.resolved; stands = f.stands; target = f.target; is_target = f.is_target; world = after; events = f.events }

  -- the target is given as nodes
  pub enter : (after : World) (f : Found x n slots w after) (callee : LoweredMethod) → given f.target ≡ Some (Ok callee) → (left : List Value) → leaves (argument_slots f.call.arguments) None primitive_value slots left ≡ true
      → (locals : List Value) → reads_alike (argument_values f.call.arguments slots) locals ≡ true
      → EnteringNode x given f.target here (runs_on (frame_at f.target 0 locals ∷ waiting (frame_at number offset slots) left ∷ below) after)
  enter after f callee callee_given left left_test locals alike = record {
    at = at;
    step = record {
      calls = call_here after f;
      left = left;
      are_left = are_left_by _ _ _ _ _ left_test;
      enters = record { method = callee; is_given = callee_given; slots = locals; arguments = read_alike _ _ alike; after = refl };
    };
    goes = refl;
  }

  -- it is described, and gives a result
  pub get : (after : World) (f : Found x n slots w after) (value : Value) (last : World) → GivesResult x f.target (frame_at number offset slots) (argument_values f.call.arguments slots) after value last
      → (left : List Value) → leaves (argument_slots f.call.arguments) f.call.result value slots left ≡ true → (next : ℕ) → is_among n.successors next ≡ true
      → GettingOnNode x given f.target here (runs_on (frame_at number next left ∷ below) last)
  get after f value last gives left left_test next among = record {
    at = at;
    step = record { calls = call_here after f; value = value; world = last; gives = gives; left = left; are_left = are_left_by _ _ _ _ _ left_test; next = next; goes = stands_among n.successors next among; after = refl };
    goes = refl;
  }

  -- it throws
  pub get_thrown : (after : World) (f : Found x n slots w after) (thrown : ℕ) (last : World) → ThrowsListed x f.target (frame_at number offset slots) (argument_values f.call.arguments slots) after thrown last
      → ThrownAtNode x given f.target here (throws_on (frame_at number offset slots ∷ below) last thrown)
  get_thrown after f thrown last throws = record { at = at; step = record { calls = call_here after f; thrown = thrown; world = last; throws = throws; after = refl }; goes = refl }

  -- ---- exceptions

  -- a listed class is raised, at a node that is no throw
  pub raise : (class : ClassNo) → Contains n.throws class → (name : List ℕ) → IsClassNumber x.program class name
      → ((value : ℕ) → n.op ≡ Throw value → name ≡ exception_class null_pointer → slot_at slots value ≡ null_value)
      → RaisingNode x given name here
      (throws_on (frame_at number offset slots ∷ below) (with_object w (new_object x.program (site_at Thrown (frame_at number offset slots) name) x.property.initial)) (length w.heap))
  raise class listed name is_class of_null = record {
    at = at;
    step = record {
      number = class;
      listed = listed;
      class = name;
      is_class = is_class;
      of_null = of_null;
      throws = record { thrown = length w.heap; world = _; makes = record { made_is = refl; after_is = refl }; after = refl };
    };
    raised = refl;
  }

  pub throw : (value : ℕ) → n.op ≡ Throw value → (thrown : IsOf x.program (codes "java/lang/Throwable") w (slot_at slots value)) → ThrowingNode x given thrown.to.place here (throws_on (frame_at number offset slots ∷ below) w thrown.to.place)
  throw value is_throw thrown = record { at = at; step = record { value = value; is_throw = is_throw; thrown = thrown; after = refl }; thrown = refl }

  module _ (place : ℕ) (o : Object) (held : slice_get w.heap place ≡ Some o) where
    abbrev throwing : Throwing (throws_on (frame_at number offset slots ∷ below) w place)
    throwing = throwing_at (frame_at number offset slots) below w place o held

    pub catch : (h : NodeHandler) → IsFirstTaking x.program o.class n.handlers h → (left : List Value) → catches_with m.slots (reference_to place) slots left ≡ true
        → CatchingNode x given place h.target (throws_on (frame_at number offset slots ∷ below) w place) (runs_on (frame_at number h.target left ∷ below) w)
    catch h first left caught = record {
      at = throwing;
      thrown = refl;
      step = record { now = now; handler = h; first = first; left = left; are_caught = are_caught_by m.slots (reference_to place) slots left caught; after = refl };
      caught = refl;
    }

    pub unwind : ((h : NodeHandler) → Contains n.handlers h → Takes x.program h o.class → ⊥) → UnwindingNode x given place (throws_on (frame_at number offset slots ∷ below) w place) (unwound below w place)
    unwind none = record { at = throwing; thrown = refl; step = record { uncaught = record { now = now; none = none }; after = refl } }

  -- ---- initialisers

  pub start : (trigger : ClassNo) → n.trigger ≡ Some trigger → (class : List ℕ) → IsClassNumber x.program trigger class → (started : ℕ) → IsInitialiser x.program class started → (Contains w.started started → ⊥)
      → (method : LoweredMethod) → given started ≡ Some (Ok method) → (locals : List Value) → reads_alike [] locals ≡ true
      → StartingNode x given started here (runs_on (frame_at started 0 locals ∷ frame_at number offset slots ∷ below) (with_started w started))
  start trigger is_trigger class is_class started initialiser fresh method method_given locals empty = record {
    at = at;
    step = record {
      trigger = trigger;
      is_trigger = is_trigger;
      class = class;
      is_class = is_class;
      number = started;
      initialiser = initialiser;
      fresh = fresh;
      method = method;
      is_given = method_given;
      slots = locals;
      empty = read_alike [] locals empty;
      after = refl;
    };
    started = refl;
  }

-- ---- returns, and what leaves an initialiser

module _ (x : Subject) (given : Given) (number : ℕ) (m : LoweredMethod) (is_given : given number ≡ Some (Ok m)) (caller : Frame) (rest : List Frame) (offset : ℕ) (slots : List Value) (w : World) (n : Node) (is : node_at offset m.nodes ≡ Some n) where
  -- to a caller
  pub give_back : (value : Option ℕ) → n.op ≡ Return value → caller.waits ≡ true → (caller_at : StandsAt x given caller) (call : NodeCall) → caller_at.node.op ≡ Call call
      → (left : List Value) → leaves [] call.result (returned_value value slots) caller.slots left ≡ true → (next : ℕ) → is_among caller_at.node.successors next ≡ true
      → ReturningNode x given (runs_on (frame_at number offset slots ∷ caller ∷ rest) w) (runs_on (moved_to caller next left ∷ rest) w)
  give_back value is_return called caller_at call is_call left left_test next among = record {
    at = runs_there x given (frame_at number offset slots) (caller ∷ rest) w (stands_on x given number m is_given offset slots false n is);
    step = record {
      value = value;
      is_return = is_return;
      caller = caller;
      rest = rest;
      below = refl;
      called = called;
      caller_at = caller_at;
      call = call;
      is_call = is_call;
      left = left;
      are_left = are_left_by _ _ _ _ _ left_test;
      next = next;
      goes = stands_among caller_at.node.successors next among;
      after = refl;
    };
  }

  -- to the frame that triggered it
  pub resume : (value : Option ℕ) → n.op ≡ Return value → caller.waits ≡ false → ResumingNode x given (runs_on (frame_at number offset slots ∷ caller ∷ rest) w) (runs_on (caller ∷ rest) w)
  resume value is_return triggered = record {
    at = runs_there x given (frame_at number offset slots) (caller ∷ rest) w (stands_on x given number m is_given offset slots false n is);
    step = record { value = value; is_return = is_return; caller = caller; rest = rest; below = refl; triggered = triggered; after = refl };
  }

  pub wrap : (place : ℕ) (o : Object) (held : slice_get w.heap place ≡ Some o) → ((h : NodeHandler) → Contains n.handlers h → Takes x.program h o.class → ⊥) → caller.waits ≡ false
      → (caller_at : StandsAt x given caller) (class : ClassNo) → Contains caller_at.node.throws class → IsClassNumber x.program class (codes "java/lang/ExceptionInInitializerError")
      → WrappingNode x given place (throws_on (frame_at number offset slots ∷ caller ∷ rest) w place)
      (throws_on (caller ∷ rest) (with_object (with_kept w (place ∷ [])) (new_object x.program (site_at Thrown caller (codes "java/lang/ExceptionInInitializerError")) x.property.initial)) (length w.heap))
  wrap place o held none triggered caller_at class listed is_class = record {
    at = throwing_at (frame_at number offset slots) (caller ∷ rest) w place o held;
    thrown = refl;
    step = record {
      uncaught = record { now = stands_on x given number m is_given offset slots false n is; none = none };
      caller = caller;
      rest = rest;
      below = refl;
      triggered = triggered;
      caller_at = caller_at;
      number = class;
      listed = listed;
      is_class = is_class;
      throws = record { thrown = length w.heap; world = _; makes = record { made_is = refl; after_is = refl }; after = refl };
    };
  }
