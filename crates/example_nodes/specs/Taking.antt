-- Public contracts rest on this module.
-- That the states of some execution of bytecode are an execution on nodes too, and that its last step is one of a kind on nodes.
use Rattle.std.specs.Prelude.{◌≡◌, ℕ, List, [], ◌∷◌, ◌++◌}
use Rattle.op_model.specs.declared.op.Op.{Op}
use Rattle.op_model.specs.Supplies.{Given}
use Rattle.machine_bytecode.specs.Executions.{IsExecution}
use Rattle.machine_bytecode.specs.Machine.{AtStart, Throwing}
use Rattle.machine_bytecode.specs.Objects.{Subject}
use Rattle.machine_bytecode.specs.States.{Value, State}
use Rattle.example_machine.specs.Taking.{Shows}
use Rattle.machine_nodes.specs.NodeExecutions.{IsNodeExecution}
use Rattle.machine_nodes.specs.NodeSteps.{AtNode, Advances, EntersTarget, GetsResult, GetsException, EntersEntry, Returns, Resumes, Ends, Raises, Throws, Catches, Unwinds, Starts, Wraps}

-- The very same states are an execution of bytecode and an execution on nodes, whose last step is of the kind.
pub record TakesNode (x : Subject) (given : Given) (Kind : State → State → Type 0) : Type 0 where
  pub states : List State
  pub before : State
  pub after : State
  pub of_bytecode : IsExecution x (states ++ before ∷ after ∷ [])
  pub of_nodes : IsNodeExecution x given (states ++ before ∷ after ∷ [])
  pub is : Kind before after

-- ---- the kinds

-- An operation is made, and goes on.
pub record Operating (x : Subject) (given : Given) (op : Op) (s t : State) : Type 0 where
  pub at : AtNode x given s
  pub of_op : at.now.node.op ≡ op
  pub step : Advances x given s t at

-- After it the newest frame stands at an offset, with these slots.
abbrev pub OperatesTo : Subject → Given → Op → ℕ → List Value → State → State → Type 0
OperatesTo x given op offset slots s t = Operating x given op s t × Shows offset slots t

-- A call goes to the method of a number, which is given as nodes; or to a described one, which gives a result, or throws.
pub record EnteringNode (x : Subject) (given : Given) (target : ℕ) (s t : State) : Type 0 where
  pub at : AtNode x given s
  pub step : EntersTarget x given s t at
  pub goes : step.calls.target ≡ target

pub record GettingOnNode (x : Subject) (given : Given) (target : ℕ) (s t : State) : Type 0 where
  pub at : AtNode x given s
  pub step : GetsResult x given s t at
  pub goes : step.calls.target ≡ target

pub record ThrownAtNode (x : Subject) (given : Given) (target : ℕ) (s t : State) : Type 0 where
  pub at : AtNode x given s
  pub step : GetsException x given s t at
  pub goes : step.calls.target ≡ target

-- The start calls the entry; a method returns to its caller; an initialiser returns to the frame that triggered it; the start
-- returns.
pub record EnteringEntryNode (x : Subject) (given : Given) (s t : State) : Type 0 where
  pub at : AtStart s 0
  pub step : EntersEntry x given s t at

pub record ReturningNode (x : Subject) (given : Given) (s t : State) : Type 0 where
  pub at : AtNode x given s
  pub step : Returns x given s t at

pub record ResumingNode (x : Subject) (given : Given) (s t : State) : Type 0 where
  pub at : AtNode x given s
  pub step : Resumes x given s t at

pub record EndingNode (x : Subject) (given : Given) (s t : State) : Type 0 where
  pub at : AtNode x given s
  pub step : Ends x given s t at

-- A new object of a class is thrown.
pub record RaisingNode (x : Subject) (given : Given) (class : List ℕ) (s t : State) : Type 0 where
  pub at : AtNode x given s
  pub step : Raises x given s t at
  pub raised : step.class ≡ class

-- An object at a place is thrown, is caught at an offset, or leaves a frame.
pub record ThrowingNode (x : Subject) (given : Given) (place : ℕ) (s t : State) : Type 0 where
  pub at : AtNode x given s
  pub step : Throws x given s t at
  pub thrown : step.thrown.to.place ≡ place

pub record CatchingNode (x : Subject) (given : Given) (place offset : ℕ) (s t : State) : Type 0 where
  pub at : Throwing s
  pub thrown : at.place ≡ place
  pub step : Catches x given s t at
  pub caught : step.handler.target ≡ offset

pub record UnwindingNode (x : Subject) (given : Given) (place : ℕ) (s t : State) : Type 0 where
  pub at : Throwing s
  pub thrown : at.place ≡ place
  pub step : Unwinds x given s t at

-- The initialiser of a number starts; and what leaves one, an object at a place, is wrapped.
pub record StartingNode (x : Subject) (given : Given) (number : ℕ) (s t : State) : Type 0 where
  pub at : AtNode x given s
  pub step : Starts x given s t at
  pub started : step.number ≡ number

pub record WrappingNode (x : Subject) (given : Given) (place : ℕ) (s t : State) : Type 0 where
  pub at : Throwing s
  pub thrown : at.place ≡ place
  pub step : Wraps x given s t at
