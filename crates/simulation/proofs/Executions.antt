-- The laws of the simulation.
use Rattle.std.proofs.Common.{◌≡◌, ℕ, ◌≤◌, List, [], ◌∷◌, ◌++◌, length, Some, Ok, sym, subst}
use Rattle.std.specs.List.{All}
use Rattle.op_model.specs.declared.lowered.LoweredMethod.{LoweredMethod}
use Rattle.op_model.specs.Supplies.{Given}
use Rattle.machine_bytecode.specs.Executions.{IsExecution}
use Rattle.machine_bytecode.specs.Objects.{Subject}
use Rattle.machine_bytecode.specs.States.{State}
use Rattle.machine_nodes.specs.NodeExecutions.{AreNodeSteps, IsNodeExecution}
use Rattle.machine_nodes.specs.NodeSteps.{NodeStep}
use Rattle.simulation.proofs.Accepted.{accepted_code, exceptions_of, once_of, start_of}
use Rattle.simulation.proofs.Known.{LoweredCode}
use Rattle.simulation.proofs.Simulated.{beginning, execution_shown, head_is, tail_is}
use Rattle.simulation.specs.Simulation.{AreLowered, IsRun}

pub each_execution : (x : Subject) (given : Given) → IsRun x given → (states : List State) → IsExecution x states → All (AreLowered given) states → IsNodeExecution x given states
each_execution x given run states e all =
    let start = start_of x run.program run.entry in
    execution_shown x run.program given known (exceptions_of x.program run.exceptions) (once_of x.program run.program) start.0 start.1 run.entry states e all
  where
    known : (number : ℕ) (l : LoweredMethod) → given number ≡ Some (Ok l) → LoweredCode x.program number l
    known number l is = let a = run.nodes.each number l is in accepted_code x.program run.program number a.0 a.1 l a.2

pub each_beginning : (x : Subject) (given : Given) → IsRun x given → (states later : List State) → 1 ≤ length states → IsExecution x (states ++ later) → All (AreLowered given) states → IsNodeExecution x given states
each_beginning x given run states later some e all = each_execution x given run states (beginning x states later some e) all

-- the last two states
last_step : (x : Subject) (given : Given) (f : State) (states : List State) (s t : State) → AreNodeSteps x given f (states ++ s ∷ t ∷ []) → NodeStep x given s t
last_step x given f [] s t steps = steps.1.0
last_step x given f (u ∷ states) s t steps = last_step x given u states s t steps.1

last_of : (x : Subject) (given : Given) (states : List State) (s t : State) → IsNodeExecution x given (states ++ s ∷ t ∷ []) → NodeStep x given s t
last_of x given [] s t e =
    let same = sym (head_is s e.first (t ∷ []) e.others e.begins) in
    let rest = sym (tail_is s e.first (t ∷ []) e.others e.begins) in
    (subst (λ (f : State). AreNodeSteps x given f (t ∷ [])) same (subst (AreNodeSteps x given e.first) rest e.steps)).0
last_of x given (u ∷ states) s t e =
    let rest = sym (tail_is u e.first (states ++ s ∷ t ∷ []) e.others e.begins) in
    last_step x given e.first states s t (subst (AreNodeSteps x given e.first) rest e.steps)

pub each_step : (x : Subject) (given : Given) → IsRun x given → (states : List State) (s t : State) → IsExecution x (states ++ s ∷ t ∷ []) → All (AreLowered given) (states ++ s ∷ t ∷ []) → NodeStep x given s t
each_step x given run states s t e all = last_of x given states s t (each_execution x given run (states ++ s ∷ t ∷ []) e all)
