-- Executions in a program whose set refuses nothing are executions of the nodes, and are covered.
use Rattle.std.proofs.Common.{◌≡◌, ℕ, List, [], ◌∷◌, Some, Ok, refl, sym, subst}
use Rattle.std.specs.List.{All, AllByRecursion, Contains}
use Rattle.std.proofs.lemmas.List.Elements.{All-from_recursion}
use Rattle.std.proofs.lemmas.Option.{none-some}
use Rattle.jvm_model.specs.declared.number.ClassNo.{ClassNo}
use Rattle.least_sets.specs.Rules.{IsClosedSet}
use Rattle.op_model.specs.declared.lowered.LoweredMethod.{LoweredMethod}
use Rattle.op_model.specs.declared.node.Node.{Node}
use Rattle.op_model.specs.Supplies.{Given, GivenAs, IsMapOf}
use Rattle.machine_bytecode.specs.Executions.{AreSteps, IsExecution}
use Rattle.machine_bytecode.specs.Objects.{Subject}
use Rattle.machine_bytecode.specs.Start.{IsFirst, start_frame}
use Rattle.machine_bytecode.specs.States.{State}
use Rattle.machine_nodes.specs.Nodes.{AreStartNodes, IsClassNumber}
use Rattle.machine_nodes.specs.NodeExecutions.{IsNodeExecution}
use Rattle.points_to_rules.specs.Facts.{Fact}
use Rattle.points_to_rules.specs.Refusals.{IsUnrefused}
use Rattle.points_to_rules.specs.Rules.{Instance}
use Rattle.simulation.proofs.Accepted.{accepted_code, exceptions_of, once_of, start_of}
use Rattle.simulation.proofs.Executions.{each_execution}
use Rattle.simulation.proofs.Fits.{Fits, in_start}
use Rattle.simulation.proofs.Known.{LoweredCode}
use Rattle.simulation.proofs.Simulated.{step_shown}
use Rattle.simulation.proofs.StartFrames.{OneConcerned}
use Rattle.simulation.specs.Simulation.{AreLowered, IsRun, exception_names}
use Rattle.coverage.specs.Covering.{Covers}
use Rattle.points_to_rules.specs.WholeMethods.{AreWholeMethods}
use Rattle.coverage.proofs.Executions.{covers_all, step_covers}
use Rattle.coverage.proofs.FirstStates.{first_covered}
use Rattle.coverage.proofs.RefusedCalls.{HasNoRefusedCall}
use Rattle.coverage.proofs.Refused.{calls_unrefused}
use Rattle.simulation.proofs.Entered.{ServesCode}
use Rattle.simulation.proofs.Entering.{step_is_lowered}
use Rattle.simulation.proofs.Frames.{lowered_as, none, with_newest}

-- each frame of the states has nodes; the states are those of an execution of the nodes; and the set covers each of them
abbrev pub AreCovered : (x : Subject) (given : Given) (gives : GivenAs) (S : Fact → Type 0) → List State → Type 0
AreCovered x given gives S states = All (AreLowered given) states × IsNodeExecution x given states × ((s : State) → Contains states s → Covers x gives S s)

module _ (x : Subject) (given : Given) (gives : GivenAs) (S : Fact → Type 0) (run : IsRun x given) (map : IsMapOf given gives) (serves : ServesCode x.program gives)
    (whole : AreWholeMethods x.program gives) (closed : IsClosedSet (Instance x.program gives (record { 0 = x.entry })) S) (unrefused : IsUnrefused x.program gives S) where
  known : (number : ℕ) (l : LoweredMethod) → given number ≡ Some (Ok l) → LoweredCode x.program number l
  known number l is = let a = run.nodes.each number l is in accepted_code x.program run.program number a.0 a.1 l a.2

  exceptions : (name : List ℕ) → Contains exception_names name → (c : ClassNo) × IsClassNumber x.program c name
  exceptions = exceptions_of x.program run.exceptions

  once : OneConcerned x.program
  once = once_of x.program run.program

  start : (nodes : List Node) × AreStartNodes x nodes
  start = start_of x run.program run.entry

  calls : HasNoRefusedCall x.program gives S
  calls = calls_unrefused x.program gives S run.program whole unrefused

  -- step by step
  steps_lowered : (s : State) (states : List State) → Fits x s → AreLowered given s → Covers x gives S s → AreSteps x s states → AllByRecursion (AreLowered given) (s ∷ states)
  steps_lowered s [] fits low covered steps = (low, tt)
  steps_lowered s (t ∷ states) fits low covered steps =
      let low_t = step_is_lowered x run.program given gives S map serves unrefused closed whole calls known exceptions once s t fits low covered steps.0 in
      let shown = step_shown x run.program given known exceptions once start.0 start.1 run.entry s t fits low low_t steps.0 in
      (low, steps_lowered t states shown.1 low_t (step_covers x given gives S map closed whole calls s t shown.0 covered) steps.1)

  fits_first : (s : State) → IsFirst x s → Fits x s
  fits_first s first = subst (λ (u : State). Fits x u) (sym first.is) (record { awake = refl; place = in_start refl }, tt)

  -- the frame from which the program is started has no method
  lowered_first : (s : State) → IsFirst x s → AreLowered given s
  lowered_first s first = lowered_as given s _ first.is (with_newest given start_frame [] (λ number e. absurd (none-some number e)) (none given))

  all_lowered : (states : List State) → IsExecution x states → All (AreLowered given) states
  all_lowered states e =
      All-from_recursion (AreLowered given) states
      (subst (λ (us : List State). AllByRecursion (AreLowered given) us) (sym e.begins)
      (steps_lowered e.first e.others (fits_first e.first e.is_first) (lowered_first e.first e.is_first) (first_covered x gives S closed e.first e.is_first) e.steps))

  pub executions_covered : (states : List State) → IsExecution x states → AreCovered x given gives S states
  executions_covered states e =
      let all = all_lowered states e in
      let nodes = each_execution x given run states e all in
      (all, nodes, covers_all x given gives S map closed whole calls states nodes)
