-- Each step of the machine is a step of the nodes, and each execution is one.
use Rattle.std.proofs.Common.{◌≡◌, ℕ, ◌≤◌, List, [], ◌∷◌, ◌++◌, length, Some, Ok, refl, sym, subst, arith}
use Rattle.std.specs.List.{All, AllByRecursion, Contains}
use Rattle.std.proofs.lemmas.List.Elements.{recursion_from_All}
use Rattle.jvm_model.specs.declared.number.ClassNo.{ClassNo}
use Rattle.jvm_model.specs.LinkedPrograms.{IsProgram}
use Rattle.op_model.specs.declared.lowered.LoweredMethod.{LoweredMethod}
use Rattle.op_model.specs.declared.node.Node.{Node}
use Rattle.op_model.specs.Supplies.{Given}
use Rattle.machine_bytecode.specs.Executions.{AreSteps, IsExecution}
use Rattle.machine_bytecode.specs.Machine.{Step, advances, enters, gets_result, gets_exception, enters_entry, returns, resumes, ends, raises, throws, catches, unwinds, starts, denies, wraps}
use Rattle.machine_bytecode.specs.Objects.{Subject}
use Rattle.machine_bytecode.specs.Start.{IsFirst}
use Rattle.machine_bytecode.specs.States.{State}
use Rattle.machine_nodes.specs.NodeExecutions.{AreNodeSteps, IsNodeExecution}
use Rattle.machine_nodes.specs.NodeSteps.{NodeStep}
use Rattle.machine_nodes.specs.Nodes.{AreStartNodes, IsClassNumber}
use Rattle.simulation.proofs.Fits.{Fits, in_start}
use Rattle.simulation.proofs.Known.{LoweredCode}
use Rattle.simulation.proofs.Leaving.{back, resume}
use Rattle.simulation.proofs.Running.{advance, enter, exception, raise, result, throw}
use Rattle.simulation.proofs.StartFrames.{OneConcerned}
use Rattle.simulation.proofs.Starting.{deny, end, enter_entry, start}
use Rattle.simulation.proofs.Throwing.{thrown_catches, thrown_unwinds, thrown_wraps}
use Rattle.simulation.specs.Simulation.{AreLowered, HasEntry, exception_names}

-- ---- lists of states

pub head_is : {X : Type 0} (x y : X) (xs ys : List X) → x ∷ xs ≡ y ∷ ys → x ≡ y
head_is x y xs ys e = cc

pub tail_is : {X : Type 0} (x y : X) (xs ys : List X) → x ∷ xs ≡ y ∷ ys → xs ≡ ys
tail_is x y xs ys e = cc

first_steps : (x : Subject) (s : State) (states later : List State) → AreSteps x s (states ++ later) → AreSteps x s states
first_steps x s [] later steps = tt
first_steps x s (t ∷ states) later steps = (steps.0, first_steps x t states later steps.1)

-- the beginning of an execution is one
pub beginning : (x : Subject) (states later : List State) → 1 ≤ length states → IsExecution x (states ++ later) → IsExecution x states
beginning x [] later some e = absurd (omega arith)
beginning x (s ∷ states) later some e =
    let same : e.first ≡ s = sym (head_is s e.first (states ++ later) e.others e.begins) in
    let rest : e.others ≡ states ++ later = sym (tail_is s e.first (states ++ later) e.others e.begins) in
    record {
      first = s;
      others = states;
      begins = refl;
      is_first = subst (IsFirst x) same e.is_first;
      steps = first_steps x s states later (subst (λ (f : State). AreSteps x f (states ++ later)) same (subst (AreSteps x e.first) rest e.steps));
    }

module _ (x : Subject) (program : IsProgram x.program) (given : Given) (known : (number : ℕ) (l : LoweredMethod) → given number ≡ Some (Ok l) → LoweredCode x.program number l)
    (exceptions : (name : List ℕ) → Contains exception_names name → (c : ClassNo) × IsClassNumber x.program c name) (once : OneConcerned x.program) (nodes : List Node) (are : AreStartNodes x nodes) (entry : HasEntry x) where
  -- each step is one of the nodes, and leads to a state that fits
  pub step_shown : (s t : State) → Fits x s → AreLowered given s → AreLowered given t → Step x s t → NodeStep x given s t × Fits x t
  step_shown s t fits low low_t (advances at a) = advance x program given known exceptions s t fits low at a
  step_shown s t fits low low_t (enters at a) = enter x program given known exceptions s t fits low at low_t a
  step_shown s t fits low low_t (gets_result at a) = result x program given known exceptions s t fits low at a
  step_shown s t fits low low_t (gets_exception at a) = exception x program given known exceptions s t fits low at a
  step_shown s t fits low low_t (enters_entry at a) = enter_entry x program given known exceptions once nodes are entry s t fits low low_t at a
  step_shown s t fits low low_t (returns at a) = back x program given known exceptions nodes are s t fits low at a
  step_shown s t fits low low_t (resumes at a) = resume x program given known exceptions nodes are s t fits low at a
  step_shown s t fits low low_t (ends at a) = end x program given known exceptions once nodes are entry s t fits low at a
  step_shown s t fits low low_t (raises at a) = raise x program given known exceptions s t fits low at a
  step_shown s t fits low low_t (throws at a) = throw x program given known exceptions s t fits low at a
  step_shown s t fits low low_t (catches at a) = thrown_catches x program given known exceptions once nodes are s t fits low at a
  step_shown s t fits low low_t (unwinds at a) = thrown_unwinds x program given known exceptions once nodes are s t fits low at a
  step_shown s t fits low low_t (starts a) = start x program given known exceptions once nodes are entry s t fits low low_t a
  step_shown s t fits low low_t (denies a) = deny x program given known exceptions once nodes are entry s t fits low a
  step_shown s t fits low low_t (wraps at a) = thrown_wraps x program given known exceptions once nodes are s t fits low at a

  steps_shown : (s : State) (states : List State) → Fits x s → AllByRecursion (AreLowered given) (s ∷ states) → AreSteps x s states → AreNodeSteps x given s states
  steps_shown s [] fits low steps = tt
  steps_shown s (t ∷ states) fits low steps =
      let shown = step_shown s t fits low.0 low.1.0 steps.0 in
      (shown.0, steps_shown t states shown.1 low.1 steps.1)

  fits_first : (s : State) → IsFirst x s → Fits x s
  fits_first s first = subst (Fits x) (sym first.is) (record { awake = refl; place = in_start refl }, tt)

  pub execution_shown : (states : List State) → IsExecution x states → All (AreLowered given) states → IsNodeExecution x given states
  execution_shown states e all =
      let low : AllByRecursion (AreLowered given) (e.first ∷ e.others) = subst (AllByRecursion (AreLowered given)) e.begins (recursion_from_All (AreLowered given) states all) in
      record { first = e.first; others = e.others; begins = e.begins; is_first = e.is_first; steps = steps_shown e.first e.others (fits_first e.first e.is_first) low e.steps }
