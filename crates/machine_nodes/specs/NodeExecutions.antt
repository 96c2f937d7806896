-- Public contracts rest on this module.
-- Executions on nodes: from a first state, step by step, of any length.
use Rattle.std.specs.Prelude.{◌≡◌, List, [], ◌∷◌}
use Rattle.op_model.specs.Supplies.{Given}
use Rattle.machine_bytecode.specs.Objects.{Subject}
use Rattle.machine_bytecode.specs.Start.{IsFirst}
use Rattle.machine_bytecode.specs.States.{State}
use Rattle.machine_nodes.specs.NodeSteps.{NodeStep}

-- Each state is a step of the one before.
abbrev pub AreNodeSteps : Subject → Given → State → List State → Type 0
AreNodeSteps x given s [] = Unit {0}
AreNodeSteps x given s (t ∷ states) = NodeStep x given s t × AreNodeSteps x given t states

pub record IsNodeExecution (x : Subject) (given : Given) (states : List State) : Type 0 where
  pub first : State
  pub others : List State
  pub begins : states ≡ first ∷ others
  pub is_first : IsFirst x first
  pub steps : AreNodeSteps x given first others
