-- Public contracts rest on this module.
-- Executions: from a first state, step by step, of any length; and the error.
use Rattle.std.specs.Prelude.{◌≡◌, List, [], ◌∷◌, Contains}
use Rattle.jvm_model.specs.declared.site.Site.{Site}
use Rattle.machine_bytecode.specs.Machine.{Step}
use Rattle.machine_bytecode.specs.Objects.{Subject}
use Rattle.machine_bytecode.specs.Start.{IsFirst}
use Rattle.machine_bytecode.specs.States.{Object, State}

-- Each state is a step of the one before.
abbrev pub AreSteps : Subject → State → List State → Type 0
AreSteps x s [] = Unit {0}
AreSteps x s (t ∷ states) = Step x s t × AreSteps x t states

-- An execution: a list of states of any length, which begins with a first state.
pub record IsExecution (x : Subject) (states : List State) : Type 0 where
  pub first : State
  pub others : List State
  pub begins : states ≡ first ∷ others
  pub is_first : IsFirst x first
  pub steps : AreSteps x first others

-- Some execution has a state in which an object of the site is in the error state.
pub record Errs (x : Subject) (site : Site) : Type 0 where
  pub states : List State
  pub execution : IsExecution x states
  pub state : State
  pub reached : Contains states state
  pub object : Object
  pub lives : Contains state.world.heap object
  pub of_site : object.site ≡ site
  pub in_error : object.automaton ≡ x.property.error
