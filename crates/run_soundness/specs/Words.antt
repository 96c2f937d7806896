-- Public contracts rest on this module.
-- What executions on nodes do to the automaton of an object: a word over the events that may occur at its site.
use Rattle.std.specs.Prelude.{◌≡◌, ℕ, List, All, Contains}
use Rattle.jvm_model.specs.declared.automaton.Automaton.{Automaton}
use Rattle.jvm_model.specs.declared.automaton.Event.{Event}
use Rattle.jvm_model.specs.declared.site.Site.{Site}
use Rattle.op_model.specs.Supplies.{Given, GivenAs}
use Rattle.machine_bytecode.specs.Objects.{Subject}
use Rattle.machine_bytecode.specs.States.{Object, State}
use Rattle.machine_nodes.specs.NodeExecutions.{IsNodeExecution}
use Rattle.points_to_rules.specs.Facts.{Fact}
use Rattle.prune_stage.specs.StageOne.{state_after}
use Rattle.prune_stage.specs.Pruning.{MayOccur}

-- A word over the events that may occur at the site leads from the initial state to this one.
pub record IsWordState (gives : GivenAs) (S : Fact → Type 0) (a : Automaton) (s : Site) (state : ℕ) : Type 0 where
  pub word : List Event
  pub occur : All (MayOccur gives S a s) word
  pub leads : state_after a.initial word ≡ state

-- The automaton of each object, in each state of each execution, is in such a state.
abbrev pub FollowWords : Subject → Given → GivenAs → (Fact → Type 0) → Type 0
FollowWords x given gives S =
    (states : List State) → IsNodeExecution x given states → (t : State) → Contains states t → (o : Object) → Contains t.world.heap o → IsWordState gives S x.property o.site o.automaton

-- Some execution on nodes has a state in which an object of the site is in the error state.
pub record ErrsOnNodes (x : Subject) (given : Given) (site : Site) : Type 0 where
  pub states : List State
  pub execution : IsNodeExecution x given states
  pub state : State
  pub reached : Contains states state
  pub object : Object
  pub lives : Contains state.world.heap object
  pub of_site : object.site ≡ site
  pub in_error : object.automaton ≡ x.property.error
