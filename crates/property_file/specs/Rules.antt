-- Public contracts rest on this module.
-- The rules of a property file, key by key. Each says that a table gives a value that may stand there.
use Rattle.std.specs.Prelude.{codes, ◌≡◌, ◌≢◌, ℕ, pos, ◌≤◌, List, [], ◌∷◌, length, All, Some, slice_get, IsTrue}
use Rattle.std.specs.List.{AllZip}
use Rattle.std.specs.Str.{bytes_eq}
use Rattle.toml.specs.Data.{integer, array, Members, get_member}
use Rattle.jvm_model.specs.declared.automaton.Event.{Event}
use Rattle.jvm_model.specs.Automata.{all_differ, is_same_call, is_state_name}
use Rattle.jvm_model.specs.Descriptors.{IsMethodDescriptor}
use Rattle.jvm_model.specs.Names.{is_method_name, IsClassName}
use Rattle.toml_tables.specs.Documents.{texts, tables}
use Rattle.toml_tables.specs.Tables.{HasOnly, IsTextAt}

-- `version`: the integer 1.
pub record GivesVersion (members : Members) : Type 0 where
  pub value : get_member (codes "version") members ≡ Some (integer (pos 1))

-- `class`: the name of a class.
pub record GivesClass (members : Members) (name : List ℕ) : Type 0 where
  pub value : IsTextAt (codes "class") members name
  pub is_class_name : IsClassName name

-- `states`: 2 to 32 different names of states.
pub record GivesStates (members : Members) (states : List (List ℕ)) : Type 0 where
  pub value : get_member (codes "states") members ≡ Some (array (texts states))
  pub two_states : 2 ≤ length states
  pub state_limit : length states ≤ 32
  pub state_names : All (λ s. IsTrue (is_state_name s)) states
  pub states_differ : IsTrue (all_differ bytes_eq states)

-- The text at a key is the name of the state with this number.
pub record NamesState (states : List (List ℕ)) (key : List ℕ) (members : Members) (number : ℕ) : Type 0 where
  pub name : List ℕ
  pub value : IsTextAt key members name
  pub stands : slice_get states number ≡ Some name

-- `initial`: the name of a state.
abbrev pub GivesInitial : List (List ℕ) → Members → ℕ → Type 0
GivesInitial states members initial = NamesState states (codes "initial") members initial

-- `error`: the name of a state, which is not the initial one.
pub record GivesError (states : List (List ℕ)) (initial : ℕ) (members : Members) (error : ℕ) : Type 0 where
  pub names : NamesState states (codes "error") members error
  pub differs : initial ≢ error

-- `next` of an event: the name of a state for each state in order, and of the error state for the error state.
pub record GivesNext (states : List (List ℕ)) (error : ℕ) (members : Members) (next : List ℕ) : Type 0 where
  pub names : List (List ℕ)
  pub value : get_member (codes "next") members ≡ Some (array (texts names))
  pub stand : AllZip (λ name number. slice_get states number ≡ Some name) names next
  pub total : length next ≡ length states
  pub error_stays : slice_get next error ≡ Some error

-- The keys of an event.
abbrev pub event_keys : List (List ℕ)
event_keys = codes "name" ∷ codes "descriptor" ∷ codes "next" ∷ []

-- The table of an event: the name and the descriptor of a method, and the next states; and no other key.
pub record GivesEvent (states : List (List ℕ)) (error : ℕ) (members : Members) (event : Event) : Type 0 where
  pub name : IsTextAt (codes "name") members event.name
  pub is_method_name : IsTrue (is_method_name event.name)
  pub descriptor : IsTextAt (codes "descriptor") members event.descriptor
  pub is_method_descriptor : IsMethodDescriptor event.descriptor
  pub next : GivesNext states error members event.next
  pub no_other : HasOnly event_keys members

-- `event`: 1 to 32 tables of events, no two of which agree in name and descriptor.
pub record GivesEvents (states : List (List ℕ)) (error : ℕ) (members : Members) (events : List Event) : Type 0 where
  pub event_tables : List Members
  pub value : get_member (codes "event") members ≡ Some (array (tables event_tables))
  pub each : AllZip (GivesEvent states error) event_tables events
  pub one_event : 1 ≤ length events
  pub event_limit : length events ≤ 32
  pub events_differ : IsTrue (all_differ is_same_call events)
