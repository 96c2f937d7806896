-- Public contracts rest on this module.
-- What makes an automaton that of a property.
use Rattle.std.specs.Prelude.{◌≡◌, ◌≢◌, ℕ, ◌<◌, ◌≤◌, Bool, true, ◌&&◌, ◌||◌, not, ◌==◌, nat_le, List, [], ◌∷◌, length, All, Some, slice_get, IsTrue}
use Rattle.std.specs.List.{list_all, list_any}
use Rattle.std.specs.Str.{bytes_eq}
use Rattle.jvm_model.specs.declared.automaton.Automaton.{Automaton}
use Rattle.jvm_model.specs.declared.automaton.Event.{Event}
use Rattle.jvm_model.specs.Names.{is_method_name, IsClassName}
use Rattle.jvm_model.specs.Descriptors.{IsMethodDescriptor}

-- No item is the same as a later one, by the given test.
abbrev pub all_differ : {X : Type 0} → (X → X → Bool) → List X → Bool
all_differ same [] = true
all_differ same (x ∷ xs) = not (list_any (same x) xs) && all_differ same xs

-- An ASCII letter or digit, _ or -.
abbrev pub is_state_byte : ℕ → Bool
is_state_byte b = (nat_le 65 b && nat_le b 90) || (nat_le 97 b && nat_le b 122) || (nat_le 48 b && nat_le b 57) || b == 95 || b == 45

-- The name of a state: 1 to 64 such bytes.
abbrev pub is_state_name : List ℕ → Bool
is_state_name name = nat_le 1 (length name) && nat_le (length name) 64 && list_all is_state_byte name

-- Two events that are chosen by the same calls: they agree in name and descriptor.
abbrev pub is_same_call : Event → Event → Bool
is_same_call e f = bytes_eq e.name f.name && bytes_eq e.descriptor f.descriptor

-- An event of an automaton with so many states, and this error state: a call of a method, which has a
-- next state for each state, and leads from the error state to itself.
pub record IsEvent (states error : ℕ) (e : Event) : Type 0 where
  pub name : IsTrue (is_method_name e.name)
  pub descriptor : IsMethodDescriptor e.descriptor
  pub total : length e.next ≡ states
  pub inside : All (λ q. q < states) e.next
  pub error_stays : slice_get e.next error ≡ Some error

-- The automaton of a property: a class, 2 to 32 different states, two different states among them that
-- are the initial and the error state, and 1 to 32 different events.
pub record IsAutomaton (a : Automaton) : Type 0 where
  pub class_name : IsClassName a.class_name
  pub two_states : 2 ≤ length a.states
  pub state_limit : length a.states ≤ 32
  pub state_names : All (λ s. IsTrue (is_state_name s)) a.states
  pub states_differ : IsTrue (all_differ bytes_eq a.states)
  pub initial : a.initial < length a.states
  pub error : a.error < length a.states
  pub starts_sound : a.initial ≢ a.error
  pub one_event : 1 ≤ length a.events
  pub event_limit : length a.events ≤ 32
  pub events : All (IsEvent (length a.states) a.error) a.events
  pub events_differ : IsTrue (all_differ is_same_call a.events)
