-- The whole of a property file: a table gives one automaton, which is that of a property.
use Rattle.std.proofs.Common.{codes, ◌≡◌, ℕ, List, subst}
use Rattle.std.proofs.lemmas.Option.{slice_get_within}
use Rattle.toml.specs.Data.{Members}
use Rattle.jvm_model.specs.declared.automaton.Automaton.{Automaton}
use Rattle.jvm_model.specs.Automata.{IsAutomaton}
use Rattle.toml_tables.proofs.OneDocument.{IsDocument-same}
use Rattle.toml_tables.proofs.Values.{text_same}
use Rattle.property_file.specs.Rules.{GivesInitial, GivesError, GivesEvents}
use Rattle.property_file.specs.PropertyFile.{GivesParts, IsPropertyFile}
use Rattle.property_file.proofs.Parts.{NamesState-unique, GivesStates-unique, GivesEvents-unique, GivesEvents-sound}

pub GivesParts-sound : (ms : Members) (a : Automaton) → GivesParts ms a → IsAutomaton a
GivesParts-sound ms a g = record {
  class_name = g.class_name.is_class_name;
  two_states = g.states.two_states;
  state_limit = g.states.state_limit;
  state_names = g.states.state_names;
  states_differ = g.states.states_differ;
  initial = slice_get_within a.states a.initial g.initial.name g.initial.stands;
  error = slice_get_within a.states a.error g.error.names.name g.error.names.stands;
  starts_sound = g.error.differs;
  one_event = g.events.one_event;
  event_limit = g.events.event_limit;
  events = GivesEvents-sound a.states a.error g.events.event_tables a.events g.events.each;
  events_differ = g.events.events_differ;
}

pub IsPropertyFile-sound : (bytes : List ℕ) (a : Automaton) → IsPropertyFile bytes a → IsAutomaton a
IsPropertyFile-sound bytes a p = GivesParts-sound p.members a p.gives.parts

pub GivesParts-unique : (ms : Members) (a b : Automaton) → GivesParts ms a → GivesParts ms b → a ≡ b
GivesParts-unique ms a b g h =
    let class_name : a.class_name ≡ b.class_name = text_same _ a.class_name b.class_name g.class_name.value h.class_name.value in
    let states : a.states ≡ b.states = GivesStates-unique ms a.states b.states g.states h.states in
    let differ = h.states.states_differ in
    let initial : a.initial ≡ b.initial = NamesState-unique b.states (codes "initial") ms a.initial b.initial differ
    (subst (λ (ss : List (List ℕ)). GivesInitial ss ms a.initial) states g.initial) h.initial in
    let names : GivesError b.states a.initial ms a.error = subst (λ (ss : List (List ℕ)). GivesError ss a.initial ms a.error) states g.error in
    let error : a.error ≡ b.error = NamesState-unique b.states (codes "error") ms a.error b.error differ names.names h.error.names in
    let here = subst (λ (ss : List (List ℕ)). GivesEvents ss a.error ms a.events) states g.events in
    let there = subst (λ (e : ℕ). GivesEvents b.states e ms a.events) error here in
    let events : a.events ≡ b.events = GivesEvents-unique b.states b.error ms a.events b.events differ there h.events in
    (λ i. record { class_name = class_name i; states = states i; initial = initial i; error = error i; events = events i })

pub IsPropertyFile-same : (bytes : List ℕ) (a b : Automaton) → IsPropertyFile bytes a → IsPropertyFile bytes b → a ≡ b
IsPropertyFile-same bytes a b p q =
    let members : p.members ≡ q.members = IsDocument-same bytes p.members q.members p.document q.document in
    GivesParts-unique q.members a b (subst (λ (ms : Members). GivesParts ms a) members p.gives.parts) q.gives.parts
