-- The parts of a property file: each is one thing, and is what its values spell.
use Rattle.std.proofs.Common.{codes, ◌≡◌, ℕ, ◌<◌, ◌≤◌, List, [], ◌∷◌, length, Some, All, slice_get, sym, ap, ◌∙◌, subst, IsTrue}
use Rattle.std.specs.List.{AllZip}
use Rattle.std.specs.Str.{bytes_eq}
use Rattle.std.proofs.lemmas.List.Elements.{All-cons, All-nil}
use Rattle.std.proofs.lemmas.Option.{slice_get_within}
use Rattle.list_laws.proofs.Zips.{zip_unique}
use Rattle.toml.specs.declared.value.Value.{Value}
use Rattle.toml.specs.Data.{array, Members, get_member}
use Rattle.toml.specs.View.{view, items_view}
use Rattle.jvm_model.specs.declared.automaton.Event.{Event}
use Rattle.jvm_model.specs.Automata.{all_differ, is_same_call, IsEvent}
use Rattle.toml_tables.specs.Documents.{texts, tables}
use Rattle.toml_tables.proofs.Values.{array_same, members_same, tables-unique, text_same, texts-unique}
use Rattle.property_file.specs.Rules.{NamesState, GivesStates, GivesNext, GivesEvent, GivesEvents}
use Rattle.property_file.specs.Reading.{IsText, IsStateText, IsEventTable}
use Rattle.property_file.proofs.Lists.{place-unique}
use Rattle.property_file.proofs.Values.{Stands, texts-from_values, values_from_texts, NamesPlaces-from_values, values_from_names, GivesTables-from_values, values_from_tables}

-- states
pub GivesStates-values : (ms : Members) (vs : List Value) (states : List (List ℕ)) → get_member (codes "states") ms ≡ Some (array (items_view vs)) → GivesStates ms states → AllZip IsText vs states
GivesStates-values ms vs states at_key g =
    values_from_texts vs states (array_same _ (items_view vs) (texts states) at_key g.value)

pub states_value : (ms : Members) (vs : List Value) (states : List (List ℕ)) → get_member (codes "states") ms ≡ Some (array (items_view vs)) → AllZip IsText vs states → get_member (codes "states") ms ≡ Some (array (texts states))
states_value ms vs states at_key z = at_key ∙ ap (λ items. Some (array items)) (texts-from_values vs states z)

pub GivesStates-unique : (ms : Members) (states others : List (List ℕ)) → GivesStates ms states → GivesStates ms others → states ≡ others
GivesStates-unique ms states others g h =
    texts-unique states others (array_same _ (texts states) (texts others) g.value h.value)

pub IsText-unique : (value : Value) (text other : List ℕ) → IsText value text → IsText value other → text ≡ other
IsText-unique value text other e f = text_same (Some (view value)) text other (ap Some e) (ap Some f)

-- the number of a state
pub NamesState-unique : (states : List (List ℕ)) (key : List ℕ) (ms : Members) (i j : ℕ) → IsTrue (all_differ bytes_eq states) → NamesState states key ms i → NamesState states key ms j → i ≡ j
NamesState-unique states key ms i j differ p q =
    let same : p.name ≡ q.name = text_same _ p.name q.name p.value q.value in
    place-unique q.name states i j differ (p.stands ∙ ap Some same) q.stands

pub IsStateText-unique : (states : List (List ℕ)) → IsTrue (all_differ bytes_eq states) → (value : Value) (i j : ℕ) → IsStateText states value i → IsStateText states value j → i ≡ j
IsStateText-unique states differ value i j p q =
    let same : p.name ≡ q.name = IsText-unique value p.name q.name p.text q.text in
    place-unique q.name states i j differ (p.stands ∙ ap Some same) q.stands

-- next states
pub GivesNext-values : (states : List (List ℕ)) (error : ℕ) (ms : Members) (vs : List Value) (next : List ℕ) → get_member (codes "next") ms ≡ Some (array (items_view vs)) → GivesNext states error ms next → AllZip (IsStateText states) vs next
GivesNext-values states error ms vs next at_key g =
    values_from_names states vs g.names next (array_same _ (items_view vs) (texts g.names) at_key g.value) g.stand

pub GivesNext-made : (states : List (List ℕ)) (error : ℕ) (ms : Members) (vs : List Value) (next : List ℕ) → get_member (codes "next") ms ≡ Some (array (items_view vs)) → AllZip (IsStateText states) vs next → length next ≡ length states → slice_get next error ≡ Some error → GivesNext states error ms next
GivesNext-made states error ms vs next at_key z total stays =
    let places = NamesPlaces-from_values states vs next z in
    record {
      names = places.names;
      value = at_key ∙ ap (λ items. Some (array items)) places.spelled;
      stand = places.stand;
      total = total;
      error_stays = stays;
    }

pub next-unique : (states : List (List ℕ)) (vs : List Value) (next others : List ℕ) → IsTrue (all_differ bytes_eq states) → AllZip (IsStateText states) vs next → AllZip (IsStateText states) vs others → next ≡ others
next-unique states vs next others differ = zip_unique (IsStateText states) (IsStateText-unique states differ) vs next others

Stands-inside : (states names : List (List ℕ)) (next : List ℕ) → AllZip (Stands states) names next → All (λ q. q < length states) next
Stands-inside states [] [] z = All-nil (λ q. q < length states)
Stands-inside states [] (n ∷ ns) z = absurd z
Stands-inside states (m ∷ names) [] z = absurd z
Stands-inside states (m ∷ names) (n ∷ ns) z =
    All-cons (λ q. q < length states) n ns (slice_get_within states n m z.0) (Stands-inside states names ns z.1)

-- events
pub GivesEvent-sound : (states : List (List ℕ)) (error : ℕ) (ms : Members) (event : Event) → GivesEvent states error ms event → IsEvent (length states) error event
GivesEvent-sound states error ms event g = record {
  name = g.is_method_name;
  descriptor = g.is_method_descriptor;
  total = g.next.total;
  inside = Stands-inside states g.next.names event.next g.next.stand;
  error_stays = g.next.error_stays;
}

pub GivesEvents-sound : (states : List (List ℕ)) (error : ℕ) (tables : List Members) (events : List Event) → AllZip (GivesEvent states error) tables events → All (IsEvent (length states) error) events
GivesEvents-sound states error [] [] z = All-nil (IsEvent (length states) error)
GivesEvents-sound states error [] (e ∷ events) z = absurd z
GivesEvents-sound states error (t ∷ tables) [] z = absurd z
GivesEvents-sound states error (t ∷ tables) (e ∷ events) z =
    All-cons (IsEvent (length states) error) e events (GivesEvent-sound states error t e z.0) (GivesEvents-sound states error tables events z.1)

abbrev made : List ℕ → List ℕ → List ℕ → Event
made name descriptor next = record { name = name; descriptor = descriptor; next = next }

event_same : (e f : Event) → e.name ≡ f.name → e.descriptor ≡ f.descriptor → e.next ≡ f.next → e ≡ f
event_same e f a b c =
    ap (λ n. made n e.descriptor e.next) a ∙ ap (λ d. made f.name d e.next) b ∙ ap (λ q. made f.name f.descriptor q) c

pub GivesEvent-unique : (states : List (List ℕ)) (error : ℕ) (ms : Members) (e f : Event) → IsTrue (all_differ bytes_eq states) → GivesEvent states error ms e → GivesEvent states error ms f → e ≡ f
GivesEvent-unique states error ms e f differ g h =
    let names : g.next.names ≡ h.next.names = texts-unique _ _ (array_same _ (texts g.next.names) (texts h.next.names) g.next.value h.next.value) in
    event_same e f
    (text_same _ e.name f.name g.name h.name)
    (text_same _ e.descriptor f.descriptor g.descriptor h.descriptor)
    (zip_unique (Stands states) (λ name i j. place-unique name states i j differ) h.next.names e.next f.next
    (subst (λ ns. AllZip (Stands states) ns e.next) names g.next.stand) h.next.stand)

pub IsEventTable-unique : (states : List (List ℕ)) (error : ℕ) → IsTrue (all_differ bytes_eq states) → (value : Value) (e f : Event) → IsEventTable states error value e → IsEventTable states error value f → e ≡ f
IsEventTable-unique states error differ value e f p q =
    let same : p.members ≡ q.members = members_same p.members q.members (sym p.is_table ∙ q.is_table) in
    GivesEvent-unique states error q.members e f differ (subst (λ ms. GivesEvent states error ms e) same p.gives) q.gives

pub GivesEvents-values : (states : List (List ℕ)) (error : ℕ) (ms : Members) (vs : List Value) (events : List Event) → get_member (codes "event") ms ≡ Some (array (items_view vs)) → GivesEvents states error ms events → AllZip (IsEventTable states error) vs events
GivesEvents-values states error ms vs events at_key g =
    values_from_tables states error vs g.event_tables events (array_same _ (items_view vs) (tables g.event_tables) at_key g.value) g.each

pub GivesEvents-made : (states : List (List ℕ)) (error : ℕ) (ms : Members) (vs : List Value) (events : List Event) → get_member (codes "event") ms ≡ Some (array (items_view vs)) → AllZip (IsEventTable states error) vs events
    → 1 ≤ length events → length events ≤ 32 → IsTrue (all_differ is_same_call events) → GivesEvents states error ms events
GivesEvents-made states error ms vs events at_key z one limit differ =
    let given = GivesTables-from_values states error vs events z in
    record {
      event_tables = given.event_tables;
      value = at_key ∙ ap (λ items. Some (array items)) given.spelled;
      each = given.each;
      one_event = one;
      event_limit = limit;
      events_differ = differ;
    }

pub GivesEvents-unique : (states : List (List ℕ)) (error : ℕ) (ms : Members) (events others : List Event) → IsTrue (all_differ bytes_eq states) → GivesEvents states error ms events → GivesEvents states error ms others → events ≡ others
GivesEvents-unique states error ms events others differ g h =
    let at_key : g.event_tables ≡ h.event_tables = tables-unique _ _ (array_same _ (tables g.event_tables) (tables h.event_tables) g.value h.value) in
    let here = subst (λ (ts : List Members). AllZip (GivesEvent states error) ts events) at_key g.each in
    zip_unique (GivesEvent states error) (λ ms e f. GivesEvent-unique states error ms e f differ) h.event_tables events others here h.each

pub events-unique : (states : List (List ℕ)) (error : ℕ) (vs : List Value) (events others : List Event) → IsTrue (all_differ bytes_eq states) → AllZip (IsEventTable states error) vs events → AllZip (IsEventTable states error) vs others → events ≡ others
events-unique states error vs events others differ = zip_unique (IsEventTable states error) (IsEventTable-unique states error differ) vs events others
