-- The values of a TOML document beside the texts, the places and the events that they spell.
use Rattle.std.proofs.Common.{◌≡◌, ℕ, List, [], ◌∷◌, Some, refl}
use Rattle.std.specs.List.{AllZip, slice_get}
use Rattle.toml.specs.declared.value.Value.{Value}
use Rattle.toml.specs.Data.{string, table, Members}
use Rattle.toml.specs.View.{view, items_view}
use Rattle.jvm_model.specs.declared.automaton.Event.{Event}
use Rattle.toml_tables.specs.Documents.{texts, tables}
use Rattle.property_file.specs.Rules.{GivesEvent}
use Rattle.property_file.specs.Reading.{IsText, IsStateText, IsEventTable}

-- an array of texts
pub texts-from_values : (vs : List Value) (ts : List (List ℕ)) → AllZip IsText vs ts → items_view vs ≡ texts ts
texts-from_values [] [] z = refl
texts-from_values [] (t ∷ ts) z = absurd z
texts-from_values (v ∷ vs) [] z = absurd z
texts-from_values (v ∷ vs) (t ∷ ts) z =
    let head : view v ≡ string t = z.0 in
    let tail : items_view vs ≡ texts ts = texts-from_values vs ts z.1 in
    rw (head, tail)

pub values_from_texts : (vs : List Value) (ts : List (List ℕ)) → items_view vs ≡ texts ts → AllZip IsText vs ts
values_from_texts [] [] e = tt
values_from_texts [] (t ∷ ts) e = cc
values_from_texts (v ∷ vs) [] e = cc
values_from_texts (v ∷ vs) (t ∷ ts) e = (cc, values_from_texts vs ts cc)

-- the state with this number has this name
abbrev pub Stands : List (List ℕ) → List ℕ → ℕ → Type 0
Stands states name number = slice_get states number ≡ Some name

-- an array of names of states
pub record NamesPlaces (states : List (List ℕ)) (vs : List Value) (numbers : List ℕ) : Type 0 where
  pub names : List (List ℕ)
  pub spelled : items_view vs ≡ texts names
  pub stand : AllZip (Stands states) names numbers

pub NamesPlaces-from_values : (states : List (List ℕ)) (vs : List Value) (ns : List ℕ) → AllZip (IsStateText states) vs ns → NamesPlaces states vs ns
NamesPlaces-from_values states [] [] z = record { names = []; spelled = refl; stand = tt }
NamesPlaces-from_values states [] (n ∷ ns) z = absurd z
NamesPlaces-from_values states (v ∷ vs) [] z = absurd z
NamesPlaces-from_values states (v ∷ vs) (n ∷ ns) z =
    let more = NamesPlaces-from_values states vs ns z.1 in
    let head : view v ≡ string z.0.name = z.0.text in
    let tail : items_view vs ≡ texts more.names = more.spelled in
    record { names = z.0.name ∷ more.names; spelled = rw (head, tail); stand = (z.0.stands, more.stand) }

pub values_from_names : (states : List (List ℕ)) (vs : List Value) (names : List (List ℕ)) (ns : List ℕ) → items_view vs ≡ texts names → AllZip (Stands states) names ns → AllZip (IsStateText states) vs ns
values_from_names states [] [] [] e z = tt
values_from_names states [] [] (n ∷ ns) e z = z
values_from_names states [] (m ∷ names) ns e z = cc
values_from_names states (v ∷ vs) [] ns e z = cc
values_from_names states (v ∷ vs) (m ∷ names) [] e z = z
values_from_names states (v ∷ vs) (m ∷ names) (n ∷ ns) e z =
    (record { name = m; text = cc; stands = z.0 }, values_from_names states vs names ns (cc) z.1)

-- an array of tables of events
pub record GivesTables (states : List (List ℕ)) (error : ℕ) (vs : List Value) (events : List Event) : Type 0 where
  pub event_tables : List Members
  pub spelled : items_view vs ≡ tables event_tables
  pub each : AllZip (GivesEvent states error) event_tables events

pub GivesTables-from_values : (states : List (List ℕ)) (error : ℕ) (vs : List Value) (es : List Event) → AllZip (IsEventTable states error) vs es → GivesTables states error vs es
GivesTables-from_values states error [] [] z = record { event_tables = []; spelled = refl; each = tt }
GivesTables-from_values states error [] (n ∷ ns) z = absurd z
GivesTables-from_values states error (v ∷ vs) [] z = absurd z
GivesTables-from_values states error (v ∷ vs) (n ∷ ns) z =
    let more = GivesTables-from_values states error vs ns z.1 in
    let head : view v ≡ table z.0.members = z.0.is_table in
    let tail : items_view vs ≡ tables more.event_tables = more.spelled in
    record { event_tables = z.0.members ∷ more.event_tables; spelled = rw (head, tail); each = (z.0.gives, more.each) }

pub values_from_tables : (states : List (List ℕ)) (error : ℕ) (vs : List Value) (ts : List Members) (es : List Event) → items_view vs ≡ tables ts → AllZip (GivesEvent states error) ts es → AllZip (IsEventTable states error) vs es
values_from_tables states error [] [] [] e z = tt
values_from_tables states error [] [] (n ∷ ns) e z = z
values_from_tables states error [] (t ∷ ts) ns e z = cc
values_from_tables states error (v ∷ vs) [] ns e z = cc
values_from_tables states error (v ∷ vs) (t ∷ ts) [] e z = z
values_from_tables states error (v ∷ vs) (t ∷ ts) (n ∷ ns) e z =
    (record { members = t; is_table = cc; gives = z.0 }, values_from_tables states error vs ts ns (cc) z.1)
