use Rattle.std.proofs.Common.{◌≡◌, length, sym, ◌∙◌}
use Rattle.std.proofs.lemmas.Bool.{false≢true}
use Rattle.std.specs.List.{AllZip}
use Rattle.std.proofs.lemmas.Slice.Zip.{AllZip-long}
use Rattle.list_laws.proofs.Zips.{zip_unique}
use Rattle.toml.specs.View.{table_view}
use Rattle.property_file.specs.Reading.{IsText}
use Rattle.toml_tables.proofs.Finding.{Finds-none, Finds-some}
use Rattle.property_file.proofs.Parts.{IsText-unique, GivesStates-values, states_value}
use Rattle.property_file.proofs.state_list.states_at.Goals as goal

pub returns-then-not-is_state_count : goal.returns-then-not-is_state_count
returns-then-not-is_state_count c = λ states g.
    let vs = c.in-Some.values.now in
    let same : length states ≡ length vs = AllZip-long IsText vs states (GivesStates-values (table_view c.args.table.now) vs states c.in-Some.ensures g) in
    false≢true (sym c.if-not-is_state_count.true ∙ c.is_state_count.ensures.1 (rw (← same) g.two_states, rw (← same) g.state_limit))

pub returns-in_default-2 : goal.returns-in_default-2
returns-in_default-2 c = λ states g.
    let vs = c.in-Some.values.now in
    Finds-none (AllZip IsText vs) c.in_ok-states.field-0 c.in_default-2.is c.in_ok-states.ensures states
    (GivesStates-values (table_view c.args.table.now) vs states c.in-Some.ensures g)

pub returns-then-are_states : goal.returns-then-are_states
returns-then-are_states c =
    let vs = c.in-Some.values.now in
    let states = c.in-Some-2.states in
    let read = Finds-some (AllZip IsText vs) c.in_ok-states.field-0 states c.in-Some-2.is c.in_ok-states.ensures in
    let same : length states ≡ length vs = AllZip-long IsText vs states read in
    let count = c.is_state_count.ensures.0 c.if-not-is_state_count.false in
    let tested = rw c.as_slice.ensures at c.are_states.ensures.0 c.if-are_states.true in
    record {
      value = states_value (table_view c.args.table.now) vs states c.in-Some.ensures read;
      two_states = rw same count.0;
      state_limit = rw same count.1;
      state_names = tested.0;
      states_differ = tested.1;
    }

pub returns-else-are_states : goal.returns-else-are_states
returns-else-are_states c = λ others g.
    let vs = c.in-Some.values.now in
    let states = c.in-Some-2.states in
    let read = Finds-some (AllZip IsText vs) c.in_ok-states.field-0 states c.in-Some-2.is c.in_ok-states.ensures in
    let same : others ≡ states = zip_unique IsText IsText-unique vs others states (GivesStates-values (table_view c.args.table.now) vs others c.in-Some.ensures g) read in
    let found : others ≡ c.as_slice.result.now = same ∙ sym c.as_slice.ensures in
    false≢true (sym c.if-are_states.false ∙ c.are_states.ensures.1
    (rw (← found) g.state_names, rw (← found) g.states_differ))
