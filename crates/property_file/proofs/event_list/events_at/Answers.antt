use Rattle.std.proofs.Common.{◌≡◌, length, sym, ◌∙◌}
use Rattle.std.proofs.lemmas.Bool.{false≢true}
use Rattle.std.specs.List.{AllZip}
use Rattle.std.proofs.lemmas.Slice.Zip.{AllZip-long}
use Rattle.toml.specs.View.{table_view}
use Rattle.property_file.specs.Reading.{IsEventTable}
use Rattle.toml_tables.proofs.Finding.{Finds-none, Finds-some}
use Rattle.property_file.proofs.Parts.{GivesEvents-values, GivesEvents-made, events-unique}
use Rattle.property_file.proofs.event_list.events_at.Goals as goal

pub returns-then-not-is_event_count : goal.returns-then-not-is_event_count
returns-then-not-is_event_count c = λ events g.
    let states = c.args.states.now in
    let vs = c.in-Some.values.now in
    let same : length events ≡ length vs = AllZip-long (IsEventTable states c.args.error) vs events (GivesEvents-values states c.args.error (table_view c.args.table.now) vs events c.in-Some.ensures g) in
    false≢true (sym c.if-not-is_event_count.true ∙ c.is_event_count.ensures.1 (rw (← same) g.one_event, rw (← same) g.event_limit))

pub returns-in_default-2 : goal.returns-in_default-2
returns-in_default-2 c = λ events g.
    let vs = c.in-Some.values.now in
    Finds-none (AllZip (IsEventTable c.args.states.now c.args.error) vs) c.in_ok-events.field-0 c.in_default-2.is c.in_ok-events.ensures events
    (GivesEvents-values c.args.states.now c.args.error (table_view c.args.table.now) vs events c.in-Some.ensures g)

pub returns-then-calls_differ : goal.returns-then-calls_differ
returns-then-calls_differ c =
    let vs = c.in-Some.values.now in
    let events = c.in-Some-2.events in
    let read = Finds-some (AllZip (IsEventTable c.args.states.now c.args.error) vs) c.in_ok-events.field-0 events c.in-Some-2.is c.in_ok-events.ensures in
    let same : length events ≡ length vs = AllZip-long (IsEventTable c.args.states.now c.args.error) vs events read in
    let count = c.is_event_count.ensures.0 c.if-not-is_event_count.false in
    GivesEvents-made c.args.states.now c.args.error (table_view c.args.table.now) vs events c.in-Some.ensures read
    (rw same count.0) (rw same count.1) (rw (← c.as_slice.ensures) (sym c.calls_differ.ensures ∙ c.if-calls_differ.true))

pub returns-else-calls_differ : goal.returns-else-calls_differ
returns-else-calls_differ c = λ others g.
    let states = c.args.states.now in
    let vs = c.in-Some.values.now in
    let events = c.in-Some-2.events in
    let read = Finds-some (AllZip (IsEventTable states c.args.error) vs) c.in_ok-events.field-0 events c.in-Some-2.is c.in_ok-events.ensures in
    let same : others ≡ events = events-unique states c.args.error vs others events c.requires.differ (GivesEvents-values states c.args.error (table_view c.args.table.now) vs others c.in-Some.ensures g) read in
    let found : others ≡ c.as_slice.result.now = same ∙ sym c.as_slice.ensures in
    false≢true (sym c.if-calls_differ.false ∙ c.calls_differ.ensures ∙ rw (← found) g.events_differ)
