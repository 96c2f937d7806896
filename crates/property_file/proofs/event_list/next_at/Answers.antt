use Rattle.std.proofs.Common.{◌≡◌, length, ◌∙◌, sym}
use Rattle.std.proofs.lemmas.Bool.{false≢true}
use Rattle.std.specs.List.{AllZip}
use Rattle.std.proofs.lemmas.Slice.Zip.{AllZip-long}
use Rattle.toml.specs.View.{table_view}
use Rattle.property_file.specs.Reading.{IsStateText}
use Rattle.toml_tables.proofs.Finding.{Finds-none, Finds-some}
use Rattle.property_file.proofs.Parts.{GivesNext-values, GivesNext-made, next-unique}
use Rattle.property_file.proofs.event_list.next_at.Goals as goal

pub returns-then-values-states : goal.returns-then-values-states
returns-then-values-states c = λ next g.
    let vs = c.in-Some.values.now in
    let read = GivesNext-values c.args.states.now c.args.error (table_view c.args.table.now) vs next c.in-Some.ensures g in
    c.if-values-states.true (sym (AllZip-long (IsStateText c.args.states.now) vs next read) ∙ g.total)

pub returns-in_default-2 : goal.returns-in_default-2
returns-in_default-2 c = λ next g.
    let vs = c.in-Some.values.now in
    Finds-none (AllZip (IsStateText c.args.states.now) vs) c.in_ok-next.field-0 c.in_default-2.is c.in_ok-next.ensures next
    (GivesNext-values c.args.states.now c.args.error (table_view c.args.table.now) vs next c.in-Some.ensures g)

pub returns-then-stays : goal.returns-then-stays
returns-then-stays c =
    let vs = c.in-Some.values.now in
    let next = c.in-Some-2.next in
    let read = Finds-some (AllZip (IsStateText c.args.states.now) vs) c.in_ok-next.field-0 next c.in-Some-2.is c.in_ok-next.ensures in
    let same : length next ≡ length vs = AllZip-long (IsStateText c.args.states.now) vs next read in
    GivesNext-made c.args.states.now c.args.error (table_view c.args.table.now) vs next c.in-Some.ensures read
    (same ∙ c.if-values-states.false) (rw c.as_slice.ensures at c.stays.ensures.0 c.if-stays.true)

pub returns-else-stays : goal.returns-else-stays
returns-else-stays c = λ others g.
    let states = c.args.states.now in
    let vs = c.in-Some.values.now in
    let next = c.in-Some-2.next in
    let read = Finds-some (AllZip (IsStateText states) vs) c.in_ok-next.field-0 next c.in-Some-2.is c.in_ok-next.ensures in
    let same : others ≡ next = next-unique states vs others next c.requires.differ (GivesNext-values states c.args.error (table_view c.args.table.now) vs others c.in-Some.ensures g) read in
    let found : others ≡ c.as_slice.result.now = same ∙ sym c.as_slice.ensures in
    false≢true (sym c.if-stays.false ∙ c.stays.ensures.1 (rw (← found) g.error_stays))
