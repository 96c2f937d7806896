use Rattle.std.proofs.Common.{codes, refl}
use Rattle.std.proofs.lemmas.Result.{err_from_is_err_and}
use Rattle.toml.specs.View.{table_view}
use Rattle.property_file.specs.Rules.{GivesClass, GivesStates, GivesInitial, GivesError, GivesEvents}
use Rattle.property_file.specs.Refusals.{states, initial, error, event, other}
use Rattle.toml_tables.proofs.Finding.{Finds-none, Finds-some}
use Rattle.property_file.proofs.Broken.{named}
use Rattle.property_file.proofs.reading.automaton_in.Goals as goal

pub returns-in_err-states-clause-refused : goal.returns-in_err-states-clause-refused
returns-in_err-states-clause-refused c =
    let ms = table_view c.args.table.now in
    let p = err_from_is_err_and c.from_residual-in_err-states.result c.from_residual-in_err-states.ensures.1 in
    let version = c.has_version.ensures.0 c.if-not-has_version.false in
    let class = Finds-some (GivesClass ms) c.in_ok-class_name_at.field-0 c.in_ok-class_name.class_name c.in_ok-class_name.ensures.found c.in_ok-class_name_at.ensures in
    let none = Finds-none (GivesStates ms) c.in_ok-states_at.field-0 c.in_err-states.ensures.none.0 c.in_ok-states_at.ensures in
    rw (p.1, p.2) (named ms (codes "states") c.in_err-states.field-0.0 c.in_err-states.ensures.none.1
    (states c.in_ok-class_name.class_name version class none refl))

pub returns-in_err-initial-clause-refused : goal.returns-in_err-initial-clause-refused
returns-in_err-initial-clause-refused c =
    let ms = table_view c.args.table.now in
    let version = c.has_version.ensures.0 c.if-not-has_version.false in
    let class = Finds-some (GivesClass ms) c.in_ok-class_name_at.field-0 c.in_ok-class_name.class_name c.in_ok-class_name.ensures.found c.in_ok-class_name_at.ensures in
    let read = Finds-some (GivesStates ms) c.in_ok-states_at.field-0 c.in_ok-states.states c.in_ok-states.ensures.found c.in_ok-states_at.ensures in
    let names = c.as_slice-names.result.now in
    let given : GivesStates ms names = rw c.as_slice-names.ensures read in
    let p = err_from_is_err_and c.from_residual-in_err-initial.result c.from_residual-in_err-initial.ensures.1 in
    let none = Finds-none (GivesInitial names ms) c.state_at.result c.in_err-initial.ensures.none.0 c.state_at.ensures in
    rw (p.1, p.2) (named ms (codes "initial") c.in_err-initial.field-0.0 c.in_err-initial.ensures.none.1
    (initial c.in_ok-class_name.class_name names version class given none refl))

pub returns-in_err-error-clause-refused : goal.returns-in_err-error-clause-refused
returns-in_err-error-clause-refused c =
    let ms = table_view c.args.table.now in
    let version = c.has_version.ensures.0 c.if-not-has_version.false in
    let class = Finds-some (GivesClass ms) c.in_ok-class_name_at.field-0 c.in_ok-class_name.class_name c.in_ok-class_name.ensures.found c.in_ok-class_name_at.ensures in
    let read = Finds-some (GivesStates ms) c.in_ok-states_at.field-0 c.in_ok-states.states c.in_ok-states.ensures.found c.in_ok-states_at.ensures in
    let names = c.as_slice-names.result.now in
    let given : GivesStates ms names = rw c.as_slice-names.ensures read in
    let starts = Finds-some (GivesInitial names ms) c.state_at.result c.in_ok-initial.initial c.in_ok-initial.ensures.found c.state_at.ensures in
    let p = err_from_is_err_and c.from_residual-in_err-error.result c.from_residual-in_err-error.ensures.1 in
    let none = Finds-none (GivesError names c.in_ok-initial.initial ms) c.error_at.result c.in_err-error.ensures.none.0 c.error_at.ensures in
    rw (p.1, p.2) (named ms (codes "error") c.in_err-error.field-0.0 c.in_err-error.ensures.none.1
    (error c.in_ok-class_name.class_name names c.in_ok-initial.initial version class given starts none refl))

pub returns-in_err-events-clause-refused : goal.returns-in_err-events-clause-refused
returns-in_err-events-clause-refused c =
    let ms = table_view c.args.table.now in
    let version = c.has_version.ensures.0 c.if-not-has_version.false in
    let class = Finds-some (GivesClass ms) c.in_ok-class_name_at.field-0 c.in_ok-class_name.class_name c.in_ok-class_name.ensures.found c.in_ok-class_name_at.ensures in
    let read = Finds-some (GivesStates ms) c.in_ok-states_at.field-0 c.in_ok-states.states c.in_ok-states.ensures.found c.in_ok-states_at.ensures in
    let names = c.as_slice-names.result.now in
    let given : GivesStates ms names = rw c.as_slice-names.ensures read in
    let starts = Finds-some (GivesInitial names ms) c.state_at.result c.in_ok-initial.initial c.in_ok-initial.ensures.found c.state_at.ensures in
    let ends = Finds-some (GivesError names c.in_ok-initial.initial ms) c.error_at.result c.in_ok-error.error c.in_ok-error.ensures.found c.error_at.ensures in
    let p = err_from_is_err_and c.from_residual-in_err-events.result c.from_residual-in_err-events.ensures.1 in
    let none = Finds-none (GivesEvents names c.in_ok-error.error ms) c.in_ok-events_at.field-0 c.in_err-events.ensures.none.0 c.in_ok-events_at.ensures in
    rw (p.1, p.2) (named ms (codes "event") c.in_err-events.field-0.0 c.in_err-events.ensures.none.1
    (event c.in_ok-class_name.class_name names c.in_ok-initial.initial c.in_ok-error.error version class given starts ends none refl))

pub returns-in-Some-clause-refused : goal.returns-in-Some-clause-refused
returns-in-Some-clause-refused c =
    let ms = table_view c.args.table.now in
    let version = c.has_version.ensures.0 c.if-not-has_version.false in
    let class = Finds-some (GivesClass ms) c.in_ok-class_name_at.field-0 c.in_ok-class_name.class_name c.in_ok-class_name.ensures.found c.in_ok-class_name_at.ensures in
    let read = Finds-some (GivesStates ms) c.in_ok-states_at.field-0 c.in_ok-states.states c.in_ok-states.ensures.found c.in_ok-states_at.ensures in
    let names = c.as_slice-names.result.now in
    let given : GivesStates ms names = rw c.as_slice-names.ensures read in
    let starts = Finds-some (GivesInitial names ms) c.state_at.result c.in_ok-initial.initial c.in_ok-initial.ensures.found c.state_at.ensures in
    let ends = Finds-some (GivesError names c.in_ok-initial.initial ms) c.error_at.result c.in_ok-error.error c.in_ok-error.ensures.found c.error_at.ensures in
    let events = Finds-some (GivesEvents names c.in_ok-error.error ms) c.in_ok-events_at.field-0 c.in_ok-events.events c.in_ok-events.ensures.found c.in_ok-events_at.ensures in
    named ms c.in-Some.key.now c.refusal_of-in-Some.result c.refusal_of-in-Some.ensures
    (other record { class_name = c.in_ok-class_name.class_name; states = names; initial = c.in_ok-initial.initial; error = c.in_ok-error.error; events = c.in_ok-events.events }
    record { version = version; class_name = class; states = given; initial = starts; error = ends; events = events } c.in-Some.ensures)
