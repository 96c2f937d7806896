-- The return of a reference; and a gate that is closed twice.
use Rattle.std.proofs.Common.{codes, inl, true, List, [], ◌∷◌, Some, None, refl}
use Rattle.jvm_model.specs.Resolution.ResolvesFrom.{itself as resolved_there}
use Rattle.op_model.specs.Supplies.{Given}
use Rattle.machine_bytecode.specs.Machine.{MethodCode, NamesField, NamesMethod, enters, returns}
use Rattle.machine_bytecode.specs.States.{primitive_value, reference_to, Frame, World, State}
use Rattle.example_machine.specs.Calling.{runs as runs_calls, closes, closes_by_interface, calls_same}
use Rattle.example_machine.specs.Taking.{Shows, InState}
use Rattle.example_machine.proofs.Facts.{call_row, declared_field, field_row, in_state, shows}
use Rattle.example_machine.proofs.Runs.{built, first_world, on, advance}
use Rattle.example_machine.proofs.CallSteps.{enter as enter_code, give_back as give_back_code, waiting_at, not_selecting}
use Rattle.example_machine.proofs.CallStart.{outside, main_of, door_close_of, gate_close_of, world, main_at, plain_units, door_units, door_type, names_gate, names_close, is_door, names_interface_close, same_of, int_to_int_units}
use Rattle.example_machine.proofs.Searches.{chain_up}
use Rattle.example_machine.proofs.CallRuns.{gate_world, main_waits, close_selected, close_happens, in_gate_close, closed_world, close_by_interface, close_observed, enters_gate, enters_door, enters_same}
use Rattle.machine_nodes.specs.NodeSteps.{enters as enters_node, returns as returns_node}
use Rattle.example_nodes.specs.Calling.{given_with, Steps, returns_only, gate_close_nodes, closes_nodes, closes_by_interface_nodes, calls_same_nodes, same_nodes}
use Rattle.example_nodes.specs.Giving.{main_pool, main_class, finds, find_gate, finding, runs, finds_nodes, find_gate_nodes, given}
use Rattle.example_nodes.specs.Taking.{TakesNode, EnteringNode, ReturningNode}
use Rattle.example_nodes.proofs.CallRuns.{begun}
use Rattle.example_nodes.proofs.CallSteps.{enter, give_back}
use Rattle.example_nodes.proofs.Slots.{are_left_by}
use Rattle.example_nodes.proofs.Steps.{Arrives, goes, takes, starts_at, enters_at, operate, plainly, advanced, stands_on}

-- ---- a reference is given back

abbrev finds_of : MethodCode finding 4
finds_of = built finding 4 _ main_class 0 9 6 7 finds refl refl refl refl

abbrev find_of : MethodCode finding 5
find_of = built finding 5 _ main_class 1 9 8 9 find_gate refl refl refl refl

abbrev pub gate_named : NamesField finding main_pool 17 true
gate_named = declared_field _ _ _ _ 0 _ _ refl refl refl refl refl

abbrev pub find_named : NamesMethod finding main_pool 11
find_named = record {
  called = _;
  named = refl;
  resolved = 5;
  resolves = record {
    class = _;
    named = refl;
    search = resolved_there (record { chain = chain_up finding 3 (Some (codes "Main")); of_start = (refl, (refl, tt)); first = inl (record { method = _; stands = refl; of_class = refl; is = refl }) });
  };
  method = _;
  stands = refl;
}

abbrev finding_world : World
finding_world = first_world runs []

abbrev finder_waits : List Frame
finder_waits = waiting_at 4 0 [] ∷ outside

in_find : Arrives runs given (on runs 5 find_of finder_waits 0 [] finding_world)
in_find =
    let step = enter_code runs 4 finds_of outside 0 [] finding_world _ refl _ (call_row _ _ _ _ _ _ refl door_units) _
    (record { is_there = refl; names = find_named; target = 5; is_target = (refl, refl); events = not_selecting _ _ _ _ _ refl }) find_of in
    let node_step = enter runs given 4 finds_nodes refl outside 0 [] finding_world _ refl finding_world
    (record { call = _; is_call = refl; resolved = _; stands = refl; target = 5; is_target = refl; events = not_selecting _ _ _ _ _ refl }) find_gate_nodes refl [] refl [] refl in
    goes _ _ _ _ (enters_at runs given finds_of finds_nodes refl refl finding_world (starts_at runs given finds_of [] refl)) (enters step.at step.step) (enters_node node_step.at node_step.step)

pub a_reference_is_given_back : TakesNode runs given (λ s t. ReturningNode runs given s t × Shows 3 (reference_to 2 ∷ []) t)
a_reference_is_given_back =
    let read = advanced _ _ _ _ _ _ in_find
    (advance runs 5 find_of finder_waits 0 [] finding_world _ refl _ (field_row _ _ _ _ _ refl door_type) refl (reference_to 2) _ _ (gate_named, (refl, refl)) refl)
    (operate runs given 5 find_of find_gate_nodes refl finder_waits 0 [] finding_world _ refl _ _ _ (record { value = reference_to 2; is_read = refl; are_left = are_left_by _ _ _ _ _ refl; same = refl }) refl) in
    let step = give_back_code runs 5 find_of 4 finds_of outside 3 (reference_to 2 ∷ []) finding_world _ refl _
    refl refl refl _ door_units 0 [] _ refl _ (call_row _ _ _ _ _ _ refl door_units) in
    let node_step = give_back runs given 5 find_gate_nodes refl (waiting_at 4 0 []) outside 3 (reference_to 2 ∷ []) finding_world _ refl (Some 0) refl refl
    (stands_on runs given 4 finds_nodes refl 0 [] true _ refl) _ refl (reference_to 2 ∷ []) refl 3 refl in
    takes _ _ _ _ _ read (returns step.at step.step) (returns_node node_step.at node_step.step) (node_step, shows _ _ _)

-- ---- a gate is closed twice

abbrev given_closes : Given
given_closes = given_with closes_nodes

at_close : Arrives (runs_calls closes) given_closes (main_at closes refl 3 (reference_to 2 ∷ []) (gate_world 0))
at_close =
    advanced _ _ _ _ _ _ (begun closes refl closes_nodes refl refl)
    (advance (runs_calls closes) 4 (main_of closes refl) outside 0 [] (gate_world 0) _ refl _
    (field_row _ _ _ _ _ refl door_type) refl (reference_to 2) _ _ (names_gate closes, (refl, refl)) refl)
    (operate (runs_calls closes) given_closes 4 (main_of closes refl) closes_nodes refl outside 0 [] (gate_world 0) _ refl _ _ _
    (record { value = reference_to 2; is_read = refl; are_left = are_left_by _ _ _ _ _ refl; same = refl }) refl)

in_close : Arrives (runs_calls closes) given_closes (in_gate_close 3 0 (reference_to 2 ∷ []) (gate_world 1))
in_close =
    let node_step = enter (runs_calls closes) given_closes 4 closes_nodes refl outside 3 (reference_to 2 ∷ []) (gate_world 0) _ refl (gate_world 1)
    (record { call = _; is_call = refl; resolved = _; stands = refl; target = 3; is_target = close_selected 0; events = close_happens 0 }) gate_close_nodes refl [] refl (reference_to 2 ∷ []) refl in
    goes _ _ _ _ at_close (enters enters_gate.at enters_gate.step) (enters_node node_step.at node_step.step)

abbrev in_door_close : World → State
in_door_close w = on (runs_calls closes) 2 (door_close_of closes) (waiting_at 3 1 (reference_to 2 ∷ []) ∷ main_waits 3) 0 (reference_to 2 ∷ []) w

-- a method of the superclass
in_super : Arrives (runs_calls closes) given_closes (in_door_close (gate_world 1))
in_super =
    let x = runs_calls closes in
    let loaded = plainly x given_closes 3 (gate_close_of closes) gate_close_nodes refl (main_waits 3) 1 0 (reference_to 2 ∷ []) (gate_world 1) _ refl in_close in
    let node_step = enter x given_closes 3 gate_close_nodes refl (main_waits 3) 1 (reference_to 2 ∷ reference_to 2 ∷ []) (gate_world 1) _ refl (gate_world 1)
    (record { call = _; is_call = refl; resolved = _; stands = refl; target = 2; is_target = (is_door closes (gate_world 1) 1 refl, refl); events = not_selecting _ _ _ _ _ refl }) (returns_only 2) refl (reference_to 2 ∷ []) refl (reference_to 2 ∷ []) refl in
    goes _ _ _ _ loaded (enters enters_door.at enters_door.step) (enters_node node_step.at node_step.step)

-- back in main, which closes the gate again
at_second : Arrives (runs_calls closes) given_closes (main_at closes refl 9 (reference_to 2 ∷ []) (gate_world 1))
at_second =
    let x = runs_calls closes in
    let first = give_back_code x 2 (door_close_of closes) 3 (gate_close_of closes) (main_waits 3) 0 (reference_to 2 ∷ []) (gate_world 1) _ refl _
    refl refl refl _ plain_units 1 (reference_to 2 ∷ []) _ refl _ (call_row _ _ _ _ _ _ refl plain_units) in
    let first_node = give_back x given_closes 2 (returns_only 2) refl (waiting_at 3 1 (reference_to 2 ∷ [])) (main_waits 3) 0 (reference_to 2 ∷ []) (gate_world 1) _ refl None refl refl
    (stands_on x given_closes 3 gate_close_nodes refl 1 (reference_to 2 ∷ []) true _ refl) _ refl (reference_to 2 ∷ []) refl 4 refl in
    let second = give_back_code x 3 (gate_close_of closes) 4 (main_of closes refl) outside 4 (reference_to 2 ∷ []) (gate_world 1) _ refl _
    refl refl refl _ plain_units 3 [] _ refl _ (call_row _ _ _ _ _ _ refl plain_units) in
    let second_node = give_back x given_closes 3 gate_close_nodes refl (waiting_at 4 3 []) outside 4 (reference_to 2 ∷ []) (gate_world 1) _ refl None refl refl
    (stands_on x given_closes 4 closes_nodes refl 3 [] true _ refl) _ refl [] refl 6 refl in
    advanced _ _ _ _ _ _ (goes _ _ _ _ (goes _ _ _ _ in_super (returns first.at first.step) (returns_node first_node.at first_node.step)) (returns second.at second.step) (returns_node second_node.at second_node.step))
    (advance x 4 (main_of closes refl) outside 6 [] (gate_world 1) _ refl _
    (field_row _ _ _ _ _ refl door_type) refl (reference_to 2) _ _ (names_gate closes, (refl, refl)) refl)
    (operate x given_closes 4 (main_of closes refl) closes_nodes refl outside 6 [] (gate_world 1) _ refl _ _ _
    (record { value = reference_to 2; is_read = refl; are_left = are_left_by _ _ _ _ _ refl; same = refl }) refl)

pub an_event_leads_to_the_error : Steps closes closes_nodes (λ s t. EnteringNode (runs_calls closes) (given_with closes_nodes) 3 s t × InState 2 1 s × InState 2 (runs_calls closes).property.error t)
an_event_leads_to_the_error =
    let step = enter_code (runs_calls closes) 4 (main_of closes refl) outside 9 (reference_to 2 ∷ []) (gate_world 1) _ refl _ (call_row _ _ _ _ _ _ refl plain_units) _
    (record { is_there = refl; names = names_close closes; target = 3; is_target = close_selected 1; events = close_happens 1 }) (gate_close_of closes) in
    let node_step = enter (runs_calls closes) given_closes 4 closes_nodes refl outside 9 (reference_to 2 ∷ []) (gate_world 1) _ refl (gate_world 2)
    (record { call = _; is_call = refl; resolved = _; stands = refl; target = 3; is_target = close_selected 1; events = close_happens 1 }) gate_close_nodes refl [] refl (reference_to 2 ∷ []) refl in
    takes _ _ _ _ _ at_second (enters step.at step.step) (enters_node node_step.at node_step.step) (node_step, in_state _ _ _ refl, in_state _ _ _ refl)

-- ---- a method of an interface

pub an_interface_method_is_called : Steps closes_by_interface closes_by_interface_nodes (λ s t. EnteringNode (runs_calls closes_by_interface) (given_with closes_by_interface_nodes) 3 s t × InState 2 1 t)
an_interface_method_is_called =
    let x = runs_calls closes_by_interface in
    let given = given_with closes_by_interface_nodes in
    let c = main_of closes_by_interface refl in
    let w = world closes_by_interface refl in
    let first = advanced _ _ _ _ _ _ (begun closes_by_interface refl closes_by_interface_nodes refl refl)
    (advance x 4 c outside 0 [] w _ refl _ (field_row _ _ _ _ _ refl door_type) refl (reference_to 2) _ _ (names_gate closes_by_interface, (refl, refl)) refl)
    (operate x given 4 c closes_by_interface_nodes refl outside 0 [] w _ refl _ _ _ (record { value = reference_to 2; is_read = refl; are_left = are_left_by _ _ _ _ _ refl; same = refl }) refl) in
    let step = enter_code x 4 c outside 3 (reference_to 2 ∷ []) w _ refl _ (call_row _ _ _ _ _ _ refl plain_units) _
    (record { is_there = refl; names = names_interface_close closes_by_interface; target = 3; is_target = close_by_interface; events = close_observed }) (gate_close_of closes_by_interface) in
    let node_step = enter x given 4 closes_by_interface_nodes refl outside 3 (reference_to 2 ∷ []) w _ refl closed_world
    (record { call = _; is_call = refl; resolved = _; stands = refl; target = 3; is_target = close_by_interface; events = close_observed }) gate_close_nodes refl [] refl (reference_to 2 ∷ []) refl in
    takes _ _ _ _ _ first (enters step.at step.step) (enters_node node_step.at node_step.step) (node_step, in_state _ _ _ refl)

-- ---- a static method, which returns a primitive

pub a_number_is_given_back : Steps calls_same calls_same_nodes (λ s t. ReturningNode (runs_calls calls_same) (given_with calls_same_nodes) s t × Shows 4 (primitive_value ∷ []) t)
a_number_is_given_back =
    let x = runs_calls calls_same in
    let given = given_with calls_same_nodes in
    let c = main_of calls_same refl in
    let w = world calls_same refl in
    let pushed = plainly x given 4 c calls_same_nodes refl outside 1 0 [] w _ refl (begun calls_same refl calls_same_nodes refl refl) in
    let called_node = enter x given 4 calls_same_nodes refl outside 1 (primitive_value ∷ []) w _ refl w
    (record { call = _; is_call = refl; resolved = _; stands = refl; target = 5; is_target = refl; events = not_selecting _ _ _ _ _ refl }) same_nodes refl [] refl (primitive_value ∷ []) refl in
    let loaded = plainly x given 5 (same_of calls_same) same_nodes refl (waiting_at 4 1 [] ∷ outside) 1 0 (primitive_value ∷ []) w _ refl (goes _ _ _ _ pushed (enters enters_same.at enters_same.step) (enters_node called_node.at called_node.step)) in
    let step = give_back_code x 5 (same_of calls_same) 4 c outside 1 (primitive_value ∷ primitive_value ∷ []) w _ refl _
    refl refl refl _ int_to_int_units 1 [] _ refl _ (call_row _ _ _ _ _ _ refl int_to_int_units) in
    let node_step = give_back x given 5 same_nodes refl (waiting_at 4 1 []) outside 1 (primitive_value ∷ primitive_value ∷ []) w _ refl None refl refl
    (stands_on x given 4 calls_same_nodes refl 1 [] true _ refl) _ refl (primitive_value ∷ []) refl 4 refl in
    takes _ _ _ _ _ loaded (returns step.at step.step) (returns_node node_step.at node_step.step) (node_step, shows _ _ _)
