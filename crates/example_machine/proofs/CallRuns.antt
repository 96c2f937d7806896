-- The steps of calls.
use Rattle.std.proofs.Common.{codes, true, false, ◌≡◌, inl, inr, ℕ, List, [], ◌∷◌, Some, refl}
use Rattle.std.specs.Prelude.{slice_index}
use Rattle.jvm_model.specs.Instructions.{instruction, with_units}
use Rattle.jvm_model.specs.Lookups.{Signature}
use Rattle.jvm_model.specs.Programs.{object_name}
use Rattle.jvm_model.specs.Resolution.{IsInstanceWith, IsOnlyDefault}
use Rattle.jvm_model.specs.Selection.{Selects, upward, by_default}
use Rattle.jvm_model.specs.Soundness.{plain_descriptor}
use Rattle.jvm_model.specs.Table.{Row, row, reference, pool_2, class_method, onward, invoke_virtual, null_pointer}
use Rattle.machine_bytecode.specs.Events.{HasEvents, moved}
use Rattle.jvm_model.specs.Resolution.ResolvesFrom.{itself as resolved_there}
use Rattle.machine_bytecode.specs.Machine.{NamesMethod, SelectsByObject, advances, enters, returns}
use Rattle.machine_bytecode.specs.States.{Value, primitive_value, reference_to, Frame, World, State, with_automaton}
use Rattle.example_machine.specs.Calling.{main_pool, program_with, runs, calls_same, closes, closes_by_interface, shuts}
use Rattle.example_machine.specs.Taking.{Takes, Shows, InState, Entering, Returning}
use Rattle.example_machine.proofs.Facts.{call_row, field_row, in_state, shows}
use Rattle.example_machine.proofs.Runs.{Arrives, goes, takes, on, advance, plainly}
use Rattle.example_machine.proofs.CallSteps.{Found, enter, give_back, waiting_at, not_selecting, not_named}
use Rattle.example_machine.proofs.Searches.{chain_up, differ, none_found, only_default}
use Rattle.example_machine.proofs.CallStart.{outside, main_of, same_of, shut_of, door_close_of, gate_close_of, world, main_at, begun, int_to_int_units, plain_units, door_type, names_gate, names_close, names_super, super_selected, names_interface_close, names_shut, gate_in, gate_below_door, gate_below_closing, is_door, is_closing}

-- ---- a static method

abbrev pub names_same : NamesMethod (program_with calls_same) main_pool 11
names_same = record {
  called = _;
  named = refl;
  resolved = 5;
  resolves = record {
    class = _;
    named = refl;
    search = resolved_there (record { chain = chain_up (program_with calls_same) 3 (Some (codes "Main")); of_start = (refl, (refl, tt)); first = inl (record { method = _; stands = refl; of_class = refl; is = refl }) });
  };
  method = _;
  stands = refl;
}

at_same : Arrives (runs calls_same) (main_at calls_same refl 1 (primitive_value ∷ []) (world calls_same refl))
at_same = plainly (runs calls_same) 4 (main_of calls_same refl) outside 1 0 [] _ _ refl (begun calls_same refl)

pub enters_same : Entering (runs calls_same) (codes "invokestatic") (codes "Main") (codes "same") (main_at calls_same refl 1 (primitive_value ∷ []) (world calls_same refl))
    (on (runs calls_same) 5 (same_of calls_same) (waiting_at 4 1 [] ∷ outside) 0 (primitive_value ∷ []) (world calls_same refl))
enters_same =
    enter (runs calls_same) 4 (main_of calls_same refl) outside 1 (primitive_value ∷ []) (world calls_same refl) _ refl _
    (call_row _ _ _ _ _ _ refl int_to_int_units) _
    (record { is_there = refl; names = names_same; target = 5; is_target = (refl, refl); events = not_selecting _ _ _ _ _ refl }) (same_of calls_same)

pub a_static_method_is_called : Takes (runs calls_same) (λ s t. Entering (runs calls_same) (codes "invokestatic") (codes "Main") (codes "same") s t × Shows 0 (primitive_value ∷ []) t)
a_static_method_is_called =
    takes _ _ _ _ at_same (enters enters_same.at enters_same.step) (enters_same, shows _ _ _)

pub a_method_returns_a_result : Takes (runs calls_same) (λ s t. Returning (runs calls_same) (codes "ireturn") s t × Shows 4 (primitive_value ∷ []) t)
a_method_returns_a_result =
    let x = runs calls_same in
    let w = world calls_same refl in
    let loaded = plainly x 5 (same_of calls_same) (waiting_at 4 1 [] ∷ outside) 1 0 (primitive_value ∷ []) w _ refl (goes _ _ _ at_same (enters enters_same.at enters_same.step)) in
    let step = give_back x 5 (same_of calls_same) 4 (main_of calls_same refl) outside 1 (primitive_value ∷ primitive_value ∷ []) w _ refl _
    refl refl refl _ int_to_int_units 1 [] _ refl _
    (call_row _ _ _ _ _ _ refl int_to_int_units) in
    takes _ _ _ _ loaded (returns step.at step.step) (step, shows _ _ _)

-- ---- an override, and events

abbrev virtual_row : Row
virtual_row = row (codes "invokevirtual") (pool_2 class_method) [] [] [] onward invoke_virtual (null_pointer ∷ [])

-- the world with the gate in a state
abbrev pub gate_world : ℕ → World
gate_world state = with_automaton (world closes refl) 2 (gate_in closes 0) state

abbrev pub main_waits : ℕ → List Frame
main_waits offset = waiting_at 4 offset [] ∷ outside

-- close of the gate is selected, and is an event of the gate in a state
pub close_selected : (state : ℕ) → SelectsByObject (program_with closes) false (names_close closes).method 2 (gate_world state) (reference_to 2 ∷ []) 3
close_selected state = record {
  instance = refl;
  receiver = is_door closes (gate_world state) state refl;
  selects = record {
    method = _;
    stands = refl;
    chosen = upward (record { chain = chain_up (program_with closes) 4 (Some (codes "Gate")); of_start = (refl, (refl, (refl, tt))); first = inl (record { method = _; stands = refl; of_class = refl; is = (refl, inr (record { visible = refl; same_call = refl; below = (gate_below_door closes, differ _ _ refl); overridable = inl refl })) }) });
  };
}

pub close_happens : (state : ℕ) → HasEvents (runs closes) true (names_close closes).called.signature (reference_to 2 ∷ []) (gate_world state) (gate_world (slice_index (1 ∷ 2 ∷ 2 ∷ []) state))
close_happens state = moved (record { selecting = refl; event = _; named = refl; receiver = (is_door closes (gate_world state) state refl).to; no_array = refl; observed = gate_below_door closes }) refl

-- the call of close at an offset of main, which is an event of the gate in a state
abbrev closes_gate : (state : ℕ) → Found (runs closes) 4 (main_of closes refl) (instruction 182 virtual_row 16 0 [] 3) (with_units virtual_row (reference ∷ []) []) (reference_to 2 ∷ []) (gate_world state) (gate_world (slice_index (1 ∷ 2 ∷ 2 ∷ []) state))
closes_gate state = record { is_there = refl; names = names_close closes; target = 3; is_target = close_selected state; events = close_happens state }

at_close : Arrives (runs closes) (main_at closes refl 3 (reference_to 2 ∷ []) (gate_world 0))
at_close =
    let step = advance (runs closes) 4 (main_of closes refl) outside 0 [] (gate_world 0) _ refl _
    (field_row _ _ _ _ _ refl door_type) refl (reference_to 2) _ _ (names_gate closes, (refl, refl)) refl in
    goes _ _ _ (begun closes refl) (advances step.at step.step)

abbrev pub in_gate_close : ℕ → ℕ → List Value → World → State
in_gate_close at offset slots w = on (runs closes) 3 (gate_close_of closes) (main_waits at) offset slots w

pub enters_gate : Entering (runs closes) (codes "invokevirtual") (codes "Gate") (codes "close") (main_at closes refl 3 (reference_to 2 ∷ []) (gate_world 0)) (in_gate_close 3 0 (reference_to 2 ∷ []) (gate_world 1))
enters_gate = enter (runs closes) 4 (main_of closes refl) outside 3 (reference_to 2 ∷ []) (gate_world 0) _ refl _
    (call_row _ _ _ _ _ _ refl plain_units) _ (closes_gate 0) (gate_close_of closes)

pub an_override_is_selected : Takes (runs closes)
    (λ s t. Entering (runs closes) (codes "invokevirtual") (codes "Gate") (codes "close") s t × Shows 0 (reference_to 2 ∷ []) t × InState 2 0 s × InState 2 1 t)
an_override_is_selected =
    takes _ _ _ _ at_close (enters enters_gate.at enters_gate.step) (enters_gate, shows _ _ _, in_state _ _ _ refl, in_state _ _ _ refl)

-- ---- a method of the superclass

at_super_call : Arrives (runs closes) (in_gate_close 3 1 (reference_to 2 ∷ reference_to 2 ∷ []) (gate_world 1))
at_super_call = plainly (runs closes) 3 (gate_close_of closes) (main_waits 3) 1 0 (reference_to 2 ∷ []) (gate_world 1) _ refl (goes _ _ _ at_close (enters enters_gate.at enters_gate.step))

pub enters_door : Entering (runs closes) (codes "invokespecial") (codes "Door") (codes "close") (in_gate_close 3 1 (reference_to 2 ∷ reference_to 2 ∷ []) (gate_world 1))
    (on (runs closes) 2 (door_close_of closes) (waiting_at 3 1 (reference_to 2 ∷ []) ∷ main_waits 3) 0 (reference_to 2 ∷ []) (gate_world 1))
enters_door =
    enter (runs closes) 3 (gate_close_of closes) (main_waits 3) 1 (reference_to 2 ∷ reference_to 2 ∷ []) (gate_world 1) _ refl _ (call_row _ _ _ _ _ _ refl plain_units) _
    (record { is_there = refl; names = names_super closes; target = 2; is_target = (is_door closes (gate_world 1) 1 refl, super_selected closes); events = not_selecting _ _ _ _ _ refl }) (door_close_of closes)

pub a_method_of_the_superclass_is_called : Takes (runs closes)
    (λ s t. Entering (runs closes) (codes "invokespecial") (codes "Door") (codes "close") s t × Shows 0 (reference_to 2 ∷ []) t × (t.world ≡ s.world))
a_method_of_the_superclass_is_called =
    takes _ _ _ _ at_super_call (enters enters_door.at enters_door.step) (enters_door, shows _ _ _, refl)

-- ---- the error

-- back in main, which closes the gate again
at_second : Arrives (runs closes) (main_at closes refl 9 (reference_to 2 ∷ []) (gate_world 1))
at_second =
    let x = runs closes in
    let first = give_back x 2 (door_close_of closes) 3 (gate_close_of closes) (main_waits 3) 0 (reference_to 2 ∷ []) (gate_world 1) _ refl _
    refl refl refl _ plain_units 1 (reference_to 2 ∷ []) _ refl _ (call_row _ _ _ _ _ _ refl plain_units) in
    let second = give_back x 3 (gate_close_of closes) 4 (main_of closes refl) outside 4 (reference_to 2 ∷ []) (gate_world 1) _ refl _
    refl refl refl _ plain_units 3 [] _ refl _ (call_row _ _ _ _ _ _ refl plain_units) in
    let third = advance (runs closes) 4 (main_of closes refl) outside 6 [] (gate_world 1) _ refl _
    (field_row _ _ _ _ _ refl door_type) refl (reference_to 2) _ _ (names_gate closes, (refl, refl)) refl in
    goes _ _ _ (goes _ _ _ (goes _ _ _ (goes _ _ _ at_super_call (enters enters_door.at enters_door.step)) (returns first.at first.step)) (returns second.at second.step)) (advances third.at third.step)

pub an_event_leads_to_the_error : Takes (runs closes)
    (λ s t. Entering (runs closes) (codes "invokevirtual") (codes "Gate") (codes "close") s t × InState 2 1 s × InState 2 (runs closes).property.error t)
an_event_leads_to_the_error =
    let step = enter (runs closes) 4 (main_of closes refl) outside 9 (reference_to 2 ∷ []) (gate_world 1) _ refl _
    (call_row _ _ _ _ _ _ refl plain_units) _ (closes_gate 1) (gate_close_of closes) in
    takes _ _ _ _ at_second (enters step.at step.step) (step, in_state _ _ _ refl, in_state _ _ _ refl)

-- ---- interfaces

-- the world after the event
abbrev pub closed_world : World
closed_world = with_automaton (world closes_by_interface refl) 2 (gate_in closes_by_interface 0) 1

pub close_by_interface : SelectsByObject (program_with closes_by_interface) true (names_interface_close closes_by_interface).method 0 (world closes_by_interface refl) (reference_to 2 ∷ []) 3
close_by_interface = record {
  instance = refl;
  receiver = is_closing closes_by_interface (world closes_by_interface refl) 0 refl;
  selects = record {
    method = _;
    stands = refl;
    chosen = upward (record { chain = chain_up (program_with closes_by_interface) 4 (Some (codes "Gate")); of_start = (refl, (refl, (refl, tt))); first = inl (record { method = _; stands = refl; of_class = refl; is = (refl, refl) }) });
  };
}

pub close_observed : HasEvents (runs closes_by_interface) true (names_interface_close closes_by_interface).called.signature (reference_to 2 ∷ []) (world closes_by_interface refl) closed_world
close_observed = moved (record { selecting = refl; event = _; named = refl; receiver = (is_door closes_by_interface (world closes_by_interface refl) 0 refl).to; no_array = refl; observed = gate_below_door closes_by_interface }) refl

pub an_interface_method_is_called : Takes (runs closes_by_interface)
    (λ s t. Entering (runs closes_by_interface) (codes "invokeinterface") (codes "Gate") (codes "close") s t × Shows 0 (reference_to 2 ∷ []) t × InState 2 1 t)
an_interface_method_is_called =
    let first = advance (runs closes_by_interface) 4 (main_of closes_by_interface refl) outside 0 [] (world closes_by_interface refl) _ refl _
    (field_row _ _ _ _ _ refl door_type) refl (reference_to 2) _ _ (names_gate closes_by_interface, (refl, refl)) refl in
    let step = enter (runs closes_by_interface) 4 (main_of closes_by_interface refl) outside 3 (reference_to 2 ∷ []) (world closes_by_interface refl) _ refl _
    (call_row _ _ _ _ _ _ refl plain_units) _
    (record { is_there = refl; names = names_interface_close closes_by_interface; target = 3; is_target = close_by_interface; events = close_observed }) (gate_close_of closes_by_interface) in
    takes _ _ _ _ (goes _ _ _ (begun closes_by_interface refl) (advances first.at first.step)) (enters step.at step.step) (step, shows _ _ _, in_state _ _ _ refl)

abbrev pub shut_signature : Signature
shut_signature = record { name = codes "shut"; descriptor = plain_descriptor }

shut_is_default : IsOnlyDefault (program_with shuts) (codes "Gate") shut_signature 1
shut_is_default = only_default (program_with shuts) (codes "Gate") shut_signature 1 (record {
  method = _;
  stands = refl;
  above = record { interface = _; named = refl; kind = refl; below = (gate_below_closing shuts, differ _ _ refl) };
  same_call = refl;
  visible = refl;
  instance = refl;
}) refl refl

pub shut_is_selected : Selects (program_with shuts) true (codes "Gate") 1 1
shut_is_selected = record {
  method = _;
  stands = refl;
  chosen = by_default (none_found (program_with shuts) (codes "Gate" ∷ codes "Door" ∷ object_name ∷ []) shut_signature (IsInstanceWith shut_signature) (λ n m stands is. is.0) refl refl (codes "Gate") refl) shut_is_default;
}

pub a_default_is_selected : Takes (runs shuts)
    (λ s t. Entering (runs shuts) (codes "invokeinterface") (codes "Closing") (codes "shut") s t × Shows 0 (reference_to 2 ∷ []) t × (t.world ≡ s.world))
a_default_is_selected =
    let first = advance (runs shuts) 4 (main_of shuts refl) outside 0 [] (world shuts refl) _ refl _
    (field_row _ _ _ _ _ refl door_type) refl (reference_to 2) _ _ (names_gate shuts, (refl, refl)) refl in
    let step = enter (runs shuts) 4 (main_of shuts refl) outside 3 (reference_to 2 ∷ []) (world shuts refl) _ refl _ (call_row _ _ _ _ _ _ refl plain_units) _
    (record {
      is_there = refl;
      names = names_shut shuts;
      target = 1;
      is_target = record { instance = refl; receiver = is_closing shuts (world shuts refl) 0 refl; selects = shut_is_selected };
      events = not_named _ _ _ _ _ refl;
    })
    (shut_of shuts) in
    takes _ _ _ _ (goes _ _ _ (begun shuts refl) (advances first.at first.step)) (enters step.at step.step) (step, shows _ _ _, refl)
