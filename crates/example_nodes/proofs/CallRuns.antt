-- The steps of calls, and what described methods give, keep and throw.
use Rattle.std.proofs.Common.{codes, ◌≡◌, inl, inr, ◌-◌, true, false, [], ◌∷◌, replicate, Some, None, Ok, refl, arith}
use Rattle.jvm_model.specs.declared.site.SiteKind.TheVariants.{Thrown}
use Rattle.jvm_model.specs.Code.{CodeBody}
use Rattle.jvm_model.specs.Programs.{object_name}
use Rattle.jvm_model.specs.Selection.{upward}
use Rattle.jvm_model.specs.Subtypes.{by_class, by_array, same}
use Rattle.op_model.specs.declared.lowered.LoweredMethod.{LoweredMethod}
use Rattle.machine_bytecode.specs.Machine.{SelectsByObject, gets_result, gets_exception, enters, enters_entry, returns, catches, ends, of_primitives}
use Rattle.machine_bytecode.specs.Start.{start_frame}
use Rattle.machine_bytecode.specs.States.{primitive_value, reference_to, runs_on, throws_on, moved_to, waiting, ended, ends_with}
use Rattle.example_machine.specs.Building.{handler}
use Rattle.example_machine.specs.Taking.{HasObject, Shows, Ending}
use Rattle.example_machine.specs.Calling.{program_with, runs, shuts, hashes, rings, keeps, fails}
use Rattle.example_machine.proofs.Facts.{has_object, call_row, described_at, field_row, makes_array, refers_to, shows}
use Rattle.example_machine.proofs.Runs.{started_in, advance, body_fits, entered_in, frame_at}
use Rattle.example_machine.proofs.CallSteps.{enter as enter_code, get as get_result, give_to_start, not_selecting, not_named}
use Rattle.example_machine.proofs.CallStart.{outside, main_of, shut_of, world, main_at, int_units, plain_units, door_units, from_door_units, door_type, names_gate, names_hash, names_shut, house_named, is_door, is_closing}
use Rattle.example_machine.proofs.Searches.{chain_up}
use Rattle.example_machine.proofs.Throws.{catch as catch_code}
use Rattle.example_machine.proofs.CallResults.{with_array, kept_world, failed_world, throws_failure, puts}
use Rattle.example_machine.proofs.CallRuns.{shut_is_selected}
use Rattle.machine_nodes.specs.NodeSteps.{enters_entry as enters_entry_node, gets_result as gets_result_node, gets_exception as gets_exception_node, enters as enters_node, returns as returns_node, catches as catches_node, ends as ends_node, fitting}
use Rattle.example_nodes.specs.Calling.{given_with, Steps, returns_only, shuts_nodes, hashes_nodes, rings_nodes, keeps_nodes, fails_nodes}
use Rattle.example_nodes.specs.Lowering.{class_no, catching}
use Rattle.example_nodes.specs.Taking.{EnteringEntryNode, ThrownAtNode, EnteringNode, GettingOnNode, CatchingNode, ReturningNode, EndingNode}
use Rattle.example_nodes.proofs.CallSteps.{enter, get, get_thrown, give_back, catch}
use Rattle.example_nodes.proofs.Slots.{are_left_by, reads_alike}
use Rattle.example_nodes.proofs.StartNodes.{start_stands}
use Rattle.example_nodes.proofs.Steps.{at_start, Arrives, goes, takes, starts_at, enters_at, operate, plainly, advanced, runs_there}

-- the first instruction of `main`
pub begun : (k : CodeBody) (fits : body_fits k ≡ true) (m : LoweredMethod) → given_with m 4 ≡ Some (Ok m) → reads_alike [] (replicate (k.max_locals - 0) primitive_value) ≡ true
    → Arrives (runs k) (given_with m) (entered_in (runs k) (main_of k fits) (world k fits))
begun k fits m is_given alike = enters_at (runs k) (given_with m) (main_of k fits) m is_given alike (world k fits) (starts_at (runs k) (given_with m) (main_of k fits) [] refl)

-- ---- a default

pub a_default_is_selected : Steps shuts shuts_nodes (EnteringNode (runs shuts) (given_with shuts_nodes) 1)
a_default_is_selected =
    let x = runs shuts in
    let given = given_with shuts_nodes in
    let w = world shuts refl in
    let first = advanced _ _ _ _ _ _ (begun shuts refl shuts_nodes refl refl)
    (advance x 4 (main_of shuts refl) outside 0 [] w _ refl _
    (field_row _ _ _ _ _ refl door_type) refl (reference_to 2) _ _ (names_gate shuts, (refl, refl)) refl)
    (operate x given 4 (main_of shuts refl) shuts_nodes refl outside 0 [] w _ refl _ _ _
    (record { value = reference_to 2; is_read = refl; are_left = are_left_by _ _ _ _ _ refl; same = refl }) refl) in
    let step = enter_code x 4 (main_of shuts refl) outside 3 (reference_to 2 ∷ []) w _ refl _ (call_row _ _ _ _ _ _ refl plain_units) _
    (record {
      is_there = refl;
      names = names_shut shuts;
      target = 1;
      is_target = record { instance = refl; receiver = is_closing shuts w 0 refl; selects = shut_is_selected };
      events = not_named _ _ _ _ _ refl;
    })
    (shut_of shuts) in
    let node_step = enter x given 4 shuts_nodes refl outside 3 (reference_to 2 ∷ []) w _ refl w
    (record {
      call = _;
      is_call = refl;
      resolved = _;
      stands = refl;
      target = 1;
      is_target = record { instance = refl; receiver = is_closing shuts w 0 refl; selects = shut_is_selected };
      events = not_named _ _ _ _ _ refl;
    })
    (returns_only 1) refl [] refl (reference_to 2 ∷ []) refl in
    takes _ _ _ _ _ first (enters step.at step.step) (enters_node node_step.at node_step.step) node_step

-- ---- an array is called

hash_is_selected : SelectsByObject (program_with hashes) false (names_hash hashes).method 6 with_array (reference_to 3 ∷ []) 6
hash_is_selected = record {
  instance = refl;
  receiver = record { to = refers_to _ 3 _ refl; fits = by_array _ _ refl (inl refl) };
  selects = record {
    method = _;
    stands = refl;
    chosen = upward (record { chain = chain_up (program_with hashes) 2 (Some object_name); of_start = (refl, tt); first = inl (record { method = _; stands = refl; of_class = refl; is = (refl, inl refl) }) });
  };
}

pub an_array_is_called : Steps hashes hashes_nodes (GettingOnNode (runs hashes) (given_with hashes_nodes) 6)
an_array_is_called =
    let x = runs hashes in
    let given = given_with hashes_nodes in
    let c = main_of hashes refl in
    let w = world hashes refl in
    let made = advanced _ _ _ _ _ _ (plainly x given 4 c hashes_nodes refl outside 1 0 [] w _ refl (begun hashes refl hashes_nodes refl refl))
    (advance x 4 c outside 1 (primitive_value ∷ []) w _ refl _ refl refl (reference_to 3) with_array _
    (codes "[I" ∷ [], of_primitives refl refl, makes_array _ _ 1 _) refl)
    (operate x given 4 c hashes_nodes refl outside 1 (primitive_value ∷ []) w _ refl _ with_array _
    (record { made = reference_to 3; is_made = makes_array _ _ 1 _; are_left = are_left_by _ _ _ _ _ refl }) refl) in
    let step = get_result x 4 c outside 3 (reference_to 3 ∷ []) with_array _ refl _ (call_row _ _ _ _ _ _ refl int_units) _
    (record { is_there = refl; names = names_hash hashes; target = 6; is_target = hash_is_selected; events = not_named _ _ _ _ _ refl })
    (described_at _ _ _ _ refl refl refl int_units.is) 0 _ refl primitive_value _ (refl, refl) in
    let node_step = get x given 4 hashes_nodes refl outside 3 (reference_to 3 ∷ []) with_array _ refl with_array
    (record { call = _; is_call = refl; resolved = _; stands = refl; target = 6; is_target = hash_is_selected; events = not_named _ _ _ _ _ refl })
    primitive_value with_array (record { called = described_at _ _ _ _ refl refl refl int_units.is; place = 0; result = _; listed = refl; gives = (refl, refl) }) (primitive_value ∷ []) refl 6 refl in
    takes _ _ _ _ _ made (gets_result step.at step.step) (gets_result_node node_step.at node_step.step) node_step

-- ---- what is kept

at_put : Arrives (runs keeps) (given_with keeps_nodes) (main_at keeps refl 3 (reference_to 2 ∷ []) (world keeps refl))
at_put =
    advanced _ _ _ _ _ _ (begun keeps refl keeps_nodes refl refl)
    (advance (runs keeps) 4 (main_of keeps refl) outside 0 [] (world keeps refl) _ refl _
    (field_row _ _ _ _ _ refl door_type) refl (reference_to 2) _ _ (names_gate keeps, (refl, refl)) refl)
    (operate (runs keeps) (given_with keeps_nodes) 4 (main_of keeps refl) keeps_nodes refl outside 0 [] (world keeps refl) _ refl _ _ _
    (record { value = reference_to 2; is_read = refl; are_left = are_left_by _ _ _ _ _ refl; same = refl }) refl)

at_take : Arrives (runs keeps) (given_with keeps_nodes) (main_at keeps refl 6 [] kept_world)
at_take =
    let x = runs keeps in
    let w = world keeps refl in
    let node_step = get x (given_with keeps_nodes) 4 keeps_nodes refl outside 3 (reference_to 2 ∷ []) w _ refl w
    (record { call = _; is_call = refl; resolved = _; stands = refl; target = 13; is_target = refl; events = not_selecting _ _ _ _ _ refl })
    primitive_value kept_world (record { called = described_at _ _ _ _ refl refl refl from_door_units.is; place = 0; result = _; listed = refl; gives = (refl, refl) }) [] refl 6 refl in
    goes _ _ _ _ at_put (gets_result puts.at puts.step) (gets_result_node node_step.at node_step.step)

pub a_kept_object_is_given : Steps keeps keeps_nodes (λ s t. GettingOnNode (runs keeps) (given_with keeps_nodes) 14 s t × Shows 9 (reference_to 2 ∷ []) t)
a_kept_object_is_given =
    let x = runs keeps in
    let step = get_result x 4 (main_of keeps refl) outside 6 [] kept_world _ refl _ (call_row _ _ _ _ _ _ refl door_units) _
    (record { is_there = refl; names = house_named keeps 55 14 _ _ refl refl refl refl refl; target = 14; is_target = (refl, refl); events = not_selecting _ _ _ _ _ refl })
    (described_at _ _ _ _ refl refl refl door_units.is) 0 _ refl (reference_to 2) _ (record { class = _; of_result = refl; object = is_door keeps kept_world 0 refl; kept = (0, omega arith, refl) }, refl) in
    let node_step = get x (given_with keeps_nodes) 4 keeps_nodes refl outside 6 [] kept_world _ refl kept_world
    (record { call = _; is_call = refl; resolved = _; stands = refl; target = 14; is_target = refl; events = not_selecting _ _ _ _ _ refl })
    (reference_to 2) kept_world (record { called = described_at _ _ _ _ refl refl refl door_units.is; place = 0; result = _; listed = refl; gives = (record { class = _; of_result = refl; object = is_door keeps kept_world 0 refl; kept = (0, omega arith, refl) }, refl) }) (reference_to 2 ∷ []) refl 9 refl in
    takes _ _ _ _ _ at_take (gets_result step.at step.step) (gets_result_node node_step.at node_step.step) (node_step, shows _ _ _)

-- ---- what is thrown

throws_node : ThrownAtNode (runs fails) (given_with fails_nodes) 15 (main_at fails refl 0 [] (world fails refl)) (throws_on (frame_at 4 0 [] ∷ outside) failed_world 3)
throws_node =
    get_thrown (runs fails) (given_with fails_nodes) 4 fails_nodes refl outside 0 [] (world fails refl) _ refl (world fails refl)
    (record { call = _; is_call = refl; resolved = _; stands = refl; target = 15; is_target = refl; events = not_selecting _ _ _ _ _ refl })
    3 failed_world (record { called = described_at _ _ _ _ refl refl refl plain_units.is; place = 0; class = _; listed = refl; makes = record { made_is = refl; after_is = refl } })

thrown_there : Arrives (runs fails) (given_with fails_nodes) (throws_on (frame_at 4 0 [] ∷ outside) failed_world 3)
thrown_there =
    goes _ _ _ _ (begun fails refl fails_nodes refl refl) (gets_exception throws_failure.at throws_failure.step) (gets_exception_node throws_node.at throws_node.step)

pub its_exception_is_caught : Steps fails fails_nodes (λ s t. CatchingNode (runs fails) (given_with fails_nodes) 3 4 s t × Shows 4 (reference_to 3 ∷ []) t)
its_exception_is_caught =
    let step = catch_code (runs fails) 4 (main_of fails refl) outside 0 [] [] failed_world 3 _ refl (handler 0 3 4 60)
    (inl (record { covers = refl; takes = inr (codes "java/lang/Exception", refl, by_class _ _ _ refl (same _ refl)) }, refl)) refl in
    let node_step = catch (runs fails) (given_with fails_nodes) 4 fails_nodes refl outside 0 [] failed_world _ refl 3 _ refl (catching 4 (Some (class_no 4)))
    (inl (fitting (class_no 4) (codes "java/lang/Exception") refl (record { class = _; stands = refl; named = refl }) (by_class _ _ _ refl (same _ refl)), refl)) (reference_to 3 ∷ []) refl in
    takes _ _ _ _ _ thrown_there (catches step.at step.step) (catches_node node_step.at node_step.step) (node_step, shows _ _ _)

-- ---- the end

at_return : Arrives (runs rings) (given_with rings_nodes) (main_at rings refl 3 [] (world rings refl))
at_return =
    let x = runs rings in
    let w = world rings refl in
    let step = get_result x 4 (main_of rings refl) outside 0 [] w _ refl _ (call_row _ _ _ _ _ _ refl plain_units) _
    (record { is_there = refl; names = house_named rings 38 9 _ _ refl refl refl refl refl; target = 9; is_target = (refl, refl); events = not_selecting _ _ _ _ _ refl })
    (described_at _ _ _ _ refl refl refl plain_units.is) 0 _ refl primitive_value _ (refl, refl) in
    let node_step = get x (given_with rings_nodes) 4 rings_nodes refl outside 0 [] w _ refl w
    (record { call = _; is_call = refl; resolved = _; stands = refl; target = 9; is_target = refl; events = not_selecting _ _ _ _ _ refl })
    primitive_value w (record { called = described_at _ _ _ _ refl refl refl plain_units.is; place = 0; result = _; listed = refl; gives = (refl, refl) }) [] refl 3 refl in
    goes _ _ _ _ (begun rings refl rings_nodes refl refl) (gets_result step.at step.step) (gets_result_node node_step.at node_step.step)

returns_main : ReturningNode (runs rings) (given_with rings_nodes) (main_at rings refl 3 [] (world rings refl)) (runs_on (moved_to (waiting start_frame []) 1 [] ∷ []) (world rings refl))
returns_main = give_back (runs rings) (given_with rings_nodes) 4 rings_nodes refl (waiting start_frame []) [] 3 [] (world rings refl) _ refl None refl refl
    (start_stands (runs rings) (given_with rings_nodes) _ refl 3 (record { class = _; stands = refl; named = refl }) refl 0 [] true _ refl) _ refl [] refl 1 refl

pub the_entry_returns : Steps rings rings_nodes (λ s t. ReturningNode (runs rings) (given_with rings_nodes) s t × Shows 1 [] t)
the_entry_returns =
    let step = give_to_start (runs rings) 4 (main_of rings refl) 3 [] (world rings refl) _ refl _ refl refl refl _ plain_units in
    takes _ _ _ _ _ at_return (returns step.at step.step) (returns_node returns_main.at returns_main.step) (returns_main, shows _ _ _)

pub a_program_ends : Steps rings rings_nodes (λ s t. EndingNode (runs rings) (given_with rings_nodes) s t × (t.mode ≡ ended))
a_program_ends =
    let x = runs rings in
    let w = world rings refl in
    let returned = give_to_start x 4 (main_of rings refl) 3 [] w _ refl _ refl refl refl _ plain_units in
    let step : Ending (runs_on (moved_to (waiting start_frame []) 1 [] ∷ []) w) (ends_with w) = record { at = record { frame = _; below = []; runs = refl; frames = refl; no_method = refl; stands = refl }; step = record { after = refl } } in
    let node_step : EndingNode x (given_with rings_nodes) (runs_on (moved_to (waiting start_frame []) 1 [] ∷ []) w) (ends_with w) = record {
      at = runs_there x (given_with rings_nodes) (moved_to (waiting start_frame []) 1 []) [] w (start_stands x (given_with rings_nodes) _ refl 3 (record { class = _; stands = refl; named = refl }) refl 1 [] false _ refl);
      step = record { value = None; is_return = refl; no_method = refl; after = refl };
    } in
    takes _ _ _ _ _ (goes _ _ _ _ at_return (returns returned.at returned.step) (returns_node returns_main.at returns_main.step)) (ends step.at step.step) (ends_node node_step.at node_step.step) (node_step, refl)

-- ---- the first step, and a described method that throws

pub the_entry_is_called : Steps rings rings_nodes (λ s t. EnteringEntryNode (runs rings) (given_with rings_nodes) s t × Shows 0 [] t)
the_entry_is_called =
    let x = runs rings in
    let given = given_with rings_nodes in
    let w = world rings refl in
    let node_step : EnteringEntryNode x given (started_in w) (entered_in x (main_of rings refl) w) = record {
      at = at_start w;
      step = record {
        entry = _;
        stands = refl;
        left = [];
        are_left = λ z. refl;
        enters = record { method = rings_nodes; is_given = refl; slots = []; arguments = λ z. refl; after = refl };
      };
    } in
    takes _ _ _ _ _ (starts_at x given (main_of rings refl) [] refl)
    (enters_entry (at_start w) (record { code = main_of rings refl; enters = record { code = main_of rings refl; after = refl } }))
    (enters_entry_node node_step.at node_step.step) (node_step, shows _ _ _)

pub a_described_method_throws : Steps fails fails_nodes (λ s t. ThrownAtNode (runs fails) (given_with fails_nodes) 15 s t × HasObject 3 Thrown (codes "java/lang/Exception") t)
a_described_method_throws =
    takes _ _ _ _ _ (begun fails refl fails_nodes refl refl) (gets_exception throws_failure.at throws_failure.step) (gets_exception_node throws_node.at throws_node.step)
    (throws_node, has_object _ _ _ refl)
