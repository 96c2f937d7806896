-- The starts of an initialiser at other triggers.
use Rattle.std.proofs.Common.{codes, [], ◌∷◌, refl}
use Rattle.machine_bytecode.specs.Machine.{of_class, of_field, of_method, starts}
use Rattle.machine_bytecode.specs.States.{primitive_value}
use Rattle.example_machine.specs.Initialising.{runs, makes_late, makes_table, calls_ready, reads_ready, writes_ready}
use Rattle.example_machine.proofs.Facts.{call_row, declared_field, field_row}
use Rattle.example_machine.proofs.Runs.{first_world}
use Rattle.example_machine.proofs.Types.{base_type}
use Rattle.example_machine.proofs.CallStart.{outside, plain_units}
use Rattle.example_machine.proofs.Initialisers.{nothing_there, start as start_code}
use Rattle.example_machine.proofs.InitialiserRuns.{main_of, initialises_ready, initialises_late, initialises_table, names_go}
use Rattle.machine_nodes.specs.NodeSteps.{starts as starts_node}
use Rattle.example_nodes.specs.Initialising.{given_with, StartsInitialiser, StartsReady, initialiser_nodes, makes_late_nodes, makes_table_nodes, calls_ready_nodes, reads_ready_nodes, writes_ready_nodes}
use Rattle.example_nodes.specs.Lowering.{class_no}
use Rattle.example_nodes.proofs.CallSteps.{start}
use Rattle.example_nodes.proofs.Steps.{takes, starts_at, enters_at, plainly}

pub an_initialiser_of_a_superclass_starts : StartsReady makes_late makes_late_nodes
an_initialiser_of_a_superclass_starts =
    let x = runs makes_late in
    let c = main_of makes_late refl in
    let w = first_world x [] in
    let begins = enters_at x (given_with makes_late_nodes) c makes_late_nodes refl refl w (starts_at x (given_with makes_late_nodes) c [] refl) in
    let step = start_code x 1 c outside 0 [] w _ refl _ refl refl (codes "Late") (of_class (record { class = _; named = refl }) refl) 3 (initialises_late makes_late) (nothing_there 3) in
    let node_step = start x (given_with makes_late_nodes) 1 makes_late_nodes refl outside 0 [] w _ refl (class_no 1) refl (codes "Late") (record { class = _; stands = refl; named = refl }) 3 (initialises_late makes_late) (nothing_there 3)
    (initialiser_nodes 3) refl (primitive_value ∷ []) refl in
    takes _ _ _ _ _ begins (starts step.step) (starts_node node_step.at node_step.step) node_step

pub an_initialiser_of_a_superinterface_starts : StartsInitialiser 5 makes_table makes_table_nodes
an_initialiser_of_a_superinterface_starts =
    let x = runs makes_table in
    let c = main_of makes_table refl in
    let w = first_world x [] in
    let begins = enters_at x (given_with makes_table_nodes) c makes_table_nodes refl refl w (starts_at x (given_with makes_table_nodes) c [] refl) in
    let step = start_code x 1 c outside 0 [] w _ refl _ refl refl (codes "Table") (of_class (record { class = _; named = refl }) refl) 5 (initialises_table makes_table) (nothing_there 5) in
    let node_step = start x (given_with makes_table_nodes) 1 makes_table_nodes refl outside 0 [] w _ refl (class_no 5) refl (codes "Table") (record { class = _; stands = refl; named = refl }) 5 (initialises_table makes_table) (nothing_there 5)
    (initialiser_nodes 5) refl (primitive_value ∷ []) refl in
    takes _ _ _ _ _ begins (starts step.step) (starts_node node_step.at node_step.step) node_step

pub an_initialiser_starts_at_a_call : StartsReady calls_ready calls_ready_nodes
an_initialiser_starts_at_a_call =
    let x = runs calls_ready in
    let c = main_of calls_ready refl in
    let w = first_world x [] in
    let begins = enters_at x (given_with calls_ready_nodes) c calls_ready_nodes refl refl w (starts_at x (given_with calls_ready_nodes) c [] refl) in
    let step = start_code x 1 c outside 0 [] w _ refl _ (call_row _ _ _ _ _ _ refl plain_units) refl (codes "Ready") (of_method names_go refl) 3 (initialises_ready calls_ready) (nothing_there 3) in
    let node_step = start x (given_with calls_ready_nodes) 1 calls_ready_nodes refl outside 0 [] w _ refl (class_no 3) refl (codes "Ready") (record { class = _; stands = refl; named = refl }) 3 (initialises_ready calls_ready) (nothing_there 3)
    (initialiser_nodes 3) refl (primitive_value ∷ []) refl in
    takes _ _ _ _ _ begins (starts step.step) (starts_node node_step.at node_step.step) node_step

pub an_initialiser_starts_at_a_field : StartsReady reads_ready reads_ready_nodes
an_initialiser_starts_at_a_field =
    let x = runs reads_ready in
    let c = main_of reads_ready refl in
    let w = first_world x [] in
    let begins = enters_at x (given_with reads_ready_nodes) c reads_ready_nodes refl refl w (starts_at x (given_with reads_ready_nodes) c [] refl) in
    let step = start_code x 1 c outside 0 [] w _ refl _ (field_row _ _ _ _ _ refl (base_type 73 refl)) refl (codes "Ready") (of_field (declared_field _ _ _ _ 0 _ _ refl refl refl refl refl) refl) 3 (initialises_ready reads_ready) (nothing_there 3) in
    let node_step = start x (given_with reads_ready_nodes) 1 reads_ready_nodes refl outside 0 [] w _ refl (class_no 3) refl (codes "Ready") (record { class = _; stands = refl; named = refl }) 3 (initialises_ready reads_ready) (nothing_there 3)
    (initialiser_nodes 3) refl (primitive_value ∷ []) refl in
    takes _ _ _ _ _ begins (starts step.step) (starts_node node_step.at node_step.step) node_step

pub an_initialiser_starts_at_a_write : StartsReady writes_ready writes_ready_nodes
an_initialiser_starts_at_a_write =
    let x = runs writes_ready in
    let given = given_with writes_ready_nodes in
    let c = main_of writes_ready refl in
    let w = first_world x [] in
    let begins = enters_at x given c writes_ready_nodes refl refl w (starts_at x given c [] refl) in
    let pushed = plainly x given 1 c writes_ready_nodes refl outside 1 0 [] w _ refl begins in
    let step = start_code x 1 c outside 1 (primitive_value ∷ []) w _ refl _ (field_row _ _ _ _ _ refl (base_type 73 refl)) refl (codes "Ready")
    (of_field (declared_field _ _ _ _ 0 _ _ refl refl refl refl refl) refl) 3 (initialises_ready writes_ready) (nothing_there 3) in
    let node_step = start x given 1 writes_ready_nodes refl outside 1 (primitive_value ∷ []) w _ refl (class_no 3) refl (codes "Ready") (record { class = _; stands = refl; named = refl }) 3 (initialises_ready writes_ready) (nothing_there 3)
    (initialiser_nodes 3) refl (primitive_value ∷ []) refl in
    takes _ _ _ _ _ pushed (starts step.step) (starts_node node_step.at node_step.step) node_step
