-- That the nodes of methods that may start initialisers, those of initialisers, and those of a return of a reference are those that the
-- rules give.
use Rattle.std.proofs.Common.{codes, true, [], Some, None, refl}
use Rattle.machine_bytecode.specs.Machine.{NamesField, of_class, of_field, of_method}
use Rattle.example_machine.specs.Initialising.{main_pool, broken_pool, program_with, makes_ready, makes_late, makes_table, reads_ready, writes_ready}
use Rattle.example_machine.proofs.CallStart.{plain_units, door_units, door_type}
use Rattle.example_machine.proofs.Facts.{call_row, declared_field, field_row}
use Rattle.example_machine.proofs.Types.{base_type}
use Rattle.example_machine.proofs.ExceptionRuns.{exception_type}
use Rattle.lowering_spec.specs.LoweredMethods.{IsLowered, no_trigger, for_class}
use Rattle.example_nodes.specs.DecodedCalls.{makes_ready_code, makes_ready_graph, makes_late_code, makes_late_graph, makes_table_code, makes_table_graph, reads_ready_code, reads_ready_graph, writes_ready_code, writes_ready_graph, breaks_code, breaks_graph, ready_starts_code, ready_starts_graph, finds_code, finds_graph, find_gate_code, find_gate_graph}
use Rattle.example_nodes.specs.Giving.{main_pool as finding_pool, finding, finds_nodes, find_gate_nodes}
use Rattle.example_nodes.specs.Initialising.{makes_ready_nodes, makes_late_nodes, makes_table_nodes, reads_ready_nodes, writes_ready_nodes, breaks_nodes, initialiser_nodes}
use Rattle.example_nodes.specs.Lowering.{method_no}
use Rattle.example_nodes.proofs.MoveLists.{are_moves_of}
use Rattle.example_nodes.proofs.NodesOf.{node_is, throws_nothing}
use Rattle.example_nodes.proofs.ReturnRuns.{find_named, gate_named}

abbrev size_named : NamesField (program_with reads_ready) main_pool 19 true
size_named = declared_field _ _ _ _ 0 _ _ refl refl refl refl refl

abbrev written_named : NamesField (program_with writes_ready) main_pool 19 true
written_named = declared_field _ _ _ _ 0 _ _ refl refl refl refl refl

abbrev fire_named : NamesField (program_with makes_ready) broken_pool 13 true
fire_named = declared_field _ _ _ _ 1 _ _ refl refl refl refl refl

pub nodes_of_makes_ready : IsLowered (program_with makes_ready) 1 main_pool makes_ready_code makes_ready_graph makes_ready_nodes
nodes_of_makes_ready = record {
  method = _;
  stands = refl;
  number_is = refl;
  slots = refl;
  stack = refl;
  params = record { parameters = []; results = []; of_descriptor = plain_units; is = refl };
  nodes = (
    node_is (program_with makes_ready) 1 _ main_pool makes_ready_code _ _ _ 0 refl refl _ refl _ refl 0 refl refl (record { class = _; named = refl }, refl) refl tt
        (Some (codes "Ready")) (for_class refl (codes "Ready") _ (of_class (record { class = _; named = refl }) refl) (record { class = _; stands = refl; named = refl }) refl refl) (throws_nothing _ refl _ refl _),
    (
      node_is (program_with makes_ready) 1 _ main_pool makes_ready_code _ _ _ 1 refl refl _ refl _ refl 0 refl refl (record { moves = _; is = refl; each = are_moves_of _ _ _ refl }) refl tt
          None (no_trigger refl refl refl) (throws_nothing _ refl _ refl _),
      (
        node_is (program_with makes_ready) 1 _ main_pool makes_ready_code _ _ _ 2 refl refl _ refl _ refl 0 refl refl refl refl tt
            None (no_trigger refl refl refl) (throws_nothing _ refl _ refl _),
        tt,
      ),
    ),
  );
}

pub nodes_of_makes_late : IsLowered (program_with makes_late) 1 main_pool makes_late_code makes_late_graph makes_late_nodes
nodes_of_makes_late = record {
  method = _;
  stands = refl;
  number_is = refl;
  slots = refl;
  stack = refl;
  params = record { parameters = []; results = []; of_descriptor = plain_units; is = refl };
  nodes = (
    node_is (program_with makes_late) 1 _ main_pool makes_late_code _ _ _ 0 refl refl _ refl _ refl 0 refl refl (record { class = _; named = refl }, refl) refl tt
        (Some (codes "Late")) (for_class refl (codes "Late") _ (of_class (record { class = _; named = refl }) refl) (record { class = _; stands = refl; named = refl }) refl refl) (throws_nothing _ refl _ refl _),
    (
      node_is (program_with makes_late) 1 _ main_pool makes_late_code _ _ _ 1 refl refl _ refl _ refl 0 refl refl (record { moves = _; is = refl; each = are_moves_of _ _ _ refl }) refl tt
          None (no_trigger refl refl refl) (throws_nothing _ refl _ refl _),
      (
        node_is (program_with makes_late) 1 _ main_pool makes_late_code _ _ _ 2 refl refl _ refl _ refl 0 refl refl refl refl tt
            None (no_trigger refl refl refl) (throws_nothing _ refl _ refl _),
        tt,
      ),
    ),
  );
}

pub nodes_of_makes_table : IsLowered (program_with makes_table) 1 main_pool makes_table_code makes_table_graph makes_table_nodes
nodes_of_makes_table = record {
  method = _;
  stands = refl;
  number_is = refl;
  slots = refl;
  stack = refl;
  params = record { parameters = []; results = []; of_descriptor = plain_units; is = refl };
  nodes = (
    node_is (program_with makes_table) 1 _ main_pool makes_table_code _ _ _ 0 refl refl _ refl _ refl 0 refl refl (record { class = _; named = refl }, refl) refl tt
        (Some (codes "Table")) (for_class refl (codes "Table") _ (of_class (record { class = _; named = refl }) refl) (record { class = _; stands = refl; named = refl }) refl refl) (throws_nothing _ refl _ refl _),
    (
      node_is (program_with makes_table) 1 _ main_pool makes_table_code _ _ _ 1 refl refl _ refl _ refl 0 refl refl (record { moves = _; is = refl; each = are_moves_of _ _ _ refl }) refl tt
          None (no_trigger refl refl refl) (throws_nothing _ refl _ refl _),
      (
        node_is (program_with makes_table) 1 _ main_pool makes_table_code _ _ _ 2 refl refl _ refl _ refl 0 refl refl refl refl tt
            None (no_trigger refl refl refl) (throws_nothing _ refl _ refl _),
        tt,
      ),
    ),
  );
}

pub nodes_of_reads_ready : IsLowered (program_with reads_ready) 1 main_pool reads_ready_code reads_ready_graph reads_ready_nodes
nodes_of_reads_ready = record {
  method = _;
  stands = refl;
  number_is = refl;
  slots = refl;
  stack = refl;
  params = record { parameters = []; results = []; of_descriptor = plain_units; is = refl };
  nodes = (
    node_is (program_with reads_ready) 1 _ main_pool reads_ready_code _ _ _ 0 refl refl _ refl _ (field_row _ _ _ _ _ refl (base_type 73 refl)) 0 refl refl (record { names = size_named; is = record { moves = _; is = refl; each = are_moves_of _ _ _ refl } }) refl tt
        (Some (codes "Ready")) (for_class refl (codes "Ready") _ (of_field size_named refl) (record { class = _; stands = refl; named = refl }) refl refl) (throws_nothing _ refl _ refl _),
    (
      node_is (program_with reads_ready) 1 _ main_pool reads_ready_code _ _ _ 1 refl refl _ refl _ refl 0 refl refl (record { moves = _; is = refl; each = are_moves_of _ _ _ refl }) refl tt
          None (no_trigger refl refl refl) (throws_nothing _ refl _ refl _),
      (
        node_is (program_with reads_ready) 1 _ main_pool reads_ready_code _ _ _ 2 refl refl _ refl _ refl 0 refl refl refl refl tt
            None (no_trigger refl refl refl) (throws_nothing _ refl _ refl _),
        tt,
      ),
    ),
  );
}

pub nodes_of_writes_ready : IsLowered (program_with writes_ready) 1 main_pool writes_ready_code writes_ready_graph writes_ready_nodes
nodes_of_writes_ready = record {
  method = _;
  stands = refl;
  number_is = refl;
  slots = refl;
  stack = refl;
  params = record { parameters = []; results = []; of_descriptor = plain_units; is = refl };
  nodes = (
    node_is (program_with writes_ready) 1 _ main_pool writes_ready_code _ _ _ 0 refl refl _ refl _ refl 0 refl refl (record { moves = _; is = refl; each = are_moves_of _ _ _ refl }) refl tt
        None (no_trigger refl refl refl) (throws_nothing _ refl _ refl _),
    (
      node_is (program_with writes_ready) 1 _ main_pool writes_ready_code _ _ _ 1 refl refl _ refl _ (field_row _ _ _ _ _ refl (base_type 73 refl)) 0 refl refl (record { names = written_named; is = record { moves = _; is = refl; each = are_moves_of _ _ _ refl } }) refl tt
          (Some (codes "Ready")) (for_class refl (codes "Ready") _ (of_field written_named refl) (record { class = _; stands = refl; named = refl }) refl refl) (throws_nothing _ refl _ refl _),
      (
        node_is (program_with writes_ready) 1 _ main_pool writes_ready_code _ _ _ 2 refl refl _ refl _ refl 0 refl refl refl refl tt
            None (no_trigger refl refl refl) (throws_nothing _ refl _ refl _),
        tt,
      ),
    ),
  );
}

pub nodes_of_breaks : IsLowered (program_with makes_ready) 0 broken_pool breaks_code breaks_graph breaks_nodes
nodes_of_breaks = record {
  method = _;
  stands = refl;
  number_is = refl;
  slots = refl;
  stack = refl;
  params = record { parameters = []; results = []; of_descriptor = plain_units; is = refl };
  nodes = (
    node_is (program_with makes_ready) 0 _ broken_pool breaks_code _ _ _ 0 refl refl _ refl _ (field_row _ _ _ _ _ refl exception_type) 0 refl refl (record { names = fire_named; is = refl }) refl tt
        (Some (codes "lib/Alarm")) (for_class refl (codes "lib/Alarm") _ (of_field fire_named refl) (record { class = _; stands = refl; named = refl }) refl refl) (throws_nothing _ refl _ refl _),
    (
      node_is (program_with makes_ready) 0 _ broken_pool breaks_code _ _ _ 1 refl refl _ refl _ refl 0 refl refl refl refl tt
          None (no_trigger refl refl refl) (throws_nothing _ refl _ refl _),
      tt,
    ),
  );
}

pub nodes_of_ready_starts : IsLowered (program_with makes_ready) 3 [] ready_starts_code ready_starts_graph (initialiser_nodes 3)
nodes_of_ready_starts = record {
  method = _;
  stands = refl;
  number_is = refl;
  slots = refl;
  stack = refl;
  params = record { parameters = []; results = []; of_descriptor = plain_units; is = refl };
  nodes = (
    node_is (program_with makes_ready) 3 _ [] ready_starts_code _ _ _ 0 refl refl _ refl _ refl 1 refl refl refl refl tt
        None (no_trigger refl refl refl) (throws_nothing _ refl _ refl _),
    tt,
  );
}

pub nodes_of_finds : IsLowered finding 4 finding_pool finds_code finds_graph finds_nodes
nodes_of_finds = record {
  method = _;
  stands = refl;
  number_is = refl;
  slots = refl;
  stack = refl;
  params = record { parameters = []; results = []; of_descriptor = plain_units; is = refl };
  nodes = (
    node_is finding 4 _ finding_pool finds_code _ _ _ 0 refl refl _ refl _ (call_row _ _ _ _ _ _ refl door_units) 0 refl refl (record { names = find_named; chosen = Some (method_no 5); is_chosen = refl; parameters = _; results = _; units = door_units; is = refl }) refl tt
        (Some (codes "Main")) (for_class refl (codes "Main") _ (of_method find_named refl) (record { class = _; stands = refl; named = refl }) refl refl) (throws_nothing _ refl _ refl _),
    (
      node_is finding 4 _ finding_pool finds_code _ _ _ 1 refl refl _ refl _ refl 0 refl refl (record { moves = _; is = refl; each = are_moves_of _ _ _ refl }) refl tt
          None (no_trigger refl refl refl) (throws_nothing _ refl _ refl _),
      (
        node_is finding 4 _ finding_pool finds_code _ _ _ 2 refl refl _ refl _ refl 0 refl refl refl refl tt
            None (no_trigger refl refl refl) (throws_nothing _ refl _ refl _),
        tt,
      ),
    ),
  );
}

pub nodes_of_find_gate : IsLowered finding 5 finding_pool find_gate_code find_gate_graph find_gate_nodes
nodes_of_find_gate = record {
  method = _;
  stands = refl;
  number_is = refl;
  slots = refl;
  stack = refl;
  params = record { parameters = _; results = _; of_descriptor = door_units; is = refl };
  nodes = (
    node_is finding 5 _ finding_pool find_gate_code _ _ _ 0 refl refl _ refl _ (field_row _ _ _ _ _ refl door_type) 0 refl refl (record { names = gate_named; is = refl }) refl tt
        (Some (codes "lib/House")) (for_class refl (codes "lib/House") _ (of_field gate_named refl) (record { class = _; stands = refl; named = refl }) refl refl) (throws_nothing _ refl _ refl _),
    (
      node_is finding 5 _ finding_pool find_gate_code _ _ _ 1 refl refl _ refl _ refl 0 refl refl refl refl tt
          None (no_trigger refl refl refl) (throws_nothing _ refl _ refl _),
      tt,
    ),
  );
}
