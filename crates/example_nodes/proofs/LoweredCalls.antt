-- That the nodes of methods with calls are those that the rules give.
use Rattle.std.proofs.Common.{codes, [], Some, None, refl}
use Rattle.machine_bytecode.specs.Machine.{of_field, of_method}
use Rattle.example_machine.specs.Calling.{main_pool, gate_pool, program_with, gets_same, closes, shuts}
use Rattle.example_machine.proofs.CallStart.{plain_units, door_to_door_units, door_type, names_gate, names_close, names_super, super_selected, names_shut, house_named}
use Rattle.example_machine.proofs.Facts.{call_row, field_row}
use Rattle.lowering_spec.specs.LoweredMethods.{IsLowered, no_trigger, for_class}
use Rattle.example_nodes.specs.DecodedCalls.{gets_same_code, gets_same_graph, closes_code, closes_graph, shuts_code, shuts_graph, gate_close_code, gate_close_graph}
use Rattle.example_nodes.specs.Calling.{gets_same_nodes, closes_nodes, shuts_nodes, gate_close_nodes}
use Rattle.example_nodes.specs.Lowering.{method_no}
use Rattle.example_nodes.proofs.MoveLists.{are_moves_of}
use Rattle.example_nodes.proofs.NodesOf.{node_is, throws_nothing}

pub nodes_of_gets_same : IsLowered (program_with gets_same) 4 main_pool gets_same_code gets_same_graph gets_same_nodes
nodes_of_gets_same = record {
  method = _;
  stands = refl;
  number_is = refl;
  slots = refl;
  stack = refl;
  params = record { parameters = []; results = []; of_descriptor = plain_units; is = refl };
  nodes = (
    node_is (program_with gets_same) 4 _ main_pool gets_same_code _ _ _ 0 refl refl _ refl _ (field_row _ _ _ _ _ refl door_type) 0 refl refl (record { names = (names_gate gets_same); is = refl }) refl tt
        (Some (codes "lib/House")) (for_class refl (codes "lib/House") _ (of_field (names_gate gets_same) refl) (record { class = _; stands = refl; named = refl }) refl refl) (throws_nothing _ refl _ refl _),
    (
      node_is (program_with gets_same) 4 _ main_pool gets_same_code _ _ _ 1 refl refl _ refl _ (call_row _ _ _ _ _ _ refl door_to_door_units) 0 refl refl (record { names = (house_named gets_same 45 11 _ _ refl refl refl refl refl); chosen = Some (method_no 11); is_chosen = refl; parameters = _; results = _; units = door_to_door_units; is = refl }) refl tt
          (Some (codes "lib/House")) (for_class refl (codes "lib/House") _ (of_method (house_named gets_same 45 11 _ _ refl refl refl refl refl) refl) (record { class = _; stands = refl; named = refl }) refl refl) (throws_nothing _ refl _ refl _),
      (
        node_is (program_with gets_same) 4 _ main_pool gets_same_code _ _ _ 2 refl refl _ refl _ refl 0 refl refl (record { moves = _; is = refl; each = are_moves_of _ _ _ refl }) refl tt
            None (no_trigger refl refl refl) (throws_nothing _ refl _ refl _),
        (
          node_is (program_with gets_same) 4 _ main_pool gets_same_code _ _ _ 3 refl refl _ refl _ refl 0 refl refl refl refl tt
              None (no_trigger refl refl refl) (throws_nothing _ refl _ refl _),
          tt,
        ),
      ),
    ),
  );
}

pub nodes_of_closes : IsLowered (program_with closes) 4 main_pool closes_code closes_graph closes_nodes
nodes_of_closes = record {
  method = _;
  stands = refl;
  number_is = refl;
  slots = refl;
  stack = refl;
  params = record { parameters = []; results = []; of_descriptor = plain_units; is = refl };
  nodes = (
    node_is (program_with closes) 4 _ main_pool closes_code _ _ _ 0 refl refl _ refl _ (field_row _ _ _ _ _ refl door_type) 0 refl refl (record { names = (names_gate closes); is = refl }) refl tt
        (Some (codes "lib/House")) (for_class refl (codes "lib/House") _ (of_field (names_gate closes) refl) (record { class = _; stands = refl; named = refl }) refl refl) (throws_nothing _ refl _ refl _),
    (
      node_is (program_with closes) 4 _ main_pool closes_code _ _ _ 1 refl refl _ refl _ (call_row _ _ _ _ _ _ refl plain_units) 0 refl refl (record { names = (names_close closes); chosen = None; is_chosen = refl; parameters = _; results = _; units = plain_units; is = refl }) refl tt
          None (no_trigger refl refl refl) (throws_nothing _ refl _ refl _),
      (
        node_is (program_with closes) 4 _ main_pool closes_code _ _ _ 2 refl refl _ refl _ (field_row _ _ _ _ _ refl door_type) 0 refl refl (record { names = (names_gate closes); is = refl }) refl tt
            (Some (codes "lib/House")) (for_class refl (codes "lib/House") _ (of_field (names_gate closes) refl) (record { class = _; stands = refl; named = refl }) refl refl) (throws_nothing _ refl _ refl _),
        (
          node_is (program_with closes) 4 _ main_pool closes_code _ _ _ 3 refl refl _ refl _ (call_row _ _ _ _ _ _ refl plain_units) 0 refl refl (record { names = (names_close closes); chosen = None; is_chosen = refl; parameters = _; results = _; units = plain_units; is = refl }) refl tt
              None (no_trigger refl refl refl) (throws_nothing _ refl _ refl _),
          (
            node_is (program_with closes) 4 _ main_pool closes_code _ _ _ 4 refl refl _ refl _ refl 0 refl refl refl refl tt
                None (no_trigger refl refl refl) (throws_nothing _ refl _ refl _),
            tt,
          ),
        ),
      ),
    ),
  );
}

pub nodes_of_shuts : IsLowered (program_with shuts) 4 main_pool shuts_code shuts_graph shuts_nodes
nodes_of_shuts = record {
  method = _;
  stands = refl;
  number_is = refl;
  slots = refl;
  stack = refl;
  params = record { parameters = []; results = []; of_descriptor = plain_units; is = refl };
  nodes = (
    node_is (program_with shuts) 4 _ main_pool shuts_code _ _ _ 0 refl refl _ refl _ (field_row _ _ _ _ _ refl door_type) 0 refl refl (record { names = (names_gate shuts); is = refl }) refl tt
        (Some (codes "lib/House")) (for_class refl (codes "lib/House") _ (of_field (names_gate shuts) refl) (record { class = _; stands = refl; named = refl }) refl refl) (throws_nothing _ refl _ refl _),
    (
      node_is (program_with shuts) 4 _ main_pool shuts_code _ _ _ 1 refl refl _ refl _ (call_row _ _ _ _ _ _ refl plain_units) 0 refl refl (record { names = (names_shut shuts); chosen = None; is_chosen = refl; parameters = _; results = _; units = plain_units; is = refl }) refl tt
          None (no_trigger refl refl refl) (throws_nothing _ refl _ refl _),
      (
        node_is (program_with shuts) 4 _ main_pool shuts_code _ _ _ 2 refl refl _ refl _ refl 0 refl refl refl refl tt
            None (no_trigger refl refl refl) (throws_nothing _ refl _ refl _),
        tt,
      ),
    ),
  );
}

pub nodes_of_gate_close : IsLowered (program_with closes) 3 gate_pool gate_close_code gate_close_graph gate_close_nodes
nodes_of_gate_close = record {
  method = _;
  stands = refl;
  number_is = refl;
  slots = refl;
  stack = refl;
  params = record { parameters = []; results = []; of_descriptor = plain_units; is = refl };
  nodes = (
    node_is (program_with closes) 3 _ gate_pool gate_close_code _ _ _ 0 refl refl _ refl _ refl 1 refl refl (record { moves = _; is = refl; each = are_moves_of _ _ _ refl }) refl tt
        None (no_trigger refl refl refl) (throws_nothing _ refl _ refl _),
    (
      node_is (program_with closes) 3 _ gate_pool gate_close_code _ _ _ 1 refl refl _ refl _ (call_row _ _ _ _ _ _ refl plain_units) 1 refl refl (record { names = (names_super closes); chosen = Some (method_no 2); is_chosen = (2, super_selected closes, refl); parameters = _; results = _; units = plain_units; is = refl }) refl tt
          None (no_trigger refl refl refl) (throws_nothing _ refl _ refl _),
      (
        node_is (program_with closes) 3 _ gate_pool gate_close_code _ _ _ 2 refl refl _ refl _ refl 1 refl refl refl refl tt
            None (no_trigger refl refl refl) (throws_nothing _ refl _ refl _),
        tt,
      ),
    ),
  );
}
