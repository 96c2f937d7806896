-- That the nodes of other methods with calls are those that the rules give.
use Rattle.std.proofs.Common.{codes, [], ◌∷◌, Some, None, refl}
use Rattle.machine_bytecode.specs.Machine.{of_field, of_method, of_primitives}
use Rattle.example_machine.specs.Building.{handler as covers}
use Rattle.example_machine.specs.Calling.{main_pool, program_with, closes, hashes, rings, keeps, fails, closes_by_interface, gets_none, gets_fresh, calls_same}
use Rattle.example_machine.proofs.CallStart.{plain_units, int_units, int_to_int_units, door_units, from_door_units, door_type, names_gate, names_hash, names_interface_close, house_named}
use Rattle.example_machine.proofs.Facts.{call_row, field_row}
use Rattle.example_machine.proofs.CallRuns.{names_same}
use Rattle.lowering_spec.specs.LoweredMethods.IsCatch.{of_class as caught_class}
use Rattle.lowering_spec.specs.LoweredMethods.{IsLowered, no_trigger, for_class}
use Rattle.example_nodes.specs.DecodedCalls.{hashes_code, hashes_graph, rings_code, rings_graph, keeps_code, keeps_graph, fails_code, fails_graph, closes_by_interface_code, closes_by_interface_graph, gets_none_code, gets_none_graph, gets_fresh_code, gets_fresh_graph, calls_same_code, calls_same_graph, same_code, same_graph, door_close_code, door_close_graph}
use Rattle.example_nodes.specs.Calling.{hashes_nodes, rings_nodes, keeps_nodes, fails_nodes, closes_by_interface_nodes, gets_none_nodes, gets_fresh_nodes, calls_same_nodes, same_nodes, returns_only}
use Rattle.example_nodes.specs.Lowering.{method_no}
use Rattle.example_nodes.proofs.MoveLists.{are_moves_of}
use Rattle.example_nodes.proofs.NodesOf.{node_is, throws_nothing}

pub nodes_of_hashes : IsLowered (program_with hashes) 4 main_pool hashes_code hashes_graph hashes_nodes
nodes_of_hashes = record {
  method = _;
  stands = refl;
  number_is = refl;
  slots = refl;
  stack = refl;
  params = record { parameters = []; results = []; of_descriptor = plain_units; is = refl };
  nodes = (
    node_is (program_with hashes) 4 _ main_pool hashes_code _ _ _ 0 refl refl _ refl _ refl 0 refl refl (record { moves = _; is = refl; each = are_moves_of _ _ _ refl }) refl tt
        None (no_trigger refl refl refl) (throws_nothing _ refl _ refl _),
    (
      node_is (program_with hashes) 4 _ main_pool hashes_code _ _ _ 1 refl refl _ refl _ refl 0 refl refl (codes "[I" ∷ [], of_primitives refl refl, refl) refl tt
          None (no_trigger refl refl refl) (throws_nothing _ refl _ refl _),
      (
        node_is (program_with hashes) 4 _ main_pool hashes_code _ _ _ 2 refl refl _ refl _ (call_row _ _ _ _ _ _ refl int_units) 0 refl refl (record { names = (names_hash hashes); chosen = None; is_chosen = refl; parameters = _; results = _; units = int_units; is = refl }) refl tt
            None (no_trigger refl refl refl) (throws_nothing _ refl _ refl _),
        (
          node_is (program_with hashes) 4 _ main_pool hashes_code _ _ _ 3 refl refl _ refl _ refl 0 refl refl (record { moves = _; is = refl; each = are_moves_of _ _ _ refl }) refl tt
              None (no_trigger refl refl refl) (throws_nothing _ refl _ refl _),
          (
            node_is (program_with hashes) 4 _ main_pool hashes_code _ _ _ 4 refl refl _ refl _ refl 0 refl refl refl refl tt
                None (no_trigger refl refl refl) (throws_nothing _ refl _ refl _),
            tt,
          ),
        ),
      ),
    ),
  );
}

pub nodes_of_rings : IsLowered (program_with rings) 4 main_pool rings_code rings_graph rings_nodes
nodes_of_rings = record {
  method = _;
  stands = refl;
  number_is = refl;
  slots = refl;
  stack = refl;
  params = record { parameters = []; results = []; of_descriptor = plain_units; is = refl };
  nodes = (
    node_is (program_with rings) 4 _ main_pool rings_code _ _ _ 0 refl refl _ refl _ (call_row _ _ _ _ _ _ refl plain_units) 0 refl refl (record { names = (house_named rings 38 9 _ _ refl refl refl refl refl); chosen = Some (method_no 9); is_chosen = refl; parameters = _; results = _; units = plain_units; is = refl }) refl tt
        (Some (codes "lib/House")) (for_class refl (codes "lib/House") _ (of_method (house_named rings 38 9 _ _ refl refl refl refl refl) refl) (record { class = _; stands = refl; named = refl }) refl refl) (throws_nothing _ refl _ refl _),
    (
      node_is (program_with rings) 4 _ main_pool rings_code _ _ _ 1 refl refl _ refl _ refl 0 refl refl refl refl tt
          None (no_trigger refl refl refl) (throws_nothing _ refl _ refl _),
      tt,
    ),
  );
}

pub nodes_of_keeps : IsLowered (program_with keeps) 4 main_pool keeps_code keeps_graph keeps_nodes
nodes_of_keeps = record {
  method = _;
  stands = refl;
  number_is = refl;
  slots = refl;
  stack = refl;
  params = record { parameters = []; results = []; of_descriptor = plain_units; is = refl };
  nodes = (
    node_is (program_with keeps) 4 _ main_pool keeps_code _ _ _ 0 refl refl _ refl _ (field_row _ _ _ _ _ refl door_type) 0 refl refl (record { names = (names_gate keeps); is = refl }) refl tt
        (Some (codes "lib/House")) (for_class refl (codes "lib/House") _ (of_field (names_gate keeps) refl) (record { class = _; stands = refl; named = refl }) refl refl) (throws_nothing _ refl _ refl _),
    (
      node_is (program_with keeps) 4 _ main_pool keeps_code _ _ _ 1 refl refl _ refl _ (call_row _ _ _ _ _ _ refl from_door_units) 0 refl refl (record { names = (house_named keeps 52 13 _ _ refl refl refl refl refl); chosen = Some (method_no 13); is_chosen = refl; parameters = _; results = _; units = from_door_units; is = refl }) refl tt
          (Some (codes "lib/House")) (for_class refl (codes "lib/House") _ (of_method (house_named keeps 52 13 _ _ refl refl refl refl refl) refl) (record { class = _; stands = refl; named = refl }) refl refl) (throws_nothing _ refl _ refl _),
      (
        node_is (program_with keeps) 4 _ main_pool keeps_code _ _ _ 2 refl refl _ refl _ (call_row _ _ _ _ _ _ refl door_units) 0 refl refl (record { names = (house_named keeps 55 14 _ _ refl refl refl refl refl); chosen = Some (method_no 14); is_chosen = refl; parameters = _; results = _; units = door_units; is = refl }) refl tt
            (Some (codes "lib/House")) (for_class refl (codes "lib/House") _ (of_method (house_named keeps 55 14 _ _ refl refl refl refl refl) refl) (record { class = _; stands = refl; named = refl }) refl refl) (throws_nothing _ refl _ refl _),
        (
          node_is (program_with keeps) 4 _ main_pool keeps_code _ _ _ 3 refl refl _ refl _ refl 0 refl refl (record { moves = _; is = refl; each = are_moves_of _ _ _ refl }) refl tt
              None (no_trigger refl refl refl) (throws_nothing _ refl _ refl _),
          (
            node_is (program_with keeps) 4 _ main_pool keeps_code _ _ _ 4 refl refl _ refl _ refl 0 refl refl refl refl tt
                None (no_trigger refl refl refl) (throws_nothing _ refl _ refl _),
            tt,
          ),
        ),
      ),
    ),
  );
}

pub nodes_of_fails : IsLowered (program_with fails) 4 main_pool fails_code fails_graph fails_nodes
nodes_of_fails = record {
  method = _;
  stands = refl;
  number_is = refl;
  slots = refl;
  stack = refl;
  params = record { parameters = []; results = []; of_descriptor = plain_units; is = refl };
  nodes = (
    node_is (program_with fails) 4 _ main_pool fails_code _ _ _ 0 refl refl _ refl _ (call_row _ _ _ _ _ _ refl plain_units) 0 refl refl (record { names = (house_named fails 58 15 _ _ refl refl refl refl refl); chosen = Some (method_no 15); is_chosen = refl; parameters = _; results = _; units = plain_units; is = refl }) refl (record { handler = covers 0 3 4 60; stands = refl; target = refl; catch = caught_class (λ e. absurd cc) (codes "java/lang/Exception") _ refl (record { class = _; stands = refl; named = refl }) refl }, tt)
        (Some (codes "lib/House")) (for_class refl (codes "lib/House") _ (of_method (house_named fails 58 15 _ _ refl refl refl refl refl) refl) (record { class = _; stands = refl; named = refl }) refl refl) (throws_nothing _ refl _ refl _),
    (
      node_is (program_with fails) 4 _ main_pool fails_code _ _ _ 1 refl refl _ refl _ refl 0 refl refl refl refl tt
          None (no_trigger refl refl refl) (throws_nothing _ refl _ refl _),
      (
        node_is (program_with fails) 4 _ main_pool fails_code _ _ _ 2 refl refl _ refl _ refl 0 refl refl (record { moves = _; is = refl; each = are_moves_of _ _ _ refl }) refl tt
            None (no_trigger refl refl refl) (throws_nothing _ refl _ refl _),
        (
          node_is (program_with fails) 4 _ main_pool fails_code _ _ _ 3 refl refl _ refl _ refl 0 refl refl refl refl tt
              None (no_trigger refl refl refl) (throws_nothing _ refl _ refl _),
          tt,
        ),
      ),
    ),
  );
}

pub nodes_of_closes_by_interface : IsLowered (program_with closes_by_interface) 4 main_pool closes_by_interface_code closes_by_interface_graph closes_by_interface_nodes
nodes_of_closes_by_interface = record {
  method = _;
  stands = refl;
  number_is = refl;
  slots = refl;
  stack = refl;
  params = record { parameters = []; results = []; of_descriptor = plain_units; is = refl };
  nodes = (
    node_is (program_with closes_by_interface) 4 _ main_pool closes_by_interface_code _ _ _ 0 refl refl _ refl _ (field_row _ _ _ _ _ refl door_type) 0 refl refl (record { names = (names_gate closes_by_interface); is = refl }) refl tt
        (Some (codes "lib/House")) (for_class refl (codes "lib/House") _ (of_field (names_gate closes_by_interface) refl) (record { class = _; stands = refl; named = refl }) refl refl) (throws_nothing _ refl _ refl _),
    (
      node_is (program_with closes_by_interface) 4 _ main_pool closes_by_interface_code _ _ _ 1 refl refl _ refl _ (call_row _ _ _ _ _ _ refl plain_units) 0 refl refl (record { names = (names_interface_close closes_by_interface); chosen = None; is_chosen = refl; parameters = _; results = _; units = plain_units; is = refl }) refl tt
          None (no_trigger refl refl refl) (throws_nothing _ refl _ refl _),
      (
        node_is (program_with closes_by_interface) 4 _ main_pool closes_by_interface_code _ _ _ 2 refl refl _ refl _ refl 0 refl refl refl refl tt
            None (no_trigger refl refl refl) (throws_nothing _ refl _ refl _),
        tt,
      ),
    ),
  );
}

pub nodes_of_gets_none : IsLowered (program_with gets_none) 4 main_pool gets_none_code gets_none_graph gets_none_nodes
nodes_of_gets_none = record {
  method = _;
  stands = refl;
  number_is = refl;
  slots = refl;
  stack = refl;
  params = record { parameters = []; results = []; of_descriptor = plain_units; is = refl };
  nodes = (
    node_is (program_with gets_none) 4 _ main_pool gets_none_code _ _ _ 0 refl refl _ refl _ (call_row _ _ _ _ _ _ refl door_units) 0 refl refl (record { names = (house_named gets_none 42 10 _ _ refl refl refl refl refl); chosen = Some (method_no 10); is_chosen = refl; parameters = _; results = _; units = door_units; is = refl }) refl tt
        (Some (codes "lib/House")) (for_class refl (codes "lib/House") _ (of_method (house_named gets_none 42 10 _ _ refl refl refl refl refl) refl) (record { class = _; stands = refl; named = refl }) refl refl) (throws_nothing _ refl _ refl _),
    (
      node_is (program_with gets_none) 4 _ main_pool gets_none_code _ _ _ 1 refl refl _ refl _ refl 0 refl refl (record { moves = _; is = refl; each = are_moves_of _ _ _ refl }) refl tt
          None (no_trigger refl refl refl) (throws_nothing _ refl _ refl _),
      (
        node_is (program_with gets_none) 4 _ main_pool gets_none_code _ _ _ 2 refl refl _ refl _ refl 0 refl refl refl refl tt
            None (no_trigger refl refl refl) (throws_nothing _ refl _ refl _),
        tt,
      ),
    ),
  );
}

pub nodes_of_gets_fresh : IsLowered (program_with gets_fresh) 4 main_pool gets_fresh_code gets_fresh_graph gets_fresh_nodes
nodes_of_gets_fresh = record {
  method = _;
  stands = refl;
  number_is = refl;
  slots = refl;
  stack = refl;
  params = record { parameters = []; results = []; of_descriptor = plain_units; is = refl };
  nodes = (
    node_is (program_with gets_fresh) 4 _ main_pool gets_fresh_code _ _ _ 0 refl refl _ refl _ (call_row _ _ _ _ _ _ refl door_units) 0 refl refl (record { names = (house_named gets_fresh 48 12 _ _ refl refl refl refl refl); chosen = Some (method_no 12); is_chosen = refl; parameters = _; results = _; units = door_units; is = refl }) refl tt
        (Some (codes "lib/House")) (for_class refl (codes "lib/House") _ (of_method (house_named gets_fresh 48 12 _ _ refl refl refl refl refl) refl) (record { class = _; stands = refl; named = refl }) refl refl) (throws_nothing _ refl _ refl _),
    (
      node_is (program_with gets_fresh) 4 _ main_pool gets_fresh_code _ _ _ 1 refl refl _ refl _ refl 0 refl refl (record { moves = _; is = refl; each = are_moves_of _ _ _ refl }) refl tt
          None (no_trigger refl refl refl) (throws_nothing _ refl _ refl _),
      (
        node_is (program_with gets_fresh) 4 _ main_pool gets_fresh_code _ _ _ 2 refl refl _ refl _ refl 0 refl refl refl refl tt
            None (no_trigger refl refl refl) (throws_nothing _ refl _ refl _),
        tt,
      ),
    ),
  );
}

pub nodes_of_calls_same : IsLowered (program_with calls_same) 4 main_pool calls_same_code calls_same_graph calls_same_nodes
nodes_of_calls_same = record {
  method = _;
  stands = refl;
  number_is = refl;
  slots = refl;
  stack = refl;
  params = record { parameters = []; results = []; of_descriptor = plain_units; is = refl };
  nodes = (
    node_is (program_with calls_same) 4 _ main_pool calls_same_code _ _ _ 0 refl refl _ refl _ refl 0 refl refl (record { moves = _; is = refl; each = are_moves_of _ _ _ refl }) refl tt
        None (no_trigger refl refl refl) (throws_nothing _ refl _ refl _),
    (
      node_is (program_with calls_same) 4 _ main_pool calls_same_code _ _ _ 1 refl refl _ refl _ (call_row _ _ _ _ _ _ refl int_to_int_units) 0 refl refl (record { names = names_same; chosen = Some (method_no 5); is_chosen = refl; parameters = _; results = _; units = int_to_int_units; is = refl }) refl tt
          (Some (codes "Main")) (for_class refl (codes "Main") _ (of_method names_same refl) (record { class = _; stands = refl; named = refl }) refl refl) (throws_nothing _ refl _ refl _),
      (
        node_is (program_with calls_same) 4 _ main_pool calls_same_code _ _ _ 2 refl refl _ refl _ refl 0 refl refl (record { moves = _; is = refl; each = are_moves_of _ _ _ refl }) refl tt
            None (no_trigger refl refl refl) (throws_nothing _ refl _ refl _),
        (
          node_is (program_with calls_same) 4 _ main_pool calls_same_code _ _ _ 3 refl refl _ refl _ refl 0 refl refl refl refl tt
              None (no_trigger refl refl refl) (throws_nothing _ refl _ refl _),
          tt,
        ),
      ),
    ),
  );
}

pub nodes_of_same : IsLowered (program_with calls_same) 5 main_pool same_code same_graph same_nodes
nodes_of_same = record {
  method = _;
  stands = refl;
  number_is = refl;
  slots = refl;
  stack = refl;
  params = record { parameters = _; results = _; of_descriptor = int_to_int_units; is = refl };
  nodes = (
    node_is (program_with calls_same) 5 _ main_pool same_code _ _ _ 0 refl refl _ refl _ refl 1 refl refl (record { moves = _; is = refl; each = are_moves_of _ _ _ refl }) refl tt
        None (no_trigger refl refl refl) (throws_nothing _ refl _ refl _),
    (
      node_is (program_with calls_same) 5 _ main_pool same_code _ _ _ 1 refl refl _ refl _ refl 1 refl refl refl refl tt
          None (no_trigger refl refl refl) (throws_nothing _ refl _ refl _),
      tt,
    ),
  );
}

pub nodes_of_door_close : IsLowered (program_with closes) 2 [] door_close_code door_close_graph (returns_only 2)
nodes_of_door_close = record {
  method = _;
  stands = refl;
  number_is = refl;
  slots = refl;
  stack = refl;
  params = record { parameters = []; results = []; of_descriptor = plain_units; is = refl };
  nodes = (
    node_is (program_with closes) 2 _ [] door_close_code _ _ _ 0 refl refl _ refl _ refl 1 refl refl refl refl tt
        None (no_trigger refl refl refl) (throws_nothing _ refl _ refl _),
    tt,
  );
}
