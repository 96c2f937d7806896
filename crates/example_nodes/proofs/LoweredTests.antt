-- That the nodes of methods that test, load other constants, or look at objects are those that the rules give.
use Rattle.std.proofs.Common.{codes, [], ◌∷◌, Some, None, refl}
use Rattle.machine_bytecode.specs.Machine.{of_field, of_primitives}
use Rattle.example_machine.specs.Within.{main_pool, program_with, branch, numbers, null_cast, null_branch, box_branch, same_branch, other_branch, lookup, class_constant, monitor, first_number}
use Rattle.example_machine.proofs.CallStart.{plain_units}
use Rattle.example_machine.proofs.Facts.{field_row}
use Rattle.example_machine.proofs.WithinStart.{names_it, box_type}
use Rattle.lowering_spec.specs.LoweredMethods.{IsLowered, no_trigger, for_class}
use Rattle.lowering_spec.specs.Operations.LoadsConstantOf.{of_class as loads_class}
use Rattle.example_nodes.specs.Decoded.{branch_code, branch_graph, numbers_code, numbers_graph, null_cast_code, null_cast_graph, null_branch_code, null_branch_graph, box_branch_code, box_branch_graph, same_branch_code, same_branch_graph, other_branch_code, other_branch_graph, lookup_code, lookup_graph, class_constant_code, class_constant_graph, monitor_code, monitor_graph, first_number_code, first_number_graph}
use Rattle.example_nodes.specs.Within.{branch_nodes, numbers_nodes, null_cast_nodes, null_branch_nodes, box_branch_nodes, same_branch_nodes, other_branch_nodes, lookup_nodes, class_constant_nodes, monitor_nodes, first_number_nodes}
use Rattle.example_nodes.proofs.MoveLists.{are_moves_of}
use Rattle.example_nodes.proofs.NodesOf.{node_is, throws_nothing}

pub nodes_of_branch : IsLowered (program_with 7 branch) 0 main_pool branch_code branch_graph branch_nodes
nodes_of_branch = record {
  method = _;
  stands = refl;
  number_is = refl;
  slots = refl;
  stack = refl;
  params = record { parameters = []; results = []; of_descriptor = plain_units; is = refl };
  nodes = (
    node_is (program_with 7 branch) 0 _ main_pool branch_code _ _ _ 0 refl refl _ refl _ refl 0 refl refl (record { moves = _; is = refl; each = are_moves_of _ _ _ refl }) refl tt
        None (no_trigger refl refl refl) (throws_nothing _ refl _ refl _),
    (
      node_is (program_with 7 branch) 0 _ main_pool branch_code _ _ _ 1 refl refl _ refl _ refl 0 refl refl (record { moves = _; is = refl; each = are_moves_of _ _ _ refl }) refl tt
          None (no_trigger refl refl refl) (throws_nothing _ refl _ refl _),
      (
        node_is (program_with 7 branch) 0 _ main_pool branch_code _ _ _ 2 refl refl _ refl _ refl 0 refl refl (record { moves = _; is = refl; each = are_moves_of _ _ _ refl }) refl tt
            None (no_trigger refl refl refl) (throws_nothing _ refl _ refl _),
        (
          node_is (program_with 7 branch) 0 _ main_pool branch_code _ _ _ 3 refl refl _ refl _ refl 0 refl refl refl refl tt
              None (no_trigger refl refl refl) (throws_nothing _ refl _ refl _),
          tt,
        ),
      ),
    ),
  );
}

pub nodes_of_numbers : IsLowered (program_with 7 numbers) 0 main_pool numbers_code numbers_graph numbers_nodes
nodes_of_numbers = record {
  method = _;
  stands = refl;
  number_is = refl;
  slots = refl;
  stack = refl;
  params = record { parameters = []; results = []; of_descriptor = plain_units; is = refl };
  nodes = (
    node_is (program_with 7 numbers) 0 _ main_pool numbers_code _ _ _ 0 refl refl _ refl _ refl 0 refl refl (record { moves = _; is = refl; each = are_moves_of _ _ _ refl }) refl tt
        None (no_trigger refl refl refl) (throws_nothing _ refl _ refl _),
    (
      node_is (program_with 7 numbers) 0 _ main_pool numbers_code _ _ _ 1 refl refl _ refl _ refl 0 refl refl (codes "[I" ∷ [], of_primitives refl refl, refl) refl tt
          None (no_trigger refl refl refl) (throws_nothing _ refl _ refl _),
      (
        node_is (program_with 7 numbers) 0 _ main_pool numbers_code _ _ _ 2 refl refl _ refl _ refl 0 refl refl refl refl tt
            None (no_trigger refl refl refl) (throws_nothing _ refl _ refl _),
        (
          node_is (program_with 7 numbers) 0 _ main_pool numbers_code _ _ _ 3 refl refl _ refl _ refl 0 refl refl (record { moves = _; is = refl; each = are_moves_of _ _ _ refl }) refl tt
              None (no_trigger refl refl refl) (throws_nothing _ refl _ refl _),
          (
            node_is (program_with 7 numbers) 0 _ main_pool numbers_code _ _ _ 4 refl refl _ refl _ refl 0 refl refl refl refl tt
                None (no_trigger refl refl refl) (throws_nothing _ refl _ refl _),
            tt,
          ),
        ),
      ),
    ),
  );
}

pub nodes_of_null_cast : IsLowered (program_with 7 null_cast) 0 main_pool null_cast_code null_cast_graph null_cast_nodes
nodes_of_null_cast = record {
  method = _;
  stands = refl;
  number_is = refl;
  slots = refl;
  stack = refl;
  params = record { parameters = []; results = []; of_descriptor = plain_units; is = refl };
  nodes = (
    node_is (program_with 7 null_cast) 0 _ main_pool null_cast_code _ _ _ 0 refl refl _ refl _ refl 0 refl refl (record { moves = _; is = refl; each = are_moves_of _ _ _ refl }) refl tt
        None (no_trigger refl refl refl) (throws_nothing _ refl _ refl _),
    (
      node_is (program_with 7 null_cast) 0 _ main_pool null_cast_code _ _ _ 1 refl refl _ refl _ refl 0 refl refl (record { class = _; named = refl }, refl) refl tt
          None (no_trigger refl refl refl) (throws_nothing _ refl _ refl _),
      (
        node_is (program_with 7 null_cast) 0 _ main_pool null_cast_code _ _ _ 2 refl refl _ refl _ refl 0 refl refl (record { moves = _; is = refl; each = are_moves_of _ _ _ refl }) refl tt
            None (no_trigger refl refl refl) (throws_nothing _ refl _ refl _),
        (
          node_is (program_with 7 null_cast) 0 _ main_pool null_cast_code _ _ _ 3 refl refl _ refl _ refl 0 refl refl refl refl tt
              None (no_trigger refl refl refl) (throws_nothing _ refl _ refl _),
          tt,
        ),
      ),
    ),
  );
}

pub nodes_of_null_branch : IsLowered (program_with 7 null_branch) 0 main_pool null_branch_code null_branch_graph null_branch_nodes
nodes_of_null_branch = record {
  method = _;
  stands = refl;
  number_is = refl;
  slots = refl;
  stack = refl;
  params = record { parameters = []; results = []; of_descriptor = plain_units; is = refl };
  nodes = (
    node_is (program_with 7 null_branch) 0 _ main_pool null_branch_code _ _ _ 0 refl refl _ refl _ refl 0 refl refl (record { moves = _; is = refl; each = are_moves_of _ _ _ refl }) refl tt
        None (no_trigger refl refl refl) (throws_nothing _ refl _ refl _),
    (
      node_is (program_with 7 null_branch) 0 _ main_pool null_branch_code _ _ _ 1 refl refl _ refl _ refl 0 refl refl (record { moves = _; is = refl; each = are_moves_of _ _ _ refl }) refl tt
          None (no_trigger refl refl refl) (throws_nothing _ refl _ refl _),
      (
        node_is (program_with 7 null_branch) 0 _ main_pool null_branch_code _ _ _ 2 refl refl _ refl _ refl 0 refl refl refl refl tt
            None (no_trigger refl refl refl) (throws_nothing _ refl _ refl _),
        (
          node_is (program_with 7 null_branch) 0 _ main_pool null_branch_code _ _ _ 3 refl refl _ refl _ refl 0 refl refl refl refl tt
              None (no_trigger refl refl refl) (throws_nothing _ refl _ refl _),
          tt,
        ),
      ),
    ),
  );
}

pub nodes_of_box_branch : IsLowered (program_with 7 box_branch) 0 main_pool box_branch_code box_branch_graph box_branch_nodes
nodes_of_box_branch = record {
  method = _;
  stands = refl;
  number_is = refl;
  slots = refl;
  stack = refl;
  params = record { parameters = []; results = []; of_descriptor = plain_units; is = refl };
  nodes = (
    node_is (program_with 7 box_branch) 0 _ main_pool box_branch_code _ _ _ 0 refl refl _ refl _ (field_row _ _ _ _ _ refl box_type) 0 refl refl (record { names = (names_it box_branch); is = refl }) refl tt
        (Some (codes "lib/Box")) (for_class refl (codes "lib/Box") _ (of_field (names_it box_branch) refl) (record { class = _; stands = refl; named = refl }) refl refl) (throws_nothing _ refl _ refl _),
    (
      node_is (program_with 7 box_branch) 0 _ main_pool box_branch_code _ _ _ 1 refl refl _ refl _ refl 0 refl refl (record { moves = _; is = refl; each = are_moves_of _ _ _ refl }) refl tt
          None (no_trigger refl refl refl) (throws_nothing _ refl _ refl _),
      (
        node_is (program_with 7 box_branch) 0 _ main_pool box_branch_code _ _ _ 2 refl refl _ refl _ refl 0 refl refl refl refl tt
            None (no_trigger refl refl refl) (throws_nothing _ refl _ refl _),
        (
          node_is (program_with 7 box_branch) 0 _ main_pool box_branch_code _ _ _ 3 refl refl _ refl _ refl 0 refl refl refl refl tt
              None (no_trigger refl refl refl) (throws_nothing _ refl _ refl _),
          tt,
        ),
      ),
    ),
  );
}

pub nodes_of_same_branch : IsLowered (program_with 7 same_branch) 0 main_pool same_branch_code same_branch_graph same_branch_nodes
nodes_of_same_branch = record {
  method = _;
  stands = refl;
  number_is = refl;
  slots = refl;
  stack = refl;
  params = record { parameters = []; results = []; of_descriptor = plain_units; is = refl };
  nodes = (
    node_is (program_with 7 same_branch) 0 _ main_pool same_branch_code _ _ _ 0 refl refl _ refl _ (field_row _ _ _ _ _ refl box_type) 0 refl refl (record { names = (names_it same_branch); is = refl }) refl tt
        (Some (codes "lib/Box")) (for_class refl (codes "lib/Box") _ (of_field (names_it same_branch) refl) (record { class = _; stands = refl; named = refl }) refl refl) (throws_nothing _ refl _ refl _),
    (
      node_is (program_with 7 same_branch) 0 _ main_pool same_branch_code _ _ _ 1 refl refl _ refl _ (field_row _ _ _ _ _ refl box_type) 1 refl refl (record { names = (names_it same_branch); is = refl }) refl tt
          (Some (codes "lib/Box")) (for_class refl (codes "lib/Box") _ (of_field (names_it same_branch) refl) (record { class = _; stands = refl; named = refl }) refl refl) (throws_nothing _ refl _ refl _),
      (
        node_is (program_with 7 same_branch) 0 _ main_pool same_branch_code _ _ _ 2 refl refl _ refl _ refl 0 refl refl (record { moves = _; is = refl; each = are_moves_of _ _ _ refl }) refl tt
            None (no_trigger refl refl refl) (throws_nothing _ refl _ refl _),
        (
          node_is (program_with 7 same_branch) 0 _ main_pool same_branch_code _ _ _ 3 refl refl _ refl _ refl 0 refl refl refl refl tt
              None (no_trigger refl refl refl) (throws_nothing _ refl _ refl _),
          (
            node_is (program_with 7 same_branch) 0 _ main_pool same_branch_code _ _ _ 4 refl refl _ refl _ refl 0 refl refl refl refl tt
                None (no_trigger refl refl refl) (throws_nothing _ refl _ refl _),
            tt,
          ),
        ),
      ),
    ),
  );
}

pub nodes_of_other_branch : IsLowered (program_with 7 other_branch) 0 main_pool other_branch_code other_branch_graph other_branch_nodes
nodes_of_other_branch = record {
  method = _;
  stands = refl;
  number_is = refl;
  slots = refl;
  stack = refl;
  params = record { parameters = []; results = []; of_descriptor = plain_units; is = refl };
  nodes = (
    node_is (program_with 7 other_branch) 0 _ main_pool other_branch_code _ _ _ 0 refl refl _ refl _ (field_row _ _ _ _ _ refl box_type) 0 refl refl (record { names = (names_it other_branch); is = refl }) refl tt
        (Some (codes "lib/Box")) (for_class refl (codes "lib/Box") _ (of_field (names_it other_branch) refl) (record { class = _; stands = refl; named = refl }) refl refl) (throws_nothing _ refl _ refl _),
    (
      node_is (program_with 7 other_branch) 0 _ main_pool other_branch_code _ _ _ 1 refl refl _ refl _ refl 1 refl refl (record { moves = _; is = refl; each = are_moves_of _ _ _ refl }) refl tt
          None (no_trigger refl refl refl) (throws_nothing _ refl _ refl _),
      (
        node_is (program_with 7 other_branch) 0 _ main_pool other_branch_code _ _ _ 2 refl refl _ refl _ refl 0 refl refl (record { moves = _; is = refl; each = are_moves_of _ _ _ refl }) refl tt
            None (no_trigger refl refl refl) (throws_nothing _ refl _ refl _),
        (
          node_is (program_with 7 other_branch) 0 _ main_pool other_branch_code _ _ _ 3 refl refl _ refl _ refl 0 refl refl refl refl tt
              None (no_trigger refl refl refl) (throws_nothing _ refl _ refl _),
          (
            node_is (program_with 7 other_branch) 0 _ main_pool other_branch_code _ _ _ 4 refl refl _ refl _ refl 0 refl refl refl refl tt
                None (no_trigger refl refl refl) (throws_nothing _ refl _ refl _),
            tt,
          ),
        ),
      ),
    ),
  );
}

pub nodes_of_lookup : IsLowered (program_with 7 lookup) 0 main_pool lookup_code lookup_graph lookup_nodes
nodes_of_lookup = record {
  method = _;
  stands = refl;
  number_is = refl;
  slots = refl;
  stack = refl;
  params = record { parameters = []; results = []; of_descriptor = plain_units; is = refl };
  nodes = (
    node_is (program_with 7 lookup) 0 _ main_pool lookup_code _ _ _ 0 refl refl _ refl _ refl 0 refl refl (record { moves = _; is = refl; each = are_moves_of _ _ _ refl }) refl tt
        None (no_trigger refl refl refl) (throws_nothing _ refl _ refl _),
    (
      node_is (program_with 7 lookup) 0 _ main_pool lookup_code _ _ _ 1 refl refl _ refl _ refl 0 refl refl (record { moves = _; is = refl; each = are_moves_of _ _ _ refl }) refl tt
          None (no_trigger refl refl refl) (throws_nothing _ refl _ refl _),
      (
        node_is (program_with 7 lookup) 0 _ main_pool lookup_code _ _ _ 2 refl refl _ refl _ refl 0 refl refl refl refl tt
            None (no_trigger refl refl refl) (throws_nothing _ refl _ refl _),
        (
          node_is (program_with 7 lookup) 0 _ main_pool lookup_code _ _ _ 3 refl refl _ refl _ refl 0 refl refl refl refl tt
              None (no_trigger refl refl refl) (throws_nothing _ refl _ refl _),
          tt,
        ),
      ),
    ),
  );
}

pub nodes_of_class_constant : IsLowered (program_with 7 class_constant) 0 main_pool class_constant_code class_constant_graph class_constant_nodes
nodes_of_class_constant = record {
  method = _;
  stands = refl;
  number_is = refl;
  slots = refl;
  stack = refl;
  params = record { parameters = []; results = []; of_descriptor = plain_units; is = refl };
  nodes = (
    node_is (program_with 7 class_constant) 0 _ main_pool class_constant_code _ _ _ 0 refl refl _ refl _ refl 0 refl refl (codes "java/lang/Class", loads_class 9 refl refl, refl) refl tt
        None (no_trigger refl refl refl) (throws_nothing _ refl _ refl _),
    (
      node_is (program_with 7 class_constant) 0 _ main_pool class_constant_code _ _ _ 1 refl refl _ refl _ refl 0 refl refl (record { moves = _; is = refl; each = are_moves_of _ _ _ refl }) refl tt
          None (no_trigger refl refl refl) (throws_nothing _ refl _ refl _),
      (
        node_is (program_with 7 class_constant) 0 _ main_pool class_constant_code _ _ _ 2 refl refl _ refl _ refl 0 refl refl refl refl tt
            None (no_trigger refl refl refl) (throws_nothing _ refl _ refl _),
        tt,
      ),
    ),
  );
}

pub nodes_of_monitor : IsLowered (program_with 7 monitor) 0 main_pool monitor_code monitor_graph monitor_nodes
nodes_of_monitor = record {
  method = _;
  stands = refl;
  number_is = refl;
  slots = refl;
  stack = refl;
  params = record { parameters = []; results = []; of_descriptor = plain_units; is = refl };
  nodes = (
    node_is (program_with 7 monitor) 0 _ main_pool monitor_code _ _ _ 0 refl refl _ refl _ (field_row _ _ _ _ _ refl box_type) 0 refl refl (record { names = (names_it monitor); is = refl }) refl tt
        (Some (codes "lib/Box")) (for_class refl (codes "lib/Box") _ (of_field (names_it monitor) refl) (record { class = _; stands = refl; named = refl }) refl refl) (throws_nothing _ refl _ refl _),
    (
      node_is (program_with 7 monitor) 0 _ main_pool monitor_code _ _ _ 1 refl refl _ refl _ refl 0 refl refl refl refl tt
          None (no_trigger refl refl refl) (throws_nothing _ refl _ refl _),
      (
        node_is (program_with 7 monitor) 0 _ main_pool monitor_code _ _ _ 2 refl refl _ refl _ (field_row _ _ _ _ _ refl box_type) 0 refl refl (record { names = (names_it monitor); is = refl }) refl tt
            (Some (codes "lib/Box")) (for_class refl (codes "lib/Box") _ (of_field (names_it monitor) refl) (record { class = _; stands = refl; named = refl }) refl refl) (throws_nothing _ refl _ refl _),
        (
          node_is (program_with 7 monitor) 0 _ main_pool monitor_code _ _ _ 3 refl refl _ refl _ refl 0 refl refl refl refl tt
              None (no_trigger refl refl refl) (throws_nothing _ refl _ refl _),
          (
            node_is (program_with 7 monitor) 0 _ main_pool monitor_code _ _ _ 4 refl refl _ refl _ refl 0 refl refl refl refl tt
                None (no_trigger refl refl refl) (throws_nothing _ refl _ refl _),
            tt,
          ),
        ),
      ),
    ),
  );
}

pub nodes_of_first_number : IsLowered (program_with 7 first_number) 0 main_pool first_number_code first_number_graph first_number_nodes
nodes_of_first_number = record {
  method = _;
  stands = refl;
  number_is = refl;
  slots = refl;
  stack = refl;
  params = record { parameters = []; results = []; of_descriptor = plain_units; is = refl };
  nodes = (
    node_is (program_with 7 first_number) 0 _ main_pool first_number_code _ _ _ 0 refl refl _ refl _ refl 0 refl refl (record { moves = _; is = refl; each = are_moves_of _ _ _ refl }) refl tt
        None (no_trigger refl refl refl) (throws_nothing _ refl _ refl _),
    (
      node_is (program_with 7 first_number) 0 _ main_pool first_number_code _ _ _ 1 refl refl _ refl _ refl 0 refl refl (codes "[I" ∷ [], of_primitives refl refl, refl) refl tt
          None (no_trigger refl refl refl) (throws_nothing _ refl _ refl _),
      (
        node_is (program_with 7 first_number) 0 _ main_pool first_number_code _ _ _ 2 refl refl _ refl _ refl 1 refl refl (record { moves = _; is = refl; each = are_moves_of _ _ _ refl }) refl tt
            None (no_trigger refl refl refl) (throws_nothing _ refl _ refl _),
        (
          node_is (program_with 7 first_number) 0 _ main_pool first_number_code _ _ _ 3 refl refl _ refl _ refl 0 refl refl refl refl tt
              None (no_trigger refl refl refl) (throws_nothing _ refl _ refl _),
          (
            node_is (program_with 7 first_number) 0 _ main_pool first_number_code _ _ _ 4 refl refl _ refl _ refl 0 refl refl (record { moves = _; is = refl; each = are_moves_of _ _ _ refl }) refl tt
                None (no_trigger refl refl refl) (throws_nothing _ refl _ refl _),
            (
              node_is (program_with 7 first_number) 0 _ main_pool first_number_code _ _ _ 5 refl refl _ refl _ refl 0 refl refl refl refl tt
                  None (no_trigger refl refl refl) (throws_nothing _ refl _ refl _),
              tt,
            ),
          ),
        ),
      ),
    ),
  );
}
