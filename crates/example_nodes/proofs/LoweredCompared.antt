-- That the nodes of methods that compare references, cast an array or put units in another order are those that the rules give.
use Rattle.std.proofs.Common.{codes, [], ◌∷◌, Some, None, refl}
use Rattle.machine_bytecode.specs.Machine.{of_class, of_field, of_references}
use Rattle.machine_bytecode.specs.Objects.{string_name}
use Rattle.example_machine.specs.Within.{main_pool, program_with, null_jump, box_jump, same_jump, other_jump, two_branch, string_branch, array_cast, shuffles}
use Rattle.example_machine.proofs.CallStart.{plain_units}
use Rattle.example_machine.proofs.Facts.{field_row}
use Rattle.example_machine.proofs.WithinStart.{names_it, box_type}
use Rattle.lowering_spec.specs.LoweredMethods.{IsLowered, no_trigger, for_class}
use Rattle.lowering_spec.specs.Operations.LoadsConstantOf.{of_string}
use Rattle.example_nodes.specs.Decoded.{null_jump_code, null_jump_graph, box_jump_code, box_jump_graph, same_jump_code, same_jump_graph, other_jump_code, other_jump_graph, two_branch_code, two_branch_graph, string_branch_code, string_branch_graph, array_cast_code, array_cast_graph, shuffles_code, shuffles_graph}
use Rattle.example_nodes.specs.Within.{null_jump_nodes, box_jump_nodes, same_jump_nodes, other_jump_nodes, two_branch_nodes, string_branch_nodes, array_cast_nodes, shuffles_nodes}
use Rattle.example_nodes.proofs.MoveLists.{are_moves_of}
use Rattle.example_nodes.proofs.NodesOf.{node_is, throws_nothing}

pub nodes_of_null_jump : IsLowered (program_with 7 null_jump) 0 main_pool null_jump_code null_jump_graph null_jump_nodes
nodes_of_null_jump = record {
  method = _;
  stands = refl;
  number_is = refl;
  slots = refl;
  stack = refl;
  params = record { parameters = []; results = []; of_descriptor = plain_units; is = refl };
  nodes = (
    node_is (program_with 7 null_jump) 0 _ main_pool null_jump_code _ _ _ 0 refl refl _ refl _ refl 0 refl refl (record { moves = _; is = refl; each = are_moves_of _ _ _ refl }) refl tt
        None (no_trigger refl refl refl) (throws_nothing _ refl _ refl _),
    (
      node_is (program_with 7 null_jump) 0 _ main_pool null_jump_code _ _ _ 1 refl refl _ refl _ refl 0 refl refl (record { moves = _; is = refl; each = are_moves_of _ _ _ refl }) refl tt
          None (no_trigger refl refl refl) (throws_nothing _ refl _ refl _),
      (
        node_is (program_with 7 null_jump) 0 _ main_pool null_jump_code _ _ _ 2 refl refl _ refl _ refl 0 refl refl refl refl tt
            None (no_trigger refl refl refl) (throws_nothing _ refl _ refl _),
        (
          node_is (program_with 7 null_jump) 0 _ main_pool null_jump_code _ _ _ 3 refl refl _ refl _ refl 0 refl refl refl refl tt
              None (no_trigger refl refl refl) (throws_nothing _ refl _ refl _),
          tt,
        ),
      ),
    ),
  );
}

pub nodes_of_box_jump : IsLowered (program_with 7 box_jump) 0 main_pool box_jump_code box_jump_graph box_jump_nodes
nodes_of_box_jump = record {
  method = _;
  stands = refl;
  number_is = refl;
  slots = refl;
  stack = refl;
  params = record { parameters = []; results = []; of_descriptor = plain_units; is = refl };
  nodes = (
    node_is (program_with 7 box_jump) 0 _ main_pool box_jump_code _ _ _ 0 refl refl _ refl _ (field_row _ _ _ _ _ refl box_type) 0 refl refl (record { names = (names_it box_jump); is = refl }) refl tt
        (Some (codes "lib/Box")) (for_class refl (codes "lib/Box") _ (of_field (names_it box_jump) refl) (record { class = _; stands = refl; named = refl }) refl refl) (throws_nothing _ refl _ refl _),
    (
      node_is (program_with 7 box_jump) 0 _ main_pool box_jump_code _ _ _ 1 refl refl _ refl _ refl 0 refl refl (record { moves = _; is = refl; each = are_moves_of _ _ _ refl }) refl tt
          None (no_trigger refl refl refl) (throws_nothing _ refl _ refl _),
      (
        node_is (program_with 7 box_jump) 0 _ main_pool box_jump_code _ _ _ 2 refl refl _ refl _ refl 0 refl refl refl refl tt
            None (no_trigger refl refl refl) (throws_nothing _ refl _ refl _),
        (
          node_is (program_with 7 box_jump) 0 _ main_pool box_jump_code _ _ _ 3 refl refl _ refl _ refl 0 refl refl refl refl tt
              None (no_trigger refl refl refl) (throws_nothing _ refl _ refl _),
          tt,
        ),
      ),
    ),
  );
}

pub nodes_of_same_jump : IsLowered (program_with 7 same_jump) 0 main_pool same_jump_code same_jump_graph same_jump_nodes
nodes_of_same_jump = record {
  method = _;
  stands = refl;
  number_is = refl;
  slots = refl;
  stack = refl;
  params = record { parameters = []; results = []; of_descriptor = plain_units; is = refl };
  nodes = (
    node_is (program_with 7 same_jump) 0 _ main_pool same_jump_code _ _ _ 0 refl refl _ refl _ refl 0 refl refl (record { class = _; named = refl }, refl) refl tt
        (Some (codes "lib/Box")) (for_class refl (codes "lib/Box") _ (of_class (record { class = _; named = refl }) refl) (record { class = _; stands = refl; named = refl }) refl refl) (throws_nothing _ refl _ refl _),
    (
      node_is (program_with 7 same_jump) 0 _ main_pool same_jump_code _ _ _ 1 refl refl _ refl _ refl 0 refl refl (record { moves = _; is = refl; each = are_moves_of _ _ _ refl }) refl tt
          None (no_trigger refl refl refl) (throws_nothing _ refl _ refl _),
      (
        node_is (program_with 7 same_jump) 0 _ main_pool same_jump_code _ _ _ 2 refl refl _ refl _ refl 0 refl refl (record { moves = _; is = refl; each = are_moves_of _ _ _ refl }) refl tt
            None (no_trigger refl refl refl) (throws_nothing _ refl _ refl _),
        (
          node_is (program_with 7 same_jump) 0 _ main_pool same_jump_code _ _ _ 3 refl refl _ refl _ refl 0 refl refl refl refl tt
              None (no_trigger refl refl refl) (throws_nothing _ refl _ refl _),
          (
            node_is (program_with 7 same_jump) 0 _ main_pool same_jump_code _ _ _ 4 refl refl _ refl _ refl 0 refl refl refl refl tt
                None (no_trigger refl refl refl) (throws_nothing _ refl _ refl _),
            tt,
          ),
        ),
      ),
    ),
  );
}

pub nodes_of_other_jump : IsLowered (program_with 7 other_jump) 0 main_pool other_jump_code other_jump_graph other_jump_nodes
nodes_of_other_jump = record {
  method = _;
  stands = refl;
  number_is = refl;
  slots = refl;
  stack = refl;
  params = record { parameters = []; results = []; of_descriptor = plain_units; is = refl };
  nodes = (
    node_is (program_with 7 other_jump) 0 _ main_pool other_jump_code _ _ _ 0 refl refl _ refl _ (field_row _ _ _ _ _ refl box_type) 0 refl refl (record { names = (names_it other_jump); is = refl }) refl tt
        (Some (codes "lib/Box")) (for_class refl (codes "lib/Box") _ (of_field (names_it other_jump) refl) (record { class = _; stands = refl; named = refl }) refl refl) (throws_nothing _ refl _ refl _),
    (
      node_is (program_with 7 other_jump) 0 _ main_pool other_jump_code _ _ _ 1 refl refl _ refl _ refl 1 refl refl (record { moves = _; is = refl; each = are_moves_of _ _ _ refl }) refl tt
          None (no_trigger refl refl refl) (throws_nothing _ refl _ refl _),
      (
        node_is (program_with 7 other_jump) 0 _ main_pool other_jump_code _ _ _ 2 refl refl _ refl _ refl 0 refl refl (record { moves = _; is = refl; each = are_moves_of _ _ _ refl }) refl tt
            None (no_trigger refl refl refl) (throws_nothing _ refl _ refl _),
        (
          node_is (program_with 7 other_jump) 0 _ main_pool other_jump_code _ _ _ 3 refl refl _ refl _ refl 0 refl refl refl refl tt
              None (no_trigger refl refl refl) (throws_nothing _ refl _ refl _),
          (
            node_is (program_with 7 other_jump) 0 _ main_pool other_jump_code _ _ _ 4 refl refl _ refl _ refl 0 refl refl refl refl tt
                None (no_trigger refl refl refl) (throws_nothing _ refl _ refl _),
            tt,
          ),
        ),
      ),
    ),
  );
}

pub nodes_of_two_branch : IsLowered (program_with 7 two_branch) 0 main_pool two_branch_code two_branch_graph two_branch_nodes
nodes_of_two_branch = record {
  method = _;
  stands = refl;
  number_is = refl;
  slots = refl;
  stack = refl;
  params = record { parameters = []; results = []; of_descriptor = plain_units; is = refl };
  nodes = (
    node_is (program_with 7 two_branch) 0 _ main_pool two_branch_code _ _ _ 0 refl refl _ refl _ refl 0 refl refl (record { class = _; named = refl }, refl) refl tt
        (Some (codes "lib/Box")) (for_class refl (codes "lib/Box") _ (of_class (record { class = _; named = refl }) refl) (record { class = _; stands = refl; named = refl }) refl refl) (throws_nothing _ refl _ refl _),
    (
      node_is (program_with 7 two_branch) 0 _ main_pool two_branch_code _ _ _ 1 refl refl _ refl _ refl 1 refl refl (record { class = _; named = refl }, refl) refl tt
          (Some (codes "lib/Box")) (for_class refl (codes "lib/Box") _ (of_class (record { class = _; named = refl }) refl) (record { class = _; stands = refl; named = refl }) refl refl) (throws_nothing _ refl _ refl _),
      (
        node_is (program_with 7 two_branch) 0 _ main_pool two_branch_code _ _ _ 2 refl refl _ refl _ refl 0 refl refl (record { moves = _; is = refl; each = are_moves_of _ _ _ refl }) refl tt
            None (no_trigger refl refl refl) (throws_nothing _ refl _ refl _),
        (
          node_is (program_with 7 two_branch) 0 _ main_pool two_branch_code _ _ _ 3 refl refl _ refl _ refl 0 refl refl refl refl tt
              None (no_trigger refl refl refl) (throws_nothing _ refl _ refl _),
          (
            node_is (program_with 7 two_branch) 0 _ main_pool two_branch_code _ _ _ 4 refl refl _ refl _ refl 0 refl refl refl refl tt
                None (no_trigger refl refl refl) (throws_nothing _ refl _ refl _),
            tt,
          ),
        ),
      ),
    ),
  );
}

pub nodes_of_string_branch : IsLowered (program_with 7 string_branch) 0 main_pool string_branch_code string_branch_graph string_branch_nodes
nodes_of_string_branch = record {
  method = _;
  stands = refl;
  number_is = refl;
  slots = refl;
  stack = refl;
  params = record { parameters = []; results = []; of_descriptor = plain_units; is = refl };
  nodes = (
    node_is (program_with 7 string_branch) 0 _ main_pool string_branch_code _ _ _ 0 refl refl _ refl _ refl 0 refl refl (string_name, of_string 6 refl refl, refl) refl tt
        None (no_trigger refl refl refl) (throws_nothing _ refl _ refl _),
    (
      node_is (program_with 7 string_branch) 0 _ main_pool string_branch_code _ _ _ 1 refl refl _ refl _ refl 1 refl refl (string_name, of_string 6 refl refl, refl) refl tt
          None (no_trigger refl refl refl) (throws_nothing _ refl _ refl _),
      (
        node_is (program_with 7 string_branch) 0 _ main_pool string_branch_code _ _ _ 2 refl refl _ refl _ refl 0 refl refl (record { moves = _; is = refl; each = are_moves_of _ _ _ refl }) refl tt
            None (no_trigger refl refl refl) (throws_nothing _ refl _ refl _),
        (
          node_is (program_with 7 string_branch) 0 _ main_pool string_branch_code _ _ _ 3 refl refl _ refl _ refl 0 refl refl refl refl tt
              None (no_trigger refl refl refl) (throws_nothing _ refl _ refl _),
          (
            node_is (program_with 7 string_branch) 0 _ main_pool string_branch_code _ _ _ 4 refl refl _ refl _ refl 0 refl refl refl refl tt
                None (no_trigger refl refl refl) (throws_nothing _ refl _ refl _),
            tt,
          ),
        ),
      ),
    ),
  );
}

pub nodes_of_array_cast : IsLowered (program_with 7 array_cast) 0 main_pool array_cast_code array_cast_graph array_cast_nodes
nodes_of_array_cast = record {
  method = _;
  stands = refl;
  number_is = refl;
  slots = refl;
  stack = refl;
  params = record { parameters = []; results = []; of_descriptor = plain_units; is = refl };
  nodes = (
    node_is (program_with 7 array_cast) 0 _ main_pool array_cast_code _ _ _ 0 refl refl _ refl _ refl 0 refl refl (record { moves = _; is = refl; each = are_moves_of _ _ _ refl }) refl tt
        None (no_trigger refl refl refl) (throws_nothing _ refl _ refl _),
    (
      node_is (program_with 7 array_cast) 0 _ main_pool array_cast_code _ _ _ 1 refl refl _ refl _ refl 0 refl refl (codes "[Llib/Box;" ∷ [], of_references refl (record { class = _; named = refl }) refl, refl) refl tt
          None (no_trigger refl refl refl) (throws_nothing _ refl _ refl _),
      (
        node_is (program_with 7 array_cast) 0 _ main_pool array_cast_code _ _ _ 2 refl refl _ refl _ refl 0 refl refl (record { class = _; named = refl }, refl) refl tt
            None (no_trigger refl refl refl) (throws_nothing _ refl _ refl _),
        (
          node_is (program_with 7 array_cast) 0 _ main_pool array_cast_code _ _ _ 3 refl refl _ refl _ refl 0 refl refl (record { moves = _; is = refl; each = are_moves_of _ _ _ refl }) refl tt
              None (no_trigger refl refl refl) (throws_nothing _ refl _ refl _),
          (
            node_is (program_with 7 array_cast) 0 _ main_pool array_cast_code _ _ _ 4 refl refl _ refl _ refl 0 refl refl refl refl tt
                None (no_trigger refl refl refl) (throws_nothing _ refl _ refl _),
            tt,
          ),
        ),
      ),
    ),
  );
}

pub nodes_of_shuffles : IsLowered (program_with 7 shuffles) 0 main_pool shuffles_code shuffles_graph shuffles_nodes
nodes_of_shuffles = record {
  method = _;
  stands = refl;
  number_is = refl;
  slots = refl;
  stack = refl;
  params = record { parameters = []; results = []; of_descriptor = plain_units; is = refl };
  nodes = (
    node_is (program_with 7 shuffles) 0 _ main_pool shuffles_code _ _ _ 0 refl refl _ refl _ refl 0 refl refl (record { moves = _; is = refl; each = are_moves_of _ _ _ refl }) refl tt
        None (no_trigger refl refl refl) (throws_nothing _ refl _ refl _),
    (
      node_is (program_with 7 shuffles) 0 _ main_pool shuffles_code _ _ _ 1 refl refl _ refl _ refl 1 refl refl (record { moves = _; is = refl; each = are_moves_of _ _ _ refl }) refl tt
          None (no_trigger refl refl refl) (throws_nothing _ refl _ refl _),
      (
        node_is (program_with 7 shuffles) 0 _ main_pool shuffles_code _ _ _ 2 refl refl _ refl _ refl 0 refl refl (record { moves = _; is = refl; each = are_moves_of _ _ _ refl }) refl tt
            None (no_trigger refl refl refl) (throws_nothing _ refl _ refl _),
        (
          node_is (program_with 7 shuffles) 0 _ main_pool shuffles_code _ _ _ 3 refl refl _ refl _ refl 0 refl refl (record { moves = _; is = refl; each = are_moves_of _ _ _ refl }) refl tt
              None (no_trigger refl refl refl) (throws_nothing _ refl _ refl _),
          (
            node_is (program_with 7 shuffles) 0 _ main_pool shuffles_code _ _ _ 4 refl refl _ refl _ refl 2 refl refl (record { moves = _; is = refl; each = are_moves_of _ _ _ refl }) refl tt
                None (no_trigger refl refl refl) (throws_nothing _ refl _ refl _),
            (
              node_is (program_with 7 shuffles) 0 _ main_pool shuffles_code _ _ _ 5 refl refl _ refl _ refl 3 refl refl (record { moves = _; is = refl; each = are_moves_of _ _ _ refl }) refl tt
                  None (no_trigger refl refl refl) (throws_nothing _ refl _ refl _),
              (
                node_is (program_with 7 shuffles) 0 _ main_pool shuffles_code _ _ _ 6 refl refl _ refl _ refl 4 refl refl (record { moves = _; is = refl; each = are_moves_of _ _ _ refl }) refl tt
                    None (no_trigger refl refl refl) (throws_nothing _ refl _ refl _),
                (
                  node_is (program_with 7 shuffles) 0 _ main_pool shuffles_code _ _ _ 7 refl refl _ refl _ refl 8 refl refl (record { moves = _; is = refl; each = are_moves_of _ _ _ refl }) refl tt
                      None (no_trigger refl refl refl) (throws_nothing _ refl _ refl _),
                  (
                    node_is (program_with 7 shuffles) 0 _ main_pool shuffles_code _ _ _ 8 refl refl _ refl _ refl 10 refl refl refl refl tt
                        None (no_trigger refl refl refl) (throws_nothing _ refl _ refl _),
                    tt,
                  ),
                ),
              ),
            ),
          ),
        ),
      ),
    ),
  );
}
