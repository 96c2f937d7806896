-- That the nodes of some methods are those that the rules give.
use Rattle.std.proofs.Common.{codes, [], ◌∷◌, Some, None, refl}
use Rattle.machine_bytecode.specs.Machine.{of_class, of_field, of_references, nested}
use Rattle.machine_bytecode.specs.Objects.{string_name}
use Rattle.example_machine.specs.Within.{main_pool, program_with, makes, switch, wide_iinc, links, counts, statics, constant, tables, boxes, box_cast}
use Rattle.example_machine.proofs.Facts.{field_row}
use Rattle.example_machine.proofs.WithinStart.{names_it, names_last, names_next, names_count, box_type, int_type}
use Rattle.lowering_spec.specs.Operations.LoadsConstantOf.{of_string}
use Rattle.example_machine.proofs.CallStart.{plain_units}
use Rattle.lowering_spec.specs.LoweredMethods.{IsLowered, no_trigger, for_class}
use Rattle.example_nodes.specs.Decoded.{makes_code, makes_graph, switch_code, switch_graph, wide_iinc_code, wide_iinc_graph, links_code, links_graph, counts_code, counts_graph, statics_code, statics_graph, constant_code, constant_graph, tables_code, tables_graph, boxes_code, boxes_graph, box_cast_code, box_cast_graph}
use Rattle.example_nodes.specs.Within.{makes_nodes, switch_nodes, wide_iinc_nodes, links_nodes, counts_nodes, statics_nodes, constant_nodes, tables_nodes, boxes_nodes, box_cast_nodes}
use Rattle.example_nodes.proofs.MoveLists.{are_moves_of}
use Rattle.example_nodes.proofs.NodesOf.{node_is, throws_nothing}

pub nodes_of_makes : IsLowered (program_with 7 makes) 0 main_pool makes_code makes_graph makes_nodes
nodes_of_makes = record {
  method = _;
  stands = refl;
  number_is = refl;
  slots = refl;
  stack = refl;
  params = record { parameters = []; results = []; of_descriptor = plain_units; is = refl };
  nodes = (
    node_is (program_with 7 makes) 0 _ main_pool makes_code _ _ _ 0 refl refl _ refl _ refl 0 refl refl (record { class = _; named = refl }, refl) refl tt
        (Some (codes "lib/Box")) (for_class refl (codes "lib/Box") _ (of_class (record { class = _; named = refl }) refl) (record { class = _; stands = refl; named = refl }) refl refl) (throws_nothing _ refl _ refl _),
    (
      node_is (program_with 7 makes) 0 _ main_pool makes_code _ _ _ 1 refl refl _ refl _ refl 0 refl refl (record { moves = _; is = refl; each = are_moves_of _ _ _ refl }) refl tt
          None (no_trigger refl refl refl) (throws_nothing _ refl _ refl _),
      (
        node_is (program_with 7 makes) 0 _ main_pool makes_code _ _ _ 2 refl refl _ refl _ refl 0 refl refl refl refl tt
            None (no_trigger refl refl refl) (throws_nothing _ refl _ refl _),
        tt,
      ),
    ),
  );
}

pub nodes_of_switch : IsLowered (program_with 7 switch) 0 main_pool switch_code switch_graph switch_nodes
nodes_of_switch = record {
  method = _;
  stands = refl;
  number_is = refl;
  slots = refl;
  stack = refl;
  params = record { parameters = []; results = []; of_descriptor = plain_units; is = refl };
  nodes = (
    node_is (program_with 7 switch) 0 _ main_pool switch_code _ _ _ 0 refl refl _ refl _ refl 0 refl refl (record { moves = _; is = refl; each = are_moves_of _ _ _ refl }) refl tt
        None (no_trigger refl refl refl) (throws_nothing _ refl _ refl _),
    (
      node_is (program_with 7 switch) 0 _ main_pool switch_code _ _ _ 1 refl refl _ refl _ refl 0 refl refl (record { moves = _; is = refl; each = are_moves_of _ _ _ refl }) refl tt
          None (no_trigger refl refl refl) (throws_nothing _ refl _ refl _),
      (
        node_is (program_with 7 switch) 0 _ main_pool switch_code _ _ _ 2 refl refl _ refl _ refl 0 refl refl refl refl tt
            None (no_trigger refl refl refl) (throws_nothing _ refl _ refl _),
        (
          node_is (program_with 7 switch) 0 _ main_pool switch_code _ _ _ 3 refl refl _ refl _ refl 0 refl refl refl refl tt
              None (no_trigger refl refl refl) (throws_nothing _ refl _ refl _),
          tt,
        ),
      ),
    ),
  );
}

pub nodes_of_wide_iinc : IsLowered (program_with 7 wide_iinc) 0 main_pool wide_iinc_code wide_iinc_graph wide_iinc_nodes
nodes_of_wide_iinc = record {
  method = _;
  stands = refl;
  number_is = refl;
  slots = refl;
  stack = refl;
  params = record { parameters = []; results = []; of_descriptor = plain_units; is = refl };
  nodes = (
    node_is (program_with 7 wide_iinc) 0 _ main_pool wide_iinc_code _ _ _ 0 refl refl _ refl _ refl 1 refl refl (record { moves = _; is = refl; each = are_moves_of _ _ _ refl }) refl tt
        None (no_trigger refl refl refl) (throws_nothing _ refl _ refl _),
    (
      node_is (program_with 7 wide_iinc) 0 _ main_pool wide_iinc_code _ _ _ 1 refl refl _ refl _ refl 1 refl refl (record { moves = _; is = refl; each = are_moves_of _ _ _ refl }) refl tt
          None (no_trigger refl refl refl) (throws_nothing _ refl _ refl _),
      (
        node_is (program_with 7 wide_iinc) 0 _ main_pool wide_iinc_code _ _ _ 2 refl refl _ refl _ refl 1 refl refl (record { moves = _; is = refl; each = are_moves_of _ _ _ refl }) refl tt
            None (no_trigger refl refl refl) (throws_nothing _ refl _ refl _),
        (
          node_is (program_with 7 wide_iinc) 0 _ main_pool wide_iinc_code _ _ _ 3 refl refl _ refl _ refl 1 refl refl refl refl tt
              None (no_trigger refl refl refl) (throws_nothing _ refl _ refl _),
          tt,
        ),
      ),
    ),
  );
}

pub nodes_of_links : IsLowered (program_with 7 links) 0 main_pool links_code links_graph links_nodes
nodes_of_links = record {
  method = _;
  stands = refl;
  number_is = refl;
  slots = refl;
  stack = refl;
  params = record { parameters = []; results = []; of_descriptor = plain_units; is = refl };
  nodes = (
    node_is (program_with 7 links) 0 _ main_pool links_code _ _ _ 0 refl refl _ refl _ (field_row _ _ _ _ _ refl box_type) 0 refl refl (record { names = (names_it links); is = refl }) refl tt
        (Some (codes "lib/Box")) (for_class refl (codes "lib/Box") _ (of_field (names_it links) refl) (record { class = _; stands = refl; named = refl }) refl refl) (throws_nothing _ refl _ refl _),
    (
      node_is (program_with 7 links) 0 _ main_pool links_code _ _ _ 1 refl refl _ refl _ (field_row _ _ _ _ _ refl box_type) 1 refl refl (record { names = (names_it links); is = refl }) refl tt
          (Some (codes "lib/Box")) (for_class refl (codes "lib/Box") _ (of_field (names_it links) refl) (record { class = _; stands = refl; named = refl }) refl refl) (throws_nothing _ refl _ refl _),
      (
        node_is (program_with 7 links) 0 _ main_pool links_code _ _ _ 2 refl refl _ refl _ (field_row _ _ _ _ _ refl box_type) 0 refl refl (record { names = (names_next links); is = refl }) refl tt
            None (no_trigger refl refl refl) (throws_nothing _ refl _ refl _),
        (
          node_is (program_with 7 links) 0 _ main_pool links_code _ _ _ 3 refl refl _ refl _ (field_row _ _ _ _ _ refl box_type) 0 refl refl (record { names = (names_it links); is = refl }) refl tt
              (Some (codes "lib/Box")) (for_class refl (codes "lib/Box") _ (of_field (names_it links) refl) (record { class = _; stands = refl; named = refl }) refl refl) (throws_nothing _ refl _ refl _),
          (
            node_is (program_with 7 links) 0 _ main_pool links_code _ _ _ 4 refl refl _ refl _ (field_row _ _ _ _ _ refl box_type) 0 refl refl (record { names = (names_next links); is = refl }) refl tt
                None (no_trigger refl refl refl) (throws_nothing _ refl _ refl _),
            (
              node_is (program_with 7 links) 0 _ main_pool links_code _ _ _ 5 refl refl _ refl _ refl 0 refl refl (record { moves = _; is = refl; each = are_moves_of _ _ _ refl }) refl tt
                  None (no_trigger refl refl refl) (throws_nothing _ refl _ refl _),
              (
                node_is (program_with 7 links) 0 _ main_pool links_code _ _ _ 6 refl refl _ refl _ refl 0 refl refl refl refl tt
                    None (no_trigger refl refl refl) (throws_nothing _ refl _ refl _),
                tt,
              ),
            ),
          ),
        ),
      ),
    ),
  );
}

pub nodes_of_counts : IsLowered (program_with 7 counts) 0 main_pool counts_code counts_graph counts_nodes
nodes_of_counts = record {
  method = _;
  stands = refl;
  number_is = refl;
  slots = refl;
  stack = refl;
  params = record { parameters = []; results = []; of_descriptor = plain_units; is = refl };
  nodes = (
    node_is (program_with 7 counts) 0 _ main_pool counts_code _ _ _ 0 refl refl _ refl _ (field_row _ _ _ _ _ refl box_type) 0 refl refl (record { names = (names_it counts); is = refl }) refl tt
        (Some (codes "lib/Box")) (for_class refl (codes "lib/Box") _ (of_field (names_it counts) refl) (record { class = _; stands = refl; named = refl }) refl refl) (throws_nothing _ refl _ refl _),
    (
      node_is (program_with 7 counts) 0 _ main_pool counts_code _ _ _ 1 refl refl _ refl _ refl 1 refl refl (record { moves = _; is = refl; each = are_moves_of _ _ _ refl }) refl tt
          None (no_trigger refl refl refl) (throws_nothing _ refl _ refl _),
      (
        node_is (program_with 7 counts) 0 _ main_pool counts_code _ _ _ 2 refl refl _ refl _ (field_row _ _ _ _ _ refl int_type) 0 refl refl (record { names = (names_count counts); is = refl }) refl tt
            None (no_trigger refl refl refl) (throws_nothing _ refl _ refl _),
        (
          node_is (program_with 7 counts) 0 _ main_pool counts_code _ _ _ 3 refl refl _ refl _ (field_row _ _ _ _ _ refl box_type) 0 refl refl (record { names = (names_it counts); is = refl }) refl tt
              (Some (codes "lib/Box")) (for_class refl (codes "lib/Box") _ (of_field (names_it counts) refl) (record { class = _; stands = refl; named = refl }) refl refl) (throws_nothing _ refl _ refl _),
          (
            node_is (program_with 7 counts) 0 _ main_pool counts_code _ _ _ 4 refl refl _ refl _ (field_row _ _ _ _ _ refl int_type) 0 refl refl (record { names = (names_count counts); is = refl }) refl tt
                None (no_trigger refl refl refl) (throws_nothing _ refl _ refl _),
            (
              node_is (program_with 7 counts) 0 _ main_pool counts_code _ _ _ 5 refl refl _ refl _ refl 0 refl refl (record { moves = _; is = refl; each = are_moves_of _ _ _ refl }) refl tt
                  None (no_trigger refl refl refl) (throws_nothing _ refl _ refl _),
              (
                node_is (program_with 7 counts) 0 _ main_pool counts_code _ _ _ 6 refl refl _ refl _ refl 0 refl refl refl refl tt
                    None (no_trigger refl refl refl) (throws_nothing _ refl _ refl _),
                tt,
              ),
            ),
          ),
        ),
      ),
    ),
  );
}

pub nodes_of_statics : IsLowered (program_with 7 statics) 0 main_pool statics_code statics_graph statics_nodes
nodes_of_statics = record {
  method = _;
  stands = refl;
  number_is = refl;
  slots = refl;
  stack = refl;
  params = record { parameters = []; results = []; of_descriptor = plain_units; is = refl };
  nodes = (
    node_is (program_with 7 statics) 0 _ main_pool statics_code _ _ _ 0 refl refl _ refl _ (field_row _ _ _ _ _ refl box_type) 0 refl refl (record { names = (names_it statics); is = refl }) refl tt
        (Some (codes "lib/Box")) (for_class refl (codes "lib/Box") _ (of_field (names_it statics) refl) (record { class = _; stands = refl; named = refl }) refl refl) (throws_nothing _ refl _ refl _),
    (
      node_is (program_with 7 statics) 0 _ main_pool statics_code _ _ _ 1 refl refl _ refl _ (field_row _ _ _ _ _ refl box_type) 0 refl refl (record { names = (names_last statics); is = refl }) refl tt
          (Some (codes "Main")) (for_class refl (codes "Main") _ (of_field (names_last statics) refl) (record { class = _; stands = refl; named = refl }) refl refl) (throws_nothing _ refl _ refl _),
      (
        node_is (program_with 7 statics) 0 _ main_pool statics_code _ _ _ 2 refl refl _ refl _ (field_row _ _ _ _ _ refl box_type) 0 refl refl (record { names = (names_last statics); is = refl }) refl tt
            (Some (codes "Main")) (for_class refl (codes "Main") _ (of_field (names_last statics) refl) (record { class = _; stands = refl; named = refl }) refl refl) (throws_nothing _ refl _ refl _),
        (
          node_is (program_with 7 statics) 0 _ main_pool statics_code _ _ _ 3 refl refl _ refl _ refl 0 refl refl (record { moves = _; is = refl; each = are_moves_of _ _ _ refl }) refl tt
              None (no_trigger refl refl refl) (throws_nothing _ refl _ refl _),
          (
            node_is (program_with 7 statics) 0 _ main_pool statics_code _ _ _ 4 refl refl _ refl _ refl 0 refl refl refl refl tt
                None (no_trigger refl refl refl) (throws_nothing _ refl _ refl _),
            tt,
          ),
        ),
      ),
    ),
  );
}

pub nodes_of_constant : IsLowered (program_with 7 constant) 0 main_pool constant_code constant_graph constant_nodes
nodes_of_constant = record {
  method = _;
  stands = refl;
  number_is = refl;
  slots = refl;
  stack = refl;
  params = record { parameters = []; results = []; of_descriptor = plain_units; is = refl };
  nodes = (
    node_is (program_with 7 constant) 0 _ main_pool constant_code _ _ _ 0 refl refl _ refl _ refl 0 refl refl (string_name, of_string 6 refl refl, refl) refl tt
        None (no_trigger refl refl refl) (throws_nothing _ refl _ refl _),
    (
      node_is (program_with 7 constant) 0 _ main_pool constant_code _ _ _ 1 refl refl _ refl _ refl 0 refl refl (record { moves = _; is = refl; each = are_moves_of _ _ _ refl }) refl tt
          None (no_trigger refl refl refl) (throws_nothing _ refl _ refl _),
      (
        node_is (program_with 7 constant) 0 _ main_pool constant_code _ _ _ 2 refl refl _ refl _ refl 0 refl refl refl refl tt
            None (no_trigger refl refl refl) (throws_nothing _ refl _ refl _),
        tt,
      ),
    ),
  );
}

pub nodes_of_tables : IsLowered (program_with 7 tables) 0 main_pool tables_code tables_graph tables_nodes
nodes_of_tables = record {
  method = _;
  stands = refl;
  number_is = refl;
  slots = refl;
  stack = refl;
  params = record { parameters = []; results = []; of_descriptor = plain_units; is = refl };
  nodes = (
    node_is (program_with 7 tables) 0 _ main_pool tables_code _ _ _ 0 refl refl _ refl _ refl 0 refl refl (record { moves = _; is = refl; each = are_moves_of _ _ _ refl }) refl tt
        None (no_trigger refl refl refl) (throws_nothing _ refl _ refl _),
    (
      node_is (program_with 7 tables) 0 _ main_pool tables_code _ _ _ 1 refl refl _ refl _ refl 1 refl refl (record { moves = _; is = refl; each = are_moves_of _ _ _ refl }) refl tt
          None (no_trigger refl refl refl) (throws_nothing _ refl _ refl _),
      (
        node_is (program_with 7 tables) 0 _ main_pool tables_code _ _ _ 2 refl refl _ refl _ refl 0 refl refl (codes "[[I" ∷ codes "[I" ∷ [], nested refl (record { class = _; named = refl }) refl, refl) refl tt
            None (no_trigger refl refl refl) (throws_nothing _ refl _ refl _),
        (
          node_is (program_with 7 tables) 0 _ main_pool tables_code _ _ _ 3 refl refl _ refl _ refl 0 refl refl (record { moves = _; is = refl; each = are_moves_of _ _ _ refl }) refl tt
              None (no_trigger refl refl refl) (throws_nothing _ refl _ refl _),
          (
            node_is (program_with 7 tables) 0 _ main_pool tables_code _ _ _ 4 refl refl _ refl _ refl 0 refl refl refl refl tt
                None (no_trigger refl refl refl) (throws_nothing _ refl _ refl _),
            tt,
          ),
        ),
      ),
    ),
  );
}

pub nodes_of_boxes : IsLowered (program_with 7 boxes) 0 main_pool boxes_code boxes_graph boxes_nodes
nodes_of_boxes = record {
  method = _;
  stands = refl;
  number_is = refl;
  slots = refl;
  stack = refl;
  params = record { parameters = []; results = []; of_descriptor = plain_units; is = refl };
  nodes = (
    node_is (program_with 7 boxes) 0 _ main_pool boxes_code _ _ _ 0 refl refl _ refl _ refl 1 refl refl (record { moves = _; is = refl; each = are_moves_of _ _ _ refl }) refl tt
        None (no_trigger refl refl refl) (throws_nothing _ refl _ refl _),
    (
      node_is (program_with 7 boxes) 0 _ main_pool boxes_code _ _ _ 1 refl refl _ refl _ refl 1 refl refl (codes "[Llib/Box;" ∷ [], of_references refl (record { class = _; named = refl }) refl, refl) refl tt
          None (no_trigger refl refl refl) (throws_nothing _ refl _ refl _),
      (
        node_is (program_with 7 boxes) 0 _ main_pool boxes_code _ _ _ 2 refl refl _ refl _ refl 1 refl refl (record { moves = _; is = refl; each = are_moves_of _ _ _ refl }) refl tt
            None (no_trigger refl refl refl) (throws_nothing _ refl _ refl _),
        (
          node_is (program_with 7 boxes) 0 _ main_pool boxes_code _ _ _ 3 refl refl _ refl _ refl 1 refl refl (record { moves = _; is = refl; each = are_moves_of _ _ _ refl }) refl tt
              None (no_trigger refl refl refl) (throws_nothing _ refl _ refl _),
          (
            node_is (program_with 7 boxes) 0 _ main_pool boxes_code _ _ _ 4 refl refl _ refl _ refl 2 refl refl (record { moves = _; is = refl; each = are_moves_of _ _ _ refl }) refl tt
                None (no_trigger refl refl refl) (throws_nothing _ refl _ refl _),
            (
              node_is (program_with 7 boxes) 0 _ main_pool boxes_code _ _ _ 5 refl refl _ refl _ (field_row _ _ _ _ _ refl box_type) 3 refl refl (record { names = (names_it boxes); is = refl }) refl tt
                  (Some (codes "lib/Box")) (for_class refl (codes "lib/Box") _ (of_field (names_it boxes) refl) (record { class = _; stands = refl; named = refl }) refl refl) (throws_nothing _ refl _ refl _),
              (
                node_is (program_with 7 boxes) 0 _ main_pool boxes_code _ _ _ 6 refl refl _ refl _ refl 1 refl refl refl refl tt
                    None (no_trigger refl refl refl) (throws_nothing _ refl _ refl _),
                (
                  node_is (program_with 7 boxes) 0 _ main_pool boxes_code _ _ _ 7 refl refl _ refl _ refl 1 refl refl (record { moves = _; is = refl; each = are_moves_of _ _ _ refl }) refl tt
                      None (no_trigger refl refl refl) (throws_nothing _ refl _ refl _),
                  (
                    node_is (program_with 7 boxes) 0 _ main_pool boxes_code _ _ _ 8 refl refl _ refl _ refl 2 refl refl (record { moves = _; is = refl; each = are_moves_of _ _ _ refl }) refl tt
                        None (no_trigger refl refl refl) (throws_nothing _ refl _ refl _),
                    (
                      node_is (program_with 7 boxes) 0 _ main_pool boxes_code _ _ _ 9 refl refl _ refl _ refl 1 refl refl refl refl tt
                          None (no_trigger refl refl refl) (throws_nothing _ refl _ refl _),
                      (
                        node_is (program_with 7 boxes) 0 _ main_pool boxes_code _ _ _ 10 refl refl _ refl _ refl 1 refl refl (record { moves = _; is = refl; each = are_moves_of _ _ _ refl }) refl tt
                            None (no_trigger refl refl refl) (throws_nothing _ refl _ refl _),
                        (
                          node_is (program_with 7 boxes) 0 _ main_pool boxes_code _ _ _ 11 refl refl _ refl _ refl 1 refl refl refl refl tt
                              None (no_trigger refl refl refl) (throws_nothing _ refl _ refl _),
                          tt,
                        ),
                      ),
                    ),
                  ),
                ),
              ),
            ),
          ),
        ),
      ),
    ),
  );
}

pub nodes_of_box_cast : IsLowered (program_with 7 box_cast) 0 main_pool box_cast_code box_cast_graph box_cast_nodes
nodes_of_box_cast = record {
  method = _;
  stands = refl;
  number_is = refl;
  slots = refl;
  stack = refl;
  params = record { parameters = []; results = []; of_descriptor = plain_units; is = refl };
  nodes = (
    node_is (program_with 7 box_cast) 0 _ main_pool box_cast_code _ _ _ 0 refl refl _ refl _ (field_row _ _ _ _ _ refl box_type) 0 refl refl (record { names = (names_it box_cast); is = refl }) refl tt
        (Some (codes "lib/Box")) (for_class refl (codes "lib/Box") _ (of_field (names_it box_cast) refl) (record { class = _; stands = refl; named = refl }) refl refl) (throws_nothing _ refl _ refl _),
    (
      node_is (program_with 7 box_cast) 0 _ main_pool box_cast_code _ _ _ 1 refl refl _ refl _ refl 0 refl refl (record { class = _; named = refl }, refl) refl tt
          None (no_trigger refl refl refl) (throws_nothing _ refl _ refl _),
      (
        node_is (program_with 7 box_cast) 0 _ main_pool box_cast_code _ _ _ 2 refl refl _ refl _ refl 0 refl refl (record { moves = _; is = refl; each = are_moves_of _ _ _ refl }) refl tt
            None (no_trigger refl refl refl) (throws_nothing _ refl _ refl _),
        (
          node_is (program_with 7 box_cast) 0 _ main_pool box_cast_code _ _ _ 3 refl refl _ refl _ refl 0 refl refl refl refl tt
              None (no_trigger refl refl refl) (throws_nothing _ refl _ refl _),
          tt,
        ),
      ),
    ),
  );
}
