-- That the nodes of methods with handlers, or with instructions that raise, are those that the rules give.
use Rattle.std.proofs.Common.{codes, false, [], ◌∷◌, Some, None, refl}
use Rattle.jvm_model.specs.Code.{CodeBody}
use Rattle.machine_bytecode.specs.Machine.{of_field, of_method, of_references, NamesField}
use Rattle.example_machine.specs.Building.{handler as covers}
use Rattle.example_machine.specs.Excepting.{main_pool, program_with, catches_above, catches_here}
use Rattle.example_machine.specs.Within.{main_pool as within_pool, misfit, division, string_cast, null_throw, null_field}
use Rattle.example_machine.proofs.CallStart.{plain_units}
use Rattle.example_machine.proofs.Facts.{call_row, field_row, declared_field}
use Rattle.example_machine.proofs.WithinStart.{box_type}
use Rattle.example_machine.proofs.ExceptionRuns.{main_named, names_fire, exception_type}
use Rattle.lowering_spec.specs.LoweredMethods.IsCatch.{of_class}
use Rattle.lowering_spec.specs.LoweredMethods.{IsLowered, no_trigger, for_class}
use Rattle.example_nodes.specs.Decoded.{catches_above_code, catches_above_graph, inner_code, inner_graph, misfit_code, misfit_graph, division_code, division_graph, string_cast_code, string_cast_graph, null_throw_code, null_throw_graph, null_field_code, null_field_graph, catches_here_code, catches_here_graph, middle_code, middle_graph}
use Rattle.example_nodes.specs.Excepting.{catches_above_nodes, inner_nodes, catches_here_nodes, middle_nodes}
use Rattle.example_nodes.specs.Raising.{program_with as raising, misfit_nodes, division_nodes, string_cast_nodes, null_throw_nodes, null_field_nodes}
use Rattle.example_nodes.specs.Lowering.{class_no, method_no}
use Rattle.example_nodes.proofs.RaiseRuns.{names_it}
use Rattle.example_nodes.proofs.MoveLists.{are_moves_of}
use Rattle.example_nodes.proofs.NodesOf.{node_is, throws_nothing, throws_these}

pub nodes_of_catches_above : IsLowered (program_with catches_above) 0 main_pool catches_above_code catches_above_graph catches_above_nodes
nodes_of_catches_above = record {
  method = _;
  stands = refl;
  number_is = refl;
  slots = refl;
  stack = refl;
  params = record { parameters = []; results = []; of_descriptor = plain_units; is = refl };
  nodes = (
    node_is (program_with catches_above) 0 _ main_pool catches_above_code _ _ _ 0 refl refl _ refl _ (call_row _ _ _ _ _ _ refl plain_units) 0 refl refl (record { names = (main_named catches_above 10 1 _ _ refl refl refl refl refl); chosen = Some (method_no 1); is_chosen = refl; parameters = _; results = _; units = plain_units; is = refl }) refl (record { handler = covers 0 3 4 21; stands = refl; target = refl; catch = of_class (λ e. absurd cc) (codes "java/lang/Exception") _ refl (record { class = _; stands = refl; named = refl }) refl }, tt)
        (Some (codes "Main")) (for_class refl (codes "Main") _ (of_method (main_named catches_above 10 1 _ _ refl refl refl refl refl) refl) (record { class = _; stands = refl; named = refl }) refl refl) (throws_nothing _ refl _ refl _),
    (
      node_is (program_with catches_above) 0 _ main_pool catches_above_code _ _ _ 1 refl refl _ refl _ refl 0 refl refl refl refl tt
          None (no_trigger refl refl refl) (throws_nothing _ refl _ refl _),
      (
        node_is (program_with catches_above) 0 _ main_pool catches_above_code _ _ _ 2 refl refl _ refl _ refl 0 refl refl (record { moves = _; is = refl; each = are_moves_of _ _ _ refl }) refl tt
            None (no_trigger refl refl refl) (throws_nothing _ refl _ refl _),
        (
          node_is (program_with catches_above) 0 _ main_pool catches_above_code _ _ _ 3 refl refl _ refl _ refl 0 refl refl refl refl tt
              None (no_trigger refl refl refl) (throws_nothing _ refl _ refl _),
          tt,
        ),
      ),
    ),
  );
}

pub nodes_of_inner : IsLowered (program_with catches_above) 2 main_pool inner_code inner_graph inner_nodes
nodes_of_inner = record {
  method = _;
  stands = refl;
  number_is = refl;
  slots = refl;
  stack = refl;
  params = record { parameters = []; results = []; of_descriptor = plain_units; is = refl };
  nodes = (
    node_is (program_with catches_above) 2 _ main_pool inner_code _ _ _ 0 refl refl _ refl _ (field_row _ _ _ _ _ refl exception_type) 0 refl refl (record { names = (names_fire catches_above); is = refl }) refl tt
        (Some (codes "lib/Alarm")) (for_class refl (codes "lib/Alarm") _ (of_field (names_fire catches_above) refl) (record { class = _; stands = refl; named = refl }) refl refl) (throws_nothing _ refl _ refl _),
    (
      node_is (program_with catches_above) 2 _ main_pool inner_code _ _ _ 1 refl refl _ refl _ refl 0 refl refl refl refl tt
          None (no_trigger refl refl refl) (throws_nothing _ refl _ refl _),
      tt,
    ),
  );
}

pub nodes_of_misfit : IsLowered (raising misfit) 0 within_pool misfit_code misfit_graph misfit_nodes
nodes_of_misfit = record {
  method = _;
  stands = refl;
  number_is = refl;
  slots = refl;
  stack = refl;
  params = record { parameters = []; results = []; of_descriptor = plain_units; is = refl };
  nodes = (
    node_is (raising misfit) 0 _ within_pool misfit_code _ _ _ 0 refl refl _ refl _ refl 0 refl refl (record { moves = _; is = refl; each = are_moves_of _ _ _ refl }) refl tt
        None (no_trigger refl refl refl) (throws_nothing _ refl _ refl _),
    (
      node_is (raising misfit) 0 _ within_pool misfit_code _ _ _ 1 refl refl _ refl _ refl 0 refl refl (codes "[Ljava/lang/String;" ∷ [], of_references refl (record { class = _; named = refl }) refl, refl) refl tt
          None (no_trigger refl refl refl) (throws_these _ refl _ (class_no 8 ∷ []) refl refl _),
      (
        node_is (raising misfit) 0 _ within_pool misfit_code _ _ _ 2 refl refl _ refl _ refl 1 refl refl (record { moves = _; is = refl; each = are_moves_of _ _ _ refl }) refl tt
            None (no_trigger refl refl refl) (throws_nothing _ refl _ refl _),
        (
          node_is (raising misfit) 0 _ within_pool misfit_code _ _ _ 3 refl refl _ refl _ (field_row _ _ _ _ _ refl box_type) 2 refl refl (record { names = (names_it misfit); is = refl }) refl tt
              (Some (codes "lib/Box")) (for_class refl (codes "lib/Box") _ (of_field (names_it misfit) refl) (record { class = _; stands = refl; named = refl }) refl refl) (throws_nothing _ refl _ refl _),
          (
            node_is (raising misfit) 0 _ within_pool misfit_code _ _ _ 4 refl refl _ refl _ refl 0 refl refl refl refl tt
                None (no_trigger refl refl refl) (throws_these _ refl _ (class_no 5 ∷ class_no 6 ∷ class_no 9 ∷ []) refl refl _),
            (
              node_is (raising misfit) 0 _ within_pool misfit_code _ _ _ 5 refl refl _ refl _ refl 0 refl refl refl refl tt
                  None (no_trigger refl refl refl) (throws_nothing _ refl _ refl _),
              tt,
            ),
          ),
        ),
      ),
    ),
  );
}

pub nodes_of_division : IsLowered (raising division) 0 within_pool division_code division_graph division_nodes
nodes_of_division = record {
  method = _;
  stands = refl;
  number_is = refl;
  slots = refl;
  stack = refl;
  params = record { parameters = []; results = []; of_descriptor = plain_units; is = refl };
  nodes = (
    node_is (raising division) 0 _ within_pool division_code _ _ _ 0 refl refl _ refl _ refl 0 refl refl (record { moves = _; is = refl; each = are_moves_of _ _ _ refl }) refl tt
        None (no_trigger refl refl refl) (throws_nothing _ refl _ refl _),
    (
      node_is (raising division) 0 _ within_pool division_code _ _ _ 1 refl refl _ refl _ refl 1 refl refl (record { moves = _; is = refl; each = are_moves_of _ _ _ refl }) refl tt
          None (no_trigger refl refl refl) (throws_nothing _ refl _ refl _),
      (
        node_is (raising division) 0 _ within_pool division_code _ _ _ 2 refl refl _ refl _ refl 0 refl refl (record { moves = _; is = refl; each = are_moves_of _ _ _ refl }) refl tt
            None (no_trigger refl refl refl) (throws_these _ refl _ (class_no 4 ∷ []) refl refl _),
        (
          node_is (raising division) 0 _ within_pool division_code _ _ _ 3 refl refl _ refl _ refl 0 refl refl (record { moves = _; is = refl; each = are_moves_of _ _ _ refl }) refl tt
              None (no_trigger refl refl refl) (throws_nothing _ refl _ refl _),
          (
            node_is (raising division) 0 _ within_pool division_code _ _ _ 4 refl refl _ refl _ refl 0 refl refl refl refl tt
                None (no_trigger refl refl refl) (throws_nothing _ refl _ refl _),
            tt,
          ),
        ),
      ),
    ),
  );
}

abbrev names_next_in : (k : CodeBody) → NamesField (raising k) within_pool 17 false
names_next_in k = declared_field _ _ _ _ 2 _ _ refl refl refl refl refl

pub nodes_of_string_cast : IsLowered (raising string_cast) 0 within_pool string_cast_code string_cast_graph string_cast_nodes
nodes_of_string_cast = record {
  method = _;
  stands = refl;
  number_is = refl;
  slots = refl;
  stack = refl;
  params = record { parameters = []; results = []; of_descriptor = plain_units; is = refl };
  nodes = (
    node_is (raising string_cast) 0 _ within_pool string_cast_code _ _ _ 0 refl refl _ refl _ (field_row _ _ _ _ _ refl box_type) 0 refl refl (record { names = (names_it string_cast); is = refl }) refl tt
        (Some (codes "lib/Box")) (for_class refl (codes "lib/Box") _ (of_field (names_it string_cast) refl) (record { class = _; stands = refl; named = refl }) refl refl) (throws_nothing _ refl _ refl _),
    (
      node_is (raising string_cast) 0 _ within_pool string_cast_code _ _ _ 1 refl refl _ refl _ refl 0 refl refl (record { class = _; named = refl }, refl) refl tt
          None (no_trigger refl refl refl) (throws_these _ refl _ (class_no 7 ∷ []) refl refl _),
      (
        node_is (raising string_cast) 0 _ within_pool string_cast_code _ _ _ 2 refl refl _ refl _ refl 0 refl refl (record { moves = _; is = refl; each = are_moves_of _ _ _ refl }) refl tt
            None (no_trigger refl refl refl) (throws_nothing _ refl _ refl _),
        (
          node_is (raising string_cast) 0 _ within_pool string_cast_code _ _ _ 3 refl refl _ refl _ refl 0 refl refl refl refl tt
              None (no_trigger refl refl refl) (throws_nothing _ refl _ refl _),
          tt,
        ),
      ),
    ),
  );
}

pub nodes_of_null_throw : IsLowered (raising null_throw) 0 within_pool null_throw_code null_throw_graph null_throw_nodes
nodes_of_null_throw = record {
  method = _;
  stands = refl;
  number_is = refl;
  slots = refl;
  stack = refl;
  params = record { parameters = []; results = []; of_descriptor = plain_units; is = refl };
  nodes = (
    node_is (raising null_throw) 0 _ within_pool null_throw_code _ _ _ 0 refl refl _ refl _ refl 0 refl refl (record { moves = _; is = refl; each = are_moves_of _ _ _ refl }) refl tt
        None (no_trigger refl refl refl) (throws_nothing _ refl _ refl _),
    (
      node_is (raising null_throw) 0 _ within_pool null_throw_code _ _ _ 1 refl refl _ refl _ refl 0 refl refl refl refl tt
          None (no_trigger refl refl refl) (throws_these _ refl _ (class_no 9 ∷ []) refl refl _),
      tt,
    ),
  );
}

pub nodes_of_null_field : IsLowered (raising null_field) 0 within_pool null_field_code null_field_graph null_field_nodes
nodes_of_null_field = record {
  method = _;
  stands = refl;
  number_is = refl;
  slots = refl;
  stack = refl;
  params = record { parameters = []; results = []; of_descriptor = plain_units; is = refl };
  nodes = (
    node_is (raising null_field) 0 _ within_pool null_field_code _ _ _ 0 refl refl _ refl _ refl 0 refl refl (record { moves = _; is = refl; each = are_moves_of _ _ _ refl }) refl tt
        None (no_trigger refl refl refl) (throws_nothing _ refl _ refl _),
    (
      node_is (raising null_field) 0 _ within_pool null_field_code _ _ _ 1 refl refl _ refl _ (field_row _ _ _ _ _ refl box_type) 0 refl refl (record { names = (names_next_in null_field); is = refl }) refl tt
          None (no_trigger refl refl refl) (throws_these _ refl _ (class_no 9 ∷ []) refl refl _),
      (
        node_is (raising null_field) 0 _ within_pool null_field_code _ _ _ 2 refl refl _ refl _ refl 0 refl refl (record { moves = _; is = refl; each = are_moves_of _ _ _ refl }) refl tt
            None (no_trigger refl refl refl) (throws_nothing _ refl _ refl _),
        (
          node_is (raising null_field) 0 _ within_pool null_field_code _ _ _ 3 refl refl _ refl _ refl 0 refl refl refl refl tt
              None (no_trigger refl refl refl) (throws_nothing _ refl _ refl _),
          tt,
        ),
      ),
    ),
  );
}

pub nodes_of_catches_here : IsLowered (program_with catches_here) 0 main_pool catches_here_code catches_here_graph catches_here_nodes
nodes_of_catches_here = record {
  method = _;
  stands = refl;
  number_is = refl;
  slots = refl;
  stack = refl;
  params = record { parameters = []; results = []; of_descriptor = plain_units; is = refl };
  nodes = (
    node_is (program_with catches_here) 0 _ main_pool catches_here_code _ _ _ 0 refl refl _ refl _ (field_row _ _ _ _ _ refl exception_type) 0 refl refl (record { names = (names_fire catches_here); is = refl }) refl (record { handler = covers 0 4 4 23; stands = refl; target = refl; catch = of_class (λ e. absurd cc) (codes "java/lang/Error") _ refl (record { class = _; stands = refl; named = refl }) refl }, (record { handler = covers 0 4 4 21; stands = refl; target = refl; catch = of_class (λ e. absurd cc) (codes "java/lang/Exception") _ refl (record { class = _; stands = refl; named = refl }) refl }, tt))
        (Some (codes "lib/Alarm")) (for_class refl (codes "lib/Alarm") _ (of_field (names_fire catches_here) refl) (record { class = _; stands = refl; named = refl }) refl refl) (throws_nothing _ refl _ refl _),
    (
      node_is (program_with catches_here) 0 _ main_pool catches_here_code _ _ _ 1 refl refl _ refl _ refl 0 refl refl refl refl (record { handler = covers 0 4 4 23; stands = refl; target = refl; catch = of_class (λ e. absurd cc) (codes "java/lang/Error") _ refl (record { class = _; stands = refl; named = refl }) refl }, (record { handler = covers 0 4 4 21; stands = refl; target = refl; catch = of_class (λ e. absurd cc) (codes "java/lang/Exception") _ refl (record { class = _; stands = refl; named = refl }) refl }, tt))
          None (no_trigger refl refl refl) (throws_nothing _ refl _ refl _),
      (
        node_is (program_with catches_here) 0 _ main_pool catches_here_code _ _ _ 2 refl refl _ refl _ refl 0 refl refl (record { moves = _; is = refl; each = are_moves_of _ _ _ refl }) refl tt
            None (no_trigger refl refl refl) (throws_nothing _ refl _ refl _),
        (
          node_is (program_with catches_here) 0 _ main_pool catches_here_code _ _ _ 3 refl refl _ refl _ refl 0 refl refl refl refl tt
              None (no_trigger refl refl refl) (throws_nothing _ refl _ refl _),
          tt,
        ),
      ),
    ),
  );
}

pub nodes_of_middle : IsLowered (program_with catches_above) 1 main_pool middle_code middle_graph middle_nodes
nodes_of_middle = record {
  method = _;
  stands = refl;
  number_is = refl;
  slots = refl;
  stack = refl;
  params = record { parameters = []; results = []; of_descriptor = plain_units; is = refl };
  nodes = (
    node_is (program_with catches_above) 1 _ main_pool middle_code _ _ _ 0 refl refl _ refl _ (call_row _ _ _ _ _ _ refl plain_units) 0 refl refl (record { names = (main_named catches_above 13 2 _ _ refl refl refl refl refl); chosen = Some (method_no 2); is_chosen = refl; parameters = _; results = _; units = plain_units; is = refl }) refl (record { handler = covers 0 3 4 23; stands = refl; target = refl; catch = of_class (λ e. absurd cc) (codes "java/lang/Error") _ refl (record { class = _; stands = refl; named = refl }) refl }, tt)
        (Some (codes "Main")) (for_class refl (codes "Main") _ (of_method (main_named catches_above 13 2 _ _ refl refl refl refl refl) refl) (record { class = _; stands = refl; named = refl }) refl refl) (throws_nothing _ refl _ refl _),
    (
      node_is (program_with catches_above) 1 _ main_pool middle_code _ _ _ 1 refl refl _ refl _ refl 0 refl refl refl refl tt
          None (no_trigger refl refl refl) (throws_nothing _ refl _ refl _),
      (
        node_is (program_with catches_above) 1 _ main_pool middle_code _ _ _ 2 refl refl _ refl _ refl 0 refl refl (record { moves = _; is = refl; each = are_moves_of _ _ _ refl }) refl tt
            None (no_trigger refl refl refl) (throws_nothing _ refl _ refl _),
        (
          node_is (program_with catches_above) 1 _ main_pool middle_code _ _ _ 3 refl refl _ refl _ refl 0 refl refl refl refl tt
              None (no_trigger refl refl refl) (throws_nothing _ refl _ refl _),
          tt,
        ),
      ),
    ),
  );
}
