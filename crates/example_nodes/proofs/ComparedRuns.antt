-- The steps within a method that compare references, cast an array, or put units in another order.
use Rattle.std.proofs.Common.{codes, inl, true, false, [], ◌∷◌, refl, arith}
use Rattle.jvm_model.specs.declared.site.SiteKind.TheVariants.{New as new_kind}
use Rattle.jvm_model.specs.Programs.{object_name}
use Rattle.jvm_model.specs.Subtypes.{array_of, same, below, by_class, by_elements}
use Rattle.op_model.specs.declared.op.Op.TheVariants.{Assign, Cast}
use Rattle.machine_bytecode.specs.Machine.{of_string, of_references}
use Rattle.machine_bytecode.specs.Objects.Passes.{fitting as passes_fitting}
use Rattle.machine_bytecode.specs.States.{primitive_value, null_value, reference_to, World, with_object, new_object, new_array, site_at}
use Rattle.example_machine.specs.Within.{program_with, runs, null_jump, box_jump, same_jump, other_jump, two_branch, string_branch, array_cast, shuffles}
use Rattle.example_machine.proofs.Facts.{field_row, refers_to, makes_array, shows}
use Rattle.example_machine.proofs.Runs.{advance, frame_at}
use Rattle.example_machine.proofs.WithinCompared.{strings_differ}
use Rattle.example_machine.proofs.WithinStart.{outside, main_of, world, main_at, names_it, box_type}
use Rattle.example_nodes.specs.Lowering.{primitive_in}
use Rattle.example_nodes.specs.Within.{given_main, MakesOperation, null_jump_nodes, box_jump_nodes, same_jump_nodes, other_jump_nodes, two_branch_nodes, string_branch_nodes, array_cast_nodes, shuffles_nodes, below_one, below_two, both, both_below_one, both_below_two, swapped}
use Rattle.example_nodes.proofs.Slots.{are_left_by, are_moved_by, read_alike}
use Rattle.example_nodes.proofs.Steps.{Arrives, operate, plainly, advanced, takes_operation}
use Rattle.example_nodes.proofs.WithinRuns.{begun}

-- ---- the worlds

abbrev with_box : World
with_box = with_object (world same_jump refl) (new_object (program_with 7 same_jump) (site_at new_kind (frame_at 0 0 []) (codes "lib/Box")) 0)

abbrev with_one : World
with_one = with_object (world two_branch refl) (new_object (program_with 7 two_branch) (site_at new_kind (frame_at 0 0 []) (codes "lib/Box")) 0)

abbrev with_two : World
with_two = with_object with_one (new_object (program_with 7 two_branch) (site_at new_kind (frame_at 0 3 (reference_to 3 ∷ [])) (codes "lib/Box")) 0)

abbrev with_boxes : World
with_boxes = with_object (world array_cast refl) (new_array (site_at new_kind (frame_at 0 1 (primitive_value ∷ [])) (codes "[Llib/Box;")) (null_value ∷ []) 0)

at_strings : Arrives (runs string_branch) (given_main string_branch_nodes) (main_at string_branch refl 4 (reference_to 0 ∷ reference_to 0 ∷ []) (world string_branch refl))
at_strings =
    let first = advanced _ _ _ _ _ _ (begun string_branch refl string_branch_nodes refl refl)
    (advance (runs string_branch) 0 (main_of string_branch refl) outside 0 [] (world string_branch refl) _ refl _
    refl refl (reference_to 0) _ _ (of_string 6 refl (record { place = 0; stands = refl; is = refl }), refl) refl)
    (operate (runs string_branch) (given_main string_branch_nodes) 0 (main_of string_branch refl) string_branch_nodes refl outside 0 [] (world string_branch refl) _ refl _ _ _
    (record { value = reference_to 0; is_read = record { place = 0; stands = refl; is = refl }; are_left = are_left_by _ _ _ _ _ refl; same = refl }) refl) in
    advanced _ _ _ _ _ _ first
    (advance (runs string_branch) 0 (main_of string_branch refl) outside 2 (reference_to 0 ∷ []) (world string_branch refl) _ refl _
    refl refl (reference_to 0) _ _ (of_string 6 refl (record { place = 0; stands = refl; is = refl }), refl) refl)
    (operate (runs string_branch) (given_main string_branch_nodes) 0 (main_of string_branch refl) string_branch_nodes refl outside 2 (reference_to 0 ∷ []) (world string_branch refl) _ refl _ _ _
    (record { value = reference_to 0; is_read = record { place = 0; stands = refl; is = refl }; are_left = are_left_by _ _ _ _ _ refl; same = refl }) refl)

-- ---- the steps

pub a_test_for_an_object_jumps : MakesOperation box_jump box_jump_nodes (Assign (primitive_in 0 ∷ [])) 7 []
a_test_for_an_object_jumps =
    let first = advanced _ _ _ _ _ _ (begun box_jump refl box_jump_nodes refl refl)
    (advance (runs box_jump) 0 (main_of box_jump refl) outside 0 [] (world box_jump refl) _ refl _
    (field_row _ _ _ _ _ refl box_type) refl (reference_to 2) _ _ (names_it box_jump, (refl, refl)) refl)
    (operate (runs box_jump) (given_main box_jump_nodes) 0 (main_of box_jump refl) box_jump_nodes refl outside 0 [] (world box_jump refl) _ refl _ _ _
    (record { value = reference_to 2; is_read = refl; are_left = are_left_by _ _ _ _ _ refl; same = refl }) refl) in
    takes_operation _ _ _ _ _ _ _ _ first
    (advance (runs box_jump) 0 (main_of box_jump refl) outside 3 (reference_to 2 ∷ []) (world box_jump refl) _ refl _
    refl refl primitive_value _ 7 (refl, refl) (0, omega arith, refl))
    (operate (runs box_jump) (given_main box_jump_nodes) 0 (main_of box_jump refl) box_jump_nodes refl outside 3 (reference_to 2 ∷ []) (world box_jump refl) _ refl _ _ _
    (are_moved_by _ _ _ refl, refl) refl)
    (shows _ _ _)

pub a_test_for_an_object_goes_on : MakesOperation null_jump null_jump_nodes (Assign (primitive_in 0 ∷ [])) 4 []
a_test_for_an_object_goes_on =
    takes_operation _ _ _ _ _ _ _ _ (plainly (runs null_jump) (given_main null_jump_nodes) 0 (main_of null_jump refl) null_jump_nodes refl outside 1 0 [] (world null_jump refl) _ refl (begun null_jump refl null_jump_nodes refl refl))
    (advance (runs null_jump) 0 (main_of null_jump refl) outside 1 (null_value ∷ []) (world null_jump refl) _ refl _
    refl refl primitive_value _ 4 (refl, refl) refl)
    (operate (runs null_jump) (given_main null_jump_nodes) 0 (main_of null_jump refl) null_jump_nodes refl outside 1 (null_value ∷ []) (world null_jump refl) _ refl _ _ _
    (are_moved_by _ _ _ refl, refl) refl)
    (shows _ _ _)

pub a_test_of_two_references_jumps : MakesOperation other_jump other_jump_nodes (Assign (primitive_in 0 ∷ primitive_in 1 ∷ [])) 8 []
a_test_of_two_references_jumps =
    let first = advanced _ _ _ _ _ _ (begun other_jump refl other_jump_nodes refl refl)
    (advance (runs other_jump) 0 (main_of other_jump refl) outside 0 [] (world other_jump refl) _ refl _
    (field_row _ _ _ _ _ refl box_type) refl (reference_to 2) _ _ (names_it other_jump, (refl, refl)) refl)
    (operate (runs other_jump) (given_main other_jump_nodes) 0 (main_of other_jump refl) other_jump_nodes refl outside 0 [] (world other_jump refl) _ refl _ _ _
    (record { value = reference_to 2; is_read = refl; are_left = are_left_by _ _ _ _ _ refl; same = refl }) refl) in
    takes_operation _ _ _ _ _ _ _ _ (plainly (runs other_jump) (given_main other_jump_nodes) 0 (main_of other_jump refl) other_jump_nodes refl outside 1 3 (reference_to 2 ∷ []) (world other_jump refl) _ refl first)
    (advance (runs other_jump) 0 (main_of other_jump refl) outside 4 (reference_to 2 ∷ null_value ∷ []) (world other_jump refl) _ refl _
    refl refl primitive_value _ 8 (refl, refl) (false, refl, (0, omega arith, refl)))
    (operate (runs other_jump) (given_main other_jump_nodes) 0 (main_of other_jump refl) other_jump_nodes refl outside 4 (reference_to 2 ∷ null_value ∷ []) (world other_jump refl) _ refl _ _ _
    (are_moved_by _ _ _ refl, refl) refl)
    (shows _ _ _)

pub a_test_of_one_object_goes_on : MakesOperation same_jump same_jump_nodes (Assign (primitive_in 0 ∷ primitive_in 1 ∷ [])) 7 []
a_test_of_one_object_goes_on =
    let first = advanced _ _ _ _ _ _ (begun same_jump refl same_jump_nodes refl refl)
    (advance (runs same_jump) 0 (main_of same_jump refl) outside 0 [] (world same_jump refl) _ refl _
    refl refl (reference_to 3) with_box _ (record { class = _; named = refl }, record { made_is = refl; after_is = refl }) refl)
    (operate (runs same_jump) (given_main same_jump_nodes) 0 (main_of same_jump refl) same_jump_nodes refl outside 0 [] (world same_jump refl) _ refl _ with_box _
    (record { made = reference_to 3; is_made = record { made_is = refl; after_is = refl }; are_left = are_left_by _ _ _ _ _ refl }) refl) in
    takes_operation _ _ _ _ _ _ _ _ (plainly (runs same_jump) (given_main same_jump_nodes) 0 (main_of same_jump refl) same_jump_nodes refl outside 1 3 (reference_to 3 ∷ []) with_box _ refl first)
    (advance (runs same_jump) 0 (main_of same_jump refl) outside 4 (reference_to 3 ∷ reference_to 3 ∷ []) with_box _ refl _
    refl refl primitive_value _ 7 (refl, refl) (true, (λ made. refl), refl))
    (operate (runs same_jump) (given_main same_jump_nodes) 0 (main_of same_jump refl) same_jump_nodes refl outside 4 (reference_to 3 ∷ reference_to 3 ∷ []) with_box _ refl _ _ _
    (are_moved_by _ _ _ refl, refl) refl)
    (shows _ _ _)

pub a_test_of_two_objects_goes_on : MakesOperation two_branch two_branch_nodes (Assign (primitive_in 0 ∷ primitive_in 1 ∷ [])) 9 []
a_test_of_two_objects_goes_on =
    let first = advanced _ _ _ _ _ _ (begun two_branch refl two_branch_nodes refl refl)
    (advance (runs two_branch) 0 (main_of two_branch refl) outside 0 [] (world two_branch refl) _ refl _
    refl refl (reference_to 3) with_one _ (record { class = _; named = refl }, record { made_is = refl; after_is = refl }) refl)
    (operate (runs two_branch) (given_main two_branch_nodes) 0 (main_of two_branch refl) two_branch_nodes refl outside 0 [] (world two_branch refl) _ refl _ with_one _
    (record { made = reference_to 3; is_made = record { made_is = refl; after_is = refl }; are_left = are_left_by _ _ _ _ _ refl }) refl) in
    let second = advanced _ _ _ _ _ _ first
    (advance (runs two_branch) 0 (main_of two_branch refl) outside 3 (reference_to 3 ∷ []) with_one _ refl _
    refl refl (reference_to 4) with_two _ (record { class = _; named = refl }, record { made_is = refl; after_is = refl }) refl)
    (operate (runs two_branch) (given_main two_branch_nodes) 0 (main_of two_branch refl) two_branch_nodes refl outside 3 (reference_to 3 ∷ []) with_one _ refl _ with_two _
    (record { made = reference_to 4; is_made = record { made_is = refl; after_is = refl }; are_left = are_left_by _ _ _ _ _ refl }) refl) in
    takes_operation _ _ _ _ _ _ _ _ second
    (advance (runs two_branch) 0 (main_of two_branch refl) outside 6 (reference_to 3 ∷ reference_to 4 ∷ []) with_two _ refl _
    refl refl primitive_value _ 9 (refl, refl) (false, (λ made. refl), refl))
    (operate (runs two_branch) (given_main two_branch_nodes) 0 (main_of two_branch refl) two_branch_nodes refl outside 6 (reference_to 3 ∷ reference_to 4 ∷ []) with_two _ refl _ _ _
    (are_moved_by _ _ _ refl, refl) refl)
    (shows _ _ _)

pub a_test_of_two_strings_jumps : MakesOperation string_branch string_branch_nodes (Assign (primitive_in 0 ∷ primitive_in 1 ∷ [])) 8 []
a_test_of_two_strings_jumps =
    takes_operation _ _ _ _ _ _ _ _ at_strings
    (advance (runs string_branch) 0 (main_of string_branch refl) outside 4 (reference_to 0 ∷ reference_to 0 ∷ []) (world string_branch refl) _ refl _
    refl refl primitive_value _ 8 (refl, refl) (true, (λ made. refl), (0, omega arith, refl)))
    (operate (runs string_branch) (given_main string_branch_nodes) 0 (main_of string_branch refl) string_branch_nodes refl outside 4 (reference_to 0 ∷ reference_to 0 ∷ []) (world string_branch refl) _ refl _ _ _
    (are_moved_by _ _ _ refl, refl) refl)
    (shows _ _ _)

pub a_test_of_two_strings_goes_on : MakesOperation string_branch string_branch_nodes (Assign (primitive_in 0 ∷ primitive_in 1 ∷ [])) 7 []
a_test_of_two_strings_goes_on =
    takes_operation _ _ _ _ _ _ _ _ at_strings
    (advance (runs string_branch) 0 (main_of string_branch refl) outside 4 (reference_to 0 ∷ reference_to 0 ∷ []) (world string_branch refl) _ refl _
    refl refl primitive_value _ 7 (refl, refl) (false, strings_differ, refl))
    (operate (runs string_branch) (given_main string_branch_nodes) 0 (main_of string_branch refl) string_branch_nodes refl outside 4 (reference_to 0 ∷ reference_to 0 ∷ []) (world string_branch refl) _ refl _ _ _
    (are_moved_by _ _ _ refl, refl) refl)
    (shows _ _ _)

pub a_cast_passes_an_array : MakesOperation array_cast array_cast_nodes (Cast (array_of object_name) 0) 7 (reference_to 3 ∷ [])
a_cast_passes_an_array =
    let made = advanced _ _ _ _ _ _ (plainly (runs array_cast) (given_main array_cast_nodes) 0 (main_of array_cast refl) array_cast_nodes refl outside 1 0 [] (world array_cast refl) _ refl (begun array_cast refl array_cast_nodes refl refl))
    (advance (runs array_cast) 0 (main_of array_cast refl) outside 1 (primitive_value ∷ []) (world array_cast refl) _ refl _
    refl refl (reference_to 3) with_boxes _ (codes "[Llib/Box;" ∷ [], of_references refl (record { class = _; named = refl }) refl, makes_array _ _ 1 _) refl)
    (operate (runs array_cast) (given_main array_cast_nodes) 0 (main_of array_cast refl) array_cast_nodes refl outside 1 (primitive_value ∷ []) (world array_cast refl) _ refl _ with_boxes _
    (record { made = reference_to 3; is_made = makes_array _ _ 1 _; are_left = are_left_by _ _ _ _ _ refl }) refl) in
    takes_operation _ _ _ _ _ _ _ _ made
    (advance (runs array_cast) 0 (main_of array_cast refl) outside 4 (reference_to 3 ∷ []) with_boxes _ refl _
    refl refl primitive_value _ _ (record { class = _; named = refl }, passes_fitting (record { to = refers_to _ 3 _ refl; fits = by_elements _ _ object_name (codes "lib/Box") refl refl (by_class _ _ _ refl (below _ _ _ refl (inl refl) (same _ refl))) }), (refl, refl)) refl)
    (operate (runs array_cast) (given_main array_cast_nodes) 0 (main_of array_cast refl) array_cast_nodes refl outside 4 (reference_to 3 ∷ []) with_boxes _ refl _ _ _
    (passes_fitting (record { to = refers_to _ 3 _ refl; fits = by_elements _ _ object_name (codes "lib/Box") refl refl (by_class _ _ _ refl (below _ _ _ refl (inl refl) (same _ refl))) }), read_alike (reference_to 3 ∷ []) (reference_to 3 ∷ []) refl, refl) refl)
    (shows _ _ _)

pub a_unit_is_copied_below_one : MakesOperation shuffles shuffles_nodes (Assign below_one) 3 (primitive_value ∷ null_value ∷ primitive_value ∷ [])
a_unit_is_copied_below_one =
    takes_operation _ _ _ _ _ _ _ _ (plainly (runs shuffles) (given_main shuffles_nodes) 0 (main_of shuffles refl) shuffles_nodes refl outside 2 0 [] (world shuffles refl) _ refl (begun shuffles refl shuffles_nodes refl refl))
    (advance (runs shuffles) 0 (main_of shuffles refl) outside 2 (null_value ∷ primitive_value ∷ []) (world shuffles refl) _ refl _
    refl refl primitive_value _ 3 (refl, refl) refl)
    (operate (runs shuffles) (given_main shuffles_nodes) 0 (main_of shuffles refl) shuffles_nodes refl outside 2 (null_value ∷ primitive_value ∷ []) (world shuffles refl) _ refl _ _ _
    (are_moved_by _ _ _ refl, refl) refl)
    (shows _ _ _)

pub a_unit_is_copied_below_two : MakesOperation shuffles shuffles_nodes (Assign below_two) 4 (primitive_value ∷ primitive_value ∷ null_value ∷ primitive_value ∷ [])
a_unit_is_copied_below_two =
    takes_operation _ _ _ _ _ _ _ _ (plainly (runs shuffles) (given_main shuffles_nodes) 0 (main_of shuffles refl) shuffles_nodes refl outside 3 0 [] (world shuffles refl) _ refl (begun shuffles refl shuffles_nodes refl refl))
    (advance (runs shuffles) 0 (main_of shuffles refl) outside 3 (primitive_value ∷ null_value ∷ primitive_value ∷ []) (world shuffles refl) _ refl _
    refl refl primitive_value _ 4 (refl, refl) refl)
    (operate (runs shuffles) (given_main shuffles_nodes) 0 (main_of shuffles refl) shuffles_nodes refl outside 3 (primitive_value ∷ null_value ∷ primitive_value ∷ []) (world shuffles refl) _ refl _ _ _
    (are_moved_by _ _ _ refl, refl) refl)
    (shows _ _ _)

pub two_units_are_copied : MakesOperation shuffles shuffles_nodes (Assign both) 5 (primitive_value ∷ primitive_value ∷ null_value ∷ primitive_value ∷ null_value ∷ primitive_value ∷ [])
two_units_are_copied =
    takes_operation _ _ _ _ _ _ _ _ (plainly (runs shuffles) (given_main shuffles_nodes) 0 (main_of shuffles refl) shuffles_nodes refl outside 4 0 [] (world shuffles refl) _ refl (begun shuffles refl shuffles_nodes refl refl))
    (advance (runs shuffles) 0 (main_of shuffles refl) outside 4 (primitive_value ∷ primitive_value ∷ null_value ∷ primitive_value ∷ []) (world shuffles refl) _ refl _
    refl refl primitive_value _ 5 (refl, refl) refl)
    (operate (runs shuffles) (given_main shuffles_nodes) 0 (main_of shuffles refl) shuffles_nodes refl outside 4 (primitive_value ∷ primitive_value ∷ null_value ∷ primitive_value ∷ []) (world shuffles refl) _ refl _ _ _
    (are_moved_by _ _ _ refl, refl) refl)
    (shows _ _ _)

pub two_units_are_copied_below_one : MakesOperation shuffles shuffles_nodes (Assign both_below_one) 6 (primitive_value ∷ primitive_value ∷ null_value ∷ null_value ∷ primitive_value ∷ primitive_value ∷ null_value ∷ primitive_value ∷ [])
two_units_are_copied_below_one =
    takes_operation _ _ _ _ _ _ _ _ (plainly (runs shuffles) (given_main shuffles_nodes) 0 (main_of shuffles refl) shuffles_nodes refl outside 5 0 [] (world shuffles refl) _ refl (begun shuffles refl shuffles_nodes refl refl))
    (advance (runs shuffles) 0 (main_of shuffles refl) outside 5 (primitive_value ∷ primitive_value ∷ null_value ∷ primitive_value ∷ null_value ∷ primitive_value ∷ []) (world shuffles refl) _ refl _
    refl refl primitive_value _ 6 (refl, refl) refl)
    (operate (runs shuffles) (given_main shuffles_nodes) 0 (main_of shuffles refl) shuffles_nodes refl outside 5 (primitive_value ∷ primitive_value ∷ null_value ∷ primitive_value ∷ null_value ∷ primitive_value ∷ []) (world shuffles refl) _ refl _ _ _
    (are_moved_by _ _ _ refl, refl) refl)
    (shows _ _ _)

pub two_units_are_copied_below_two : MakesOperation shuffles shuffles_nodes (Assign both_below_two) 7 (primitive_value ∷ primitive_value ∷ null_value ∷ null_value ∷ null_value ∷ primitive_value ∷ primitive_value ∷ primitive_value ∷ null_value ∷ primitive_value ∷ [])
two_units_are_copied_below_two =
    takes_operation _ _ _ _ _ _ _ _ (plainly (runs shuffles) (given_main shuffles_nodes) 0 (main_of shuffles refl) shuffles_nodes refl outside 6 0 [] (world shuffles refl) _ refl (begun shuffles refl shuffles_nodes refl refl))
    (advance (runs shuffles) 0 (main_of shuffles refl) outside 6 (primitive_value ∷ primitive_value ∷ null_value ∷ null_value ∷ primitive_value ∷ primitive_value ∷ null_value ∷ primitive_value ∷ []) (world shuffles refl) _ refl _
    refl refl primitive_value _ 7 (refl, refl) refl)
    (operate (runs shuffles) (given_main shuffles_nodes) 0 (main_of shuffles refl) shuffles_nodes refl outside 6 (primitive_value ∷ primitive_value ∷ null_value ∷ null_value ∷ primitive_value ∷ primitive_value ∷ null_value ∷ primitive_value ∷ []) (world shuffles refl) _ refl _ _ _
    (are_moved_by _ _ _ refl, refl) refl)
    (shows _ _ _)

pub two_units_are_swapped : MakesOperation shuffles shuffles_nodes (Assign swapped) 8 (primitive_value ∷ primitive_value ∷ null_value ∷ null_value ∷ null_value ∷ primitive_value ∷ primitive_value ∷ primitive_value ∷ primitive_value ∷ null_value ∷ [])
two_units_are_swapped =
    takes_operation _ _ _ _ _ _ _ _ (plainly (runs shuffles) (given_main shuffles_nodes) 0 (main_of shuffles refl) shuffles_nodes refl outside 7 0 [] (world shuffles refl) _ refl (begun shuffles refl shuffles_nodes refl refl))
    (advance (runs shuffles) 0 (main_of shuffles refl) outside 7 (primitive_value ∷ primitive_value ∷ null_value ∷ null_value ∷ null_value ∷ primitive_value ∷ primitive_value ∷ primitive_value ∷ null_value ∷ primitive_value ∷ []) (world shuffles refl) _ refl _
    refl refl primitive_value _ 8 (refl, refl) refl)
    (operate (runs shuffles) (given_main shuffles_nodes) 0 (main_of shuffles refl) shuffles_nodes refl outside 7 (primitive_value ∷ primitive_value ∷ null_value ∷ null_value ∷ null_value ∷ primitive_value ∷ primitive_value ∷ primitive_value ∷ null_value ∷ primitive_value ∷ []) (world shuffles refl) _ refl _ _ _
    (are_moved_by _ _ _ refl, refl) refl)
    (shows _ _ _)
