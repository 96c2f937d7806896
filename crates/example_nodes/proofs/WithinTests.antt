-- The steps within a method that test, load other constants, or look at an object that must be there.
use Rattle.std.proofs.Common.{codes, inl, inr, true, false, [], ◌∷◌, refl, arith}
use Rattle.jvm_model.specs.declared.site.SiteKind.TheVariants.{New as new_kind}
use Rattle.op_model.specs.declared.op.Op.TheVariants.{Assign, Constant, Cast, Probe}
use Rattle.machine_bytecode.specs.Machine.{of_primitives}
use Rattle.machine_bytecode.specs.Machine.LoadsConstant.{of_class as loads_class}
use Rattle.machine_bytecode.specs.Objects.Passes.{no_object as passes_null}
use Rattle.machine_bytecode.specs.Start.{boot_site}
use Rattle.machine_bytecode.specs.States.{primitive_value, null_value, reference_to, World, with_object, new_array, site_at}
use Rattle.example_machine.specs.Within.{runs, branch, lookup, null_branch, box_branch, same_branch, other_branch, class_constant, null_cast, monitor, numbers, first_number}
use Rattle.example_machine.proofs.Facts.{field_row, refers_to, is_array, makes_array, shows}
use Rattle.example_machine.proofs.Runs.{advance, frame_at}
use Rattle.example_machine.proofs.WithinStart.{outside, main_of, world, names_it, box_type}
use Rattle.example_nodes.specs.Lowering.{primitive_in}
use Rattle.example_nodes.specs.Within.{given_main, MakesOperation, branch_nodes, lookup_nodes, null_branch_nodes, box_branch_nodes, same_branch_nodes, other_branch_nodes, class_constant_nodes, null_cast_nodes, monitor_nodes, numbers_nodes, first_number_nodes}
use Rattle.example_nodes.proofs.Slots.{are_left_by, are_moved_by, read_alike}
use Rattle.example_nodes.proofs.Steps.{operate, plainly, advanced, takes_operation}
use Rattle.example_nodes.proofs.WithinRuns.{begun}

-- ---- branches

pub a_branch_goes_on : MakesOperation branch branch_nodes (Assign (primitive_in 0 ∷ [])) 4 []
a_branch_goes_on =
    takes_operation _ _ _ _ _ _ _ _ (plainly (runs branch) (given_main branch_nodes) 0 (main_of branch refl) branch_nodes refl outside 1 0 [] (world branch refl) _ refl (begun branch refl branch_nodes refl refl))
    (advance (runs branch) 0 (main_of branch refl) outside 1 (primitive_value ∷ []) (world branch refl) _ refl _
    refl refl primitive_value _ 4 (refl, refl) (inl refl))
    (operate (runs branch) (given_main branch_nodes) 0 (main_of branch refl) branch_nodes refl outside 1 (primitive_value ∷ []) (world branch refl) _ refl _ _ _
    (are_moved_by _ _ _ refl, refl) refl)
    (shows _ _ _)

pub a_branch_jumps : MakesOperation branch branch_nodes (Assign (primitive_in 0 ∷ [])) 5 []
a_branch_jumps =
    takes_operation _ _ _ _ _ _ _ _ (plainly (runs branch) (given_main branch_nodes) 0 (main_of branch refl) branch_nodes refl outside 1 0 [] (world branch refl) _ refl (begun branch refl branch_nodes refl refl))
    (advance (runs branch) 0 (main_of branch refl) outside 1 (primitive_value ∷ []) (world branch refl) _ refl _
    refl refl primitive_value _ 5 (refl, refl) (inr (0, omega arith, refl)))
    (operate (runs branch) (given_main branch_nodes) 0 (main_of branch refl) branch_nodes refl outside 1 (primitive_value ∷ []) (world branch refl) _ refl _ _ _
    (are_moved_by _ _ _ refl, refl) refl)
    (shows _ _ _)

pub a_lookup_goes_to_a_target : MakesOperation lookup lookup_nodes (Assign (primitive_in 0 ∷ [])) 21 []
a_lookup_goes_to_a_target =
    takes_operation _ _ _ _ _ _ _ _ (plainly (runs lookup) (given_main lookup_nodes) 0 (main_of lookup refl) lookup_nodes refl outside 1 0 [] (world lookup refl) _ refl (begun lookup refl lookup_nodes refl refl))
    (advance (runs lookup) 0 (main_of lookup refl) outside 1 (primitive_value ∷ []) (world lookup refl) _ refl _
    refl refl primitive_value _ 21 (refl, refl) (1, omega arith, refl))
    (operate (runs lookup) (given_main lookup_nodes) 0 (main_of lookup refl) lookup_nodes refl outside 1 (primitive_value ∷ []) (world lookup refl) _ refl _ _ _
    (are_moved_by _ _ _ refl, refl) refl)
    (shows _ _ _)

-- ---- tests of references, of which each outcome is open on nodes

pub a_test_for_null_jumps : MakesOperation null_branch null_branch_nodes (Assign (primitive_in 0 ∷ [])) 5 []
a_test_for_null_jumps =
    takes_operation _ _ _ _ _ _ _ _ (plainly (runs null_branch) (given_main null_branch_nodes) 0 (main_of null_branch refl) null_branch_nodes refl outside 1 0 [] (world null_branch refl) _ refl (begun null_branch refl null_branch_nodes refl refl))
    (advance (runs null_branch) 0 (main_of null_branch refl) outside 1 (null_value ∷ []) (world null_branch refl) _ refl _
    refl refl primitive_value _ 5 (refl, refl) (0, omega arith, refl))
    (operate (runs null_branch) (given_main null_branch_nodes) 0 (main_of null_branch refl) null_branch_nodes refl outside 1 (null_value ∷ []) (world null_branch refl) _ refl _ _ _
    (are_moved_by _ _ _ refl, refl) refl)
    (shows _ _ _)

pub a_test_for_null_goes_on : MakesOperation box_branch box_branch_nodes (Assign (primitive_in 0 ∷ [])) 6 []
a_test_for_null_goes_on =
    let first = advanced _ _ _ _ _ _ (begun box_branch refl box_branch_nodes refl refl)
    (advance (runs box_branch) 0 (main_of box_branch refl) outside 0 [] (world box_branch refl) _ refl _
    (field_row _ _ _ _ _ refl box_type) refl (reference_to 2) _ _ (names_it box_branch, (refl, refl)) refl)
    (operate (runs box_branch) (given_main box_branch_nodes) 0 (main_of box_branch refl) box_branch_nodes refl outside 0 [] (world box_branch refl) _ refl _ _ _
    (record { value = reference_to 2; is_read = refl; are_left = are_left_by _ _ _ _ _ refl; same = refl }) refl) in
    takes_operation _ _ _ _ _ _ _ _ first
    (advance (runs box_branch) 0 (main_of box_branch refl) outside 3 (reference_to 2 ∷ []) (world box_branch refl) _ refl _
    refl refl primitive_value _ 6 (refl, refl) refl)
    (operate (runs box_branch) (given_main box_branch_nodes) 0 (main_of box_branch refl) box_branch_nodes refl outside 3 (reference_to 2 ∷ []) (world box_branch refl) _ refl _ _ _
    (are_moved_by _ _ _ refl, refl) refl)
    (shows _ _ _)

pub a_test_of_one_object_jumps : MakesOperation same_branch same_branch_nodes (Assign (primitive_in 0 ∷ primitive_in 1 ∷ [])) 10 []
a_test_of_one_object_jumps =
    let first = advanced _ _ _ _ _ _ (begun same_branch refl same_branch_nodes refl refl)
    (advance (runs same_branch) 0 (main_of same_branch refl) outside 0 [] (world same_branch refl) _ refl _
    (field_row _ _ _ _ _ refl box_type) refl (reference_to 2) _ _ (names_it same_branch, (refl, refl)) refl)
    (operate (runs same_branch) (given_main same_branch_nodes) 0 (main_of same_branch refl) same_branch_nodes refl outside 0 [] (world same_branch refl) _ refl _ _ _
    (record { value = reference_to 2; is_read = refl; are_left = are_left_by _ _ _ _ _ refl; same = refl }) refl) in
    let second = advanced _ _ _ _ _ _ first
    (advance (runs same_branch) 0 (main_of same_branch refl) outside 3 (reference_to 2 ∷ []) (world same_branch refl) _ refl _
    (field_row _ _ _ _ _ refl box_type) refl (reference_to 2) _ _ (names_it same_branch, (refl, refl)) refl)
    (operate (runs same_branch) (given_main same_branch_nodes) 0 (main_of same_branch refl) same_branch_nodes refl outside 3 (reference_to 2 ∷ []) (world same_branch refl) _ refl _ _ _
    (record { value = reference_to 2; is_read = refl; are_left = are_left_by _ _ _ _ _ refl; same = refl }) refl) in
    takes_operation _ _ _ _ _ _ _ _ second
    (advance (runs same_branch) 0 (main_of same_branch refl) outside 6 (reference_to 2 ∷ reference_to 2 ∷ []) (world same_branch refl) _ refl _
    refl refl primitive_value _ 10 (refl, refl) (true, (λ made. refl), (0, omega arith, refl)))
    (operate (runs same_branch) (given_main same_branch_nodes) 0 (main_of same_branch refl) same_branch_nodes refl outside 6 (reference_to 2 ∷ reference_to 2 ∷ []) (world same_branch refl) _ refl _ _ _
    (are_moved_by _ _ _ refl, refl) refl)
    (shows _ _ _)

pub a_test_of_two_references_goes_on : MakesOperation other_branch other_branch_nodes (Assign (primitive_in 0 ∷ primitive_in 1 ∷ [])) 7 []
a_test_of_two_references_goes_on =
    let first = advanced _ _ _ _ _ _ (begun other_branch refl other_branch_nodes refl refl)
    (advance (runs other_branch) 0 (main_of other_branch refl) outside 0 [] (world other_branch refl) _ refl _
    (field_row _ _ _ _ _ refl box_type) refl (reference_to 2) _ _ (names_it other_branch, (refl, refl)) refl)
    (operate (runs other_branch) (given_main other_branch_nodes) 0 (main_of other_branch refl) other_branch_nodes refl outside 0 [] (world other_branch refl) _ refl _ _ _
    (record { value = reference_to 2; is_read = refl; are_left = are_left_by _ _ _ _ _ refl; same = refl }) refl) in
    takes_operation _ _ _ _ _ _ _ _ (plainly (runs other_branch) (given_main other_branch_nodes) 0 (main_of other_branch refl) other_branch_nodes refl outside 1 3 (reference_to 2 ∷ []) (world other_branch refl) _ refl first)
    (advance (runs other_branch) 0 (main_of other_branch refl) outside 4 (reference_to 2 ∷ null_value ∷ []) (world other_branch refl) _ refl _
    refl refl primitive_value _ 7 (refl, refl) (false, refl, refl))
    (operate (runs other_branch) (given_main other_branch_nodes) 0 (main_of other_branch refl) other_branch_nodes refl outside 4 (reference_to 2 ∷ null_value ∷ []) (world other_branch refl) _ refl _ _ _
    (are_moved_by _ _ _ refl, refl) refl)
    (shows _ _ _)

-- ---- constants and casts

pub a_class_is_loaded : MakesOperation class_constant class_constant_nodes (Constant (boot_site (codes "java/lang/Class")) 0) 2 (reference_to 1 ∷ [])
a_class_is_loaded =
    takes_operation _ _ _ _ _ _ _ _ (begun class_constant refl class_constant_nodes refl refl)
    (advance (runs class_constant) 0 (main_of class_constant refl) outside 0 [] (world class_constant refl) _ refl _
    refl refl (reference_to 1) _ _ (loads_class 9 refl (record { place = 1; stands = refl; is = refl }), refl) refl)
    (operate (runs class_constant) (given_main class_constant_nodes) 0 (main_of class_constant refl) class_constant_nodes refl outside 0 [] (world class_constant refl) _ refl _ _ _
    (record { value = reference_to 1; is_read = record { place = 1; stands = refl; is = refl }; are_left = are_left_by _ _ _ _ _ refl; same = refl }) refl)
    (shows _ _ _)

pub a_cast_passes_null : MakesOperation null_cast null_cast_nodes (Cast (codes "lib/Box") 0) 4 (null_value ∷ [])
a_cast_passes_null =
    takes_operation _ _ _ _ _ _ _ _ (plainly (runs null_cast) (given_main null_cast_nodes) 0 (main_of null_cast refl) null_cast_nodes refl outside 1 0 [] (world null_cast refl) _ refl (begun null_cast refl null_cast_nodes refl refl))
    (advance (runs null_cast) 0 (main_of null_cast refl) outside 1 (null_value ∷ []) (world null_cast refl) _ refl _
    refl refl primitive_value _ _ (record { class = _; named = refl }, passes_null refl, (refl, refl)) refl)
    (operate (runs null_cast) (given_main null_cast_nodes) 0 (main_of null_cast refl) null_cast_nodes refl outside 1 (null_value ∷ []) (world null_cast refl) _ refl _ _ _
    (passes_null refl, read_alike (null_value ∷ []) (null_value ∷ []) refl, refl) refl)
    (shows _ _ _)

-- ---- objects that must be there

pub a_monitor_is_entered : MakesOperation monitor monitor_nodes (Probe 0) 4 []
a_monitor_is_entered =
    let first = advanced _ _ _ _ _ _ (begun monitor refl monitor_nodes refl refl)
    (advance (runs monitor) 0 (main_of monitor refl) outside 0 [] (world monitor refl) _ refl _
    (field_row _ _ _ _ _ refl box_type) refl (reference_to 2) _ _ (names_it monitor, (refl, refl)) refl)
    (operate (runs monitor) (given_main monitor_nodes) 0 (main_of monitor refl) monitor_nodes refl outside 0 [] (world monitor refl) _ refl _ _ _
    (record { value = reference_to 2; is_read = refl; are_left = are_left_by _ _ _ _ _ refl; same = refl }) refl) in
    takes_operation _ _ _ _ _ _ _ _ first
    (advance (runs monitor) 0 (main_of monitor refl) outside 3 (reference_to 2 ∷ []) (world monitor refl) _ refl _
    refl refl primitive_value _ _ (refers_to _ 2 _ refl, (refl, refl)) refl)
    (operate (runs monitor) (given_main monitor_nodes) 0 (main_of monitor refl) monitor_nodes refl outside 3 (reference_to 2 ∷ []) (world monitor refl) _ refl _ _ _
    ((refers_to _ 2 _ refl, refl), are_left_by _ _ _ _ _ refl) refl)
    (shows _ _ _)

abbrev with_numbers : World
with_numbers = with_object (world numbers refl) (new_array (site_at new_kind (frame_at 0 1 (primitive_value ∷ [])) (codes "[I")) (primitive_value ∷ primitive_value ∷ []) 0)

pub the_length_of_an_array_is_read : MakesOperation numbers numbers_nodes (Probe 0) 4 (primitive_value ∷ [])
the_length_of_an_array_is_read =
    let made = advanced _ _ _ _ _ _ (plainly (runs numbers) (given_main numbers_nodes) 0 (main_of numbers refl) numbers_nodes refl outside 1 0 [] (world numbers refl) _ refl (begun numbers refl numbers_nodes refl refl))
    (advance (runs numbers) 0 (main_of numbers refl) outside 1 (primitive_value ∷ []) (world numbers refl) _ refl _
    refl refl (reference_to 3) with_numbers _ (codes "[I" ∷ [], of_primitives refl refl, makes_array _ _ 2 _) refl)
    (operate (runs numbers) (given_main numbers_nodes) 0 (main_of numbers refl) numbers_nodes refl outside 1 (primitive_value ∷ []) (world numbers refl) _ refl _ with_numbers _
    (record { made = reference_to 3; is_made = makes_array _ _ 2 _; are_left = are_left_by _ _ _ _ _ refl }) refl) in
    takes_operation _ _ _ _ _ _ _ _ made
    (advance (runs numbers) 0 (main_of numbers refl) outside 3 (reference_to 3 ∷ []) with_numbers _ refl _
    refl refl primitive_value _ _ (record { to = refers_to _ 3 _ refl; values = _; holds = refl }, (refl, refl)) refl)
    (operate (runs numbers) (given_main numbers_nodes) 0 (main_of numbers refl) numbers_nodes refl outside 3 (reference_to 3 ∷ []) with_numbers _ refl _ _ _
    ((refers_to _ 3 _ refl, refl), are_left_by _ _ _ _ _ refl) refl)
    (shows _ _ _)

abbrev with_number : World
with_number = with_object (world first_number refl) (new_array (site_at new_kind (frame_at 0 1 (primitive_value ∷ [])) (codes "[I")) (primitive_value ∷ []) 0)

pub a_number_is_read : MakesOperation first_number first_number_nodes (Probe 0) 5 (primitive_value ∷ [])
a_number_is_read =
    let made = advanced _ _ _ _ _ _ (plainly (runs first_number) (given_main first_number_nodes) 0 (main_of first_number refl) first_number_nodes refl outside 1 0 [] (world first_number refl) _ refl (begun first_number refl first_number_nodes refl refl))
    (advance (runs first_number) 0 (main_of first_number refl) outside 1 (primitive_value ∷ []) (world first_number refl) _ refl _
    refl refl (reference_to 3) with_number _ (codes "[I" ∷ [], of_primitives refl refl, makes_array _ _ 1 _) refl)
    (operate (runs first_number) (given_main first_number_nodes) 0 (main_of first_number refl) first_number_nodes refl outside 1 (primitive_value ∷ []) (world first_number refl) _ refl _ with_number _
    (record { made = reference_to 3; is_made = makes_array _ _ 1 _; are_left = are_left_by _ _ _ _ _ refl }) refl) in
    takes_operation _ _ _ _ _ _ _ _ (plainly (runs first_number) (given_main first_number_nodes) 0 (main_of first_number refl) first_number_nodes refl outside 1 3 (reference_to 3 ∷ []) with_number _ refl made)
    (advance (runs first_number) 0 (main_of first_number refl) outside 4 (reference_to 3 ∷ primitive_value ∷ []) with_number _ refl _
    refl refl primitive_value _ _ (is_array _ 3 _ _ refl refl, (refl, refl)) refl)
    (operate (runs first_number) (given_main first_number_nodes) 0 (main_of first_number refl) first_number_nodes refl outside 4 (reference_to 3 ∷ primitive_value ∷ []) with_number _ refl _ _ _
    ((refers_to _ 3 _ refl, refl), are_left_by _ _ _ _ _ refl) refl)
    (shows _ _ _)
