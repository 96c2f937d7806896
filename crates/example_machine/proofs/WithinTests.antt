-- The steps within a method that test references, load other constants, or raise.
use Rattle.std.proofs.Common.{codes, ◌≡◌, true, false, [], ◌∷◌, refl, arith}
use Rattle.jvm_model.specs.declared.site.SiteKind.TheVariants.{Boot, New, Thrown}
use Rattle.jvm_model.specs.Table.{null_pointer, array_index, negative_size}
use Rattle.machine_bytecode.specs.Machine.LoadsConstant.{of_class as loads_class}
use Rattle.machine_bytecode.specs.Machine.{advances, raises, of_primitives}
use Rattle.machine_bytecode.specs.States.{primitive_value, null_value, reference_to, World, with_object, new_array, site_at}
use Rattle.example_machine.specs.Taking.{Takes, Shows, HasObject, Advancing, Raising}
use Rattle.example_machine.specs.Within.{runs, null_branch, box_branch, same_branch, other_branch, lookup, class_constant, monitor, first_number, numbers, null_field, null_throw}
use Rattle.example_machine.proofs.Facts.{shows, has_object, field_row, is_array, makes_array, refers_to}
use Rattle.example_machine.proofs.Runs.{Arrives, goes, takes, frame_at, advance, raise, plainly}
use Rattle.example_machine.proofs.WithinStart.{outside, main_of, world, main_at, begun, names_it, box_type}

pub a_test_for_null_jumps : Takes (runs null_branch) (λ s t. Advancing (runs null_branch) (codes "ifnull") s t × Shows 5 [] t)
a_test_for_null_jumps =
    let step = advance (runs null_branch) 0 (main_of null_branch refl) outside 1 (null_value ∷ []) (world null_branch refl) _ refl _
    refl refl primitive_value _ 5 (refl, refl) (0, omega arith, refl) in
    takes _ _ _ _ (plainly (runs null_branch) 0 (main_of null_branch refl) outside 1 0 [] _ _ refl (begun null_branch refl)) (advances step.at step.step) (step, shows _ _ _)

pub a_test_for_null_goes_on : Takes (runs box_branch) (λ s t. Advancing (runs box_branch) (codes "ifnull") s t × Shows 6 [] t)
a_test_for_null_goes_on =
    let first = advance (runs box_branch) 0 (main_of box_branch refl) outside 0 [] (world box_branch refl) _ refl _
    (field_row _ _ _ _ _ refl box_type) refl (reference_to 2) _ _ (names_it box_branch, (refl, refl)) refl in
    let step = advance (runs box_branch) 0 (main_of box_branch refl) outside 3 (reference_to 2 ∷ []) (world box_branch refl) _ refl _
    refl refl primitive_value _ _ (refl, refl) refl in
    takes _ _ _ _ (goes _ _ _ (begun box_branch refl) (advances first.at first.step)) (advances step.at step.step) (step, shows _ _ _)

pub a_test_of_one_object_jumps : Takes (runs same_branch) (λ s t. Advancing (runs same_branch) (codes "if_acmpeq") s t × Shows 10 [] t)
a_test_of_one_object_jumps =
    let first = advance (runs same_branch) 0 (main_of same_branch refl) outside 0 [] (world same_branch refl) _ refl _
    (field_row _ _ _ _ _ refl box_type) refl (reference_to 2) _ _ (names_it same_branch, (refl, refl)) refl in
    let second = advance (runs same_branch) 0 (main_of same_branch refl) outside 3 (reference_to 2 ∷ []) (world same_branch refl) _ refl _
    (field_row _ _ _ _ _ refl box_type) refl (reference_to 2) _ _ (names_it same_branch, (refl, refl)) refl in
    let step = advance (runs same_branch) 0 (main_of same_branch refl) outside 6 (reference_to 2 ∷ reference_to 2 ∷ []) (world same_branch refl) _ refl _
    refl refl primitive_value _ 10 (refl, refl) (true, (λ made. refl), (0, omega arith, refl)) in
    takes _ _ _ _ (goes _ _ _ (goes _ _ _ (begun same_branch refl) (advances first.at first.step)) (advances second.at second.step)) (advances step.at step.step) (step, shows _ _ _)

pub a_test_of_two_references_goes_on : Takes (runs other_branch) (λ s t. Advancing (runs other_branch) (codes "if_acmpeq") s t × Shows 7 [] t)
a_test_of_two_references_goes_on =
    let first = advance (runs other_branch) 0 (main_of other_branch refl) outside 0 [] (world other_branch refl) _ refl _
    (field_row _ _ _ _ _ refl box_type) refl (reference_to 2) _ _ (names_it other_branch, (refl, refl)) refl in
    let pushed = plainly (runs other_branch) 0 (main_of other_branch refl) outside 1 3 (reference_to 2 ∷ []) _ _ refl (goes _ _ _ (begun other_branch refl) (advances first.at first.step)) in
    let step = advance (runs other_branch) 0 (main_of other_branch refl) outside 4 (reference_to 2 ∷ null_value ∷ []) (world other_branch refl) _ refl _
    refl refl primitive_value _ _ (refl, refl) (false, refl, refl) in
    takes _ _ _ _ pushed (advances step.at step.step) (step, shows _ _ _)

pub a_lookup_goes_to_a_target : Takes (runs lookup) (λ s t. Advancing (runs lookup) (codes "lookupswitch") s t × Shows 21 [] t)
a_lookup_goes_to_a_target =
    let step = advance (runs lookup) 0 (main_of lookup refl) outside 1 (primitive_value ∷ []) (world lookup refl) _ refl _
    refl refl primitive_value _ 21 (refl, refl) (1, omega arith, refl) in
    takes _ _ _ _ (plainly (runs lookup) 0 (main_of lookup refl) outside 1 0 [] _ _ refl (begun lookup refl)) (advances step.at step.step) (step, shows _ _ _)

pub a_class_is_loaded : Takes (runs class_constant)
    (λ s t. Advancing (runs class_constant) (codes "ldc") s t × Shows 2 (reference_to 1 ∷ []) t × HasObject 1 Boot (codes "java/lang/Class") t)
a_class_is_loaded =
    let step = advance (runs class_constant) 0 (main_of class_constant refl) outside 0 [] (world class_constant refl) _ refl _
    refl refl (reference_to 1) _ _ (loads_class 9 refl (record { place = 1; stands = refl; is = refl }), refl) refl in
    takes _ _ _ _ (begun class_constant refl) (advances step.at step.step) (step, shows _ _ _, has_object _ _ _ refl)

pub a_monitor_is_entered : Takes (runs monitor) (λ s t. Advancing (runs monitor) (codes "monitorenter") s t × Shows 4 [] t × (t.world ≡ s.world))
a_monitor_is_entered =
    let first = advance (runs monitor) 0 (main_of monitor refl) outside 0 [] (world monitor refl) _ refl _
    (field_row _ _ _ _ _ refl box_type) refl (reference_to 2) _ _ (names_it monitor, (refl, refl)) refl in
    let step = advance (runs monitor) 0 (main_of monitor refl) outside 3 (reference_to 2 ∷ []) (world monitor refl) _ refl _
    refl refl primitive_value _ _ (refers_to _ 2 _ refl, (refl, refl)) refl in
    takes _ _ _ _ (goes _ _ _ (begun monitor refl) (advances first.at first.step)) (advances step.at step.step) (step, shows _ _ _, refl)

abbrev with_number : World
with_number = with_object (world first_number refl) (new_array (site_at New (frame_at 0 1 (primitive_value ∷ [])) (codes "[I")) (primitive_value ∷ []) 0)

at_number : Arrives (runs first_number) (main_at first_number refl 4 (reference_to 3 ∷ primitive_value ∷ []) with_number)
at_number =
    let made = advance (runs first_number) 0 (main_of first_number refl) outside 1 (primitive_value ∷ []) (world first_number refl) _ refl _
    refl refl (reference_to 3) with_number _ (codes "[I" ∷ [], of_primitives refl refl, makes_array _ _ 1 _) refl in
    plainly (runs first_number) 0 (main_of first_number refl) outside 1 3 (reference_to 3 ∷ []) with_number _ refl (goes _ _ _ (plainly (runs first_number) 0 (main_of first_number refl) outside 1 0 [] _ _ refl (begun first_number refl)) (advances made.at made.step))

pub a_number_is_read : Takes (runs first_number) (λ s t. Advancing (runs first_number) (codes "iaload") s t × Shows 5 (primitive_value ∷ []) t)
a_number_is_read =
    let step = advance (runs first_number) 0 (main_of first_number refl) outside 4 (reference_to 3 ∷ primitive_value ∷ []) with_number _ refl _
    refl refl primitive_value _ _ (is_array _ 3 _ _ refl refl, (refl, refl)) refl in
    takes _ _ _ _ at_number (advances step.at step.step) (step, shows _ _ _)

pub an_index_raises : Takes (runs first_number)
    (λ s t. Raising (runs first_number) (codes "iaload") (codes "java/lang/ArrayIndexOutOfBoundsException") s t × HasObject 4 Thrown (codes "java/lang/ArrayIndexOutOfBoundsException") t)
an_index_raises =
    let step = raise (runs first_number) 0 (main_of first_number refl) outside 4 (reference_to 3 ∷ primitive_value ∷ []) with_number _ refl _
    refl refl array_index (1, omega arith, refl) (record { default = primitive_value; of_action = refl; array = is_array _ 3 _ _ refl refl }) in
    takes _ _ _ _ at_number (raises step.at step.step) (step, has_object _ _ _ refl)

pub a_size_raises : Takes (runs numbers)
    (λ s t. Raising (runs numbers) (codes "newarray") (codes "java/lang/NegativeArraySizeException") s t × HasObject 3 Thrown (codes "java/lang/NegativeArraySizeException") t)
a_size_raises =
    let step = raise (runs numbers) 0 (main_of numbers refl) outside 1 (primitive_value ∷ []) (world numbers refl) _ refl _
    refl refl negative_size (0, omega arith, refl) tt in
    takes _ _ _ _ (plainly (runs numbers) 0 (main_of numbers refl) outside 1 0 [] _ _ refl (begun numbers refl)) (raises step.at step.step) (step, has_object _ _ _ refl)

pub a_field_of_null_raises : Takes (runs null_field)
    (λ s t. Raising (runs null_field) (codes "getfield") (codes "java/lang/NullPointerException") s t × HasObject 3 Thrown (codes "java/lang/NullPointerException") t)
a_field_of_null_raises =
    let step = raise (runs null_field) 0 (main_of null_field refl) outside 1 (null_value ∷ []) (world null_field refl) _ refl _
    (field_row _ _ _ _ _ refl box_type) refl null_pointer (0, omega arith, refl) refl in
    takes _ _ _ _ (plainly (runs null_field) 0 (main_of null_field refl) outside 1 0 [] _ _ refl (begun null_field refl)) (raises step.at step.step) (step, has_object _ _ _ refl)

pub a_throw_of_null_raises : Takes (runs null_throw)
    (λ s t. Raising (runs null_throw) (codes "athrow") (codes "java/lang/NullPointerException") s t × HasObject 3 Thrown (codes "java/lang/NullPointerException") t)
a_throw_of_null_raises =
    let step = raise (runs null_throw) 0 (main_of null_throw refl) outside 1 (null_value ∷ []) (world null_throw refl) _ refl _
    refl refl null_pointer (0, omega arith, refl) refl in
    takes _ _ _ _ (plainly (runs null_throw) 0 (main_of null_throw refl) outside 1 0 [] _ _ refl (begun null_throw refl)) (raises step.at step.step) (step, has_object _ _ _ refl)
