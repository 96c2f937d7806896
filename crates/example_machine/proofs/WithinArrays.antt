-- The steps within a method on arrays, casts, and steps that raise.
use Rattle.std.proofs.Common.{codes, inl, [], ◌∷◌, refl, arith}
use Rattle.jvm_model.specs.Programs.{object_name}
use Rattle.jvm_model.specs.Subtypes.{same, below, by_class, by_elements, Fits}
use Rattle.jvm_model.specs.Table.{arithmetic, array_store, class_cast}
use Rattle.machine_bytecode.specs.Machine.{advances, raises, of_primitives, of_references, nested}
use Rattle.machine_bytecode.specs.Objects.{string_name, fitting}
use Rattle.machine_bytecode.specs.Objects.Passes.{no_object as passes_null, fitting as passes_fitting}
use Rattle.machine_bytecode.specs.States.{Value, primitive_value, null_value, reference_to, World, with_object, new_array, site_at}
use Rattle.jvm_model.specs.declared.site.SiteKind.TheVariants.{New, Thrown}
use Rattle.example_machine.specs.Taking.{Takes, Shows, HasObject, HasArray, Advancing, Raising}
use Rattle.example_machine.specs.Within.{program_with, runs, runs_with_arguments, numbers, tables, boxes, misfit, division, null_cast, box_cast, string_cast, array_cast, argument}
use Rattle.example_machine.proofs.WithinStart.{outside, main_of, world, main_at, begun, names_it, box_type, argument_array, main_with_argument, begun_with_argument}
use Rattle.example_machine.proofs.Facts.{field_row, has_array, has_object, is_array, makes_array, refers_to, shows}
use Rattle.example_machine.proofs.Runs.{Arrives, raise, goes, takes, first_world, frame_at, advance, plainly}
use Rattle.example_machine.proofs.Types.{no_fit}

-- ---- arrays

at_numbers : Arrives (runs numbers) (main_at numbers refl 1 (primitive_value ∷ []) (world numbers refl))
at_numbers = plainly (runs numbers) 0 (main_of numbers refl) outside 1 0 [] _ _ refl (begun numbers refl)

abbrev with_numbers : World
with_numbers = with_object (world numbers refl) (new_array (site_at New (frame_at 0 1 (primitive_value ∷ [])) (codes "[I")) (primitive_value ∷ primitive_value ∷ []) 0)

makes_numbers : Advancing (runs numbers) (codes "newarray") (main_at numbers refl 1 (primitive_value ∷ []) (world numbers refl)) (main_at numbers refl 3 (reference_to 3 ∷ []) with_numbers)
makes_numbers = advance (runs numbers) 0 (main_of numbers refl) outside 1 (primitive_value ∷ []) (world numbers refl) _ refl _
    refl refl (reference_to 3) _ _ (codes "[I" ∷ [], of_primitives refl refl, makes_array _ _ 2 _) refl

pub an_array_of_numbers_is_made : Takes (runs numbers)
    (λ s t. Advancing (runs numbers) (codes "newarray") s t × Shows 3 (reference_to 3 ∷ []) t × HasArray 3 (codes "[I") (primitive_value ∷ primitive_value ∷ []) t)
an_array_of_numbers_is_made =
    takes _ _ _ _ at_numbers (advances makes_numbers.at makes_numbers.step) (makes_numbers, shows _ _ _, has_array _ _ _ _ refl refl)

pub the_length_of_an_array_is_read : Takes (runs numbers) (λ s t. Advancing (runs numbers) (codes "arraylength") s t × Shows 4 (primitive_value ∷ []) t)
the_length_of_an_array_is_read =
    let step = advance (runs numbers) 0 (main_of numbers refl) outside 3 (reference_to 3 ∷ []) with_numbers _ refl _
    refl refl primitive_value _ _ (record { to = refers_to _ 3 _ refl; values = _; holds = refl }, (refl, refl)) refl in
    takes _ _ _ _ (goes _ _ _ at_numbers (advances makes_numbers.at makes_numbers.step)) (advances step.at step.step) (step, shows _ _ _)

pub an_array_of_arrays_is_made : Takes (runs tables)
    (λ s t. Advancing (runs tables) (codes "multianewarray") s t × Shows 6 (reference_to 3 ∷ []) t × HasArray 3 (codes "[[I") (reference_to 4 ∷ reference_to 5 ∷ []) t × HasArray 4 (codes "[I") (primitive_value ∷ []) t × HasArray 5 (codes "[I") (primitive_value ∷ []) t)
an_array_of_arrays_is_made =
    let step = advance (runs tables) 0 (main_of tables refl) outside 2 (primitive_value ∷ primitive_value ∷ []) (world tables refl) _ refl _
    refl refl (reference_to 3) _ _ (codes "[[I" ∷ codes "[I" ∷ [], nested refl (record { class = _; named = refl }) refl, record { dimensions = (record { site = site_at New (frame_at 0 2 (primitive_value ∷ primitive_value ∷ [])) (codes "[[I"); long = 2 }) ∷ (record { site = site_at New (frame_at 0 2 (primitive_value ∷ primitive_value ∷ [])) (codes "[I"); long = 1 }) ∷ []; of_sites = refl; some = omega arith; made_is = refl; after_is = refl }) refl in
    takes _ _ _ _ (plainly (runs tables) 0 (main_of tables refl) outside 2 0 [] _ _ refl (begun tables refl)) (advances step.at step.step)
    (step, shows _ _ _, has_array _ _ _ _ refl refl, has_array _ _ _ _ refl refl, has_array _ _ _ _ refl refl)

at_boxes : Arrives (runs boxes) (main_at boxes refl 1 (primitive_value ∷ primitive_value ∷ []) (world boxes refl))
at_boxes = plainly (runs boxes) 0 (main_of boxes refl) outside 1 0 (primitive_value ∷ []) _ _ refl (begun boxes refl)

abbrev with_boxes : Value → World
with_boxes v = with_object (world boxes refl) (new_array (site_at New (frame_at 0 1 (primitive_value ∷ primitive_value ∷ [])) (codes "[Llib/Box;")) (v ∷ []) 0)

makes_boxes : Advancing (runs boxes) (codes "anewarray") (main_at boxes refl 1 (primitive_value ∷ primitive_value ∷ []) (world boxes refl)) (main_at boxes refl 4 (primitive_value ∷ reference_to 3 ∷ []) (with_boxes null_value))
makes_boxes = advance (runs boxes) 0 (main_of boxes refl) outside 1 (primitive_value ∷ primitive_value ∷ []) (world boxes refl) _ refl _
    refl refl (reference_to 3) _ _ (codes "[Llib/Box;" ∷ [], of_references refl (record { class = _; named = refl }) refl, makes_array _ _ 1 _) refl

pub an_array_of_references_is_made : Takes (runs boxes)
    (λ s t. Advancing (runs boxes) (codes "anewarray") s t × Shows 4 (primitive_value ∷ reference_to 3 ∷ []) t × HasArray 3 (codes "[Llib/Box;") (null_value ∷ []) t)
an_array_of_references_is_made =
    takes _ _ _ _ at_boxes (advances makes_boxes.at makes_boxes.step) (makes_boxes, shows _ _ _, has_array _ _ _ _ refl refl)

stores_box : Advancing (runs boxes) (codes "aastore") (main_at boxes refl 10 (reference_to 3 ∷ reference_to 3 ∷ primitive_value ∷ reference_to 2 ∷ []) (with_boxes null_value)) (main_at boxes refl 11 (reference_to 3 ∷ []) (with_boxes (reference_to 2)))
stores_box = advance (runs boxes) 0 (main_of boxes refl) outside 10 (reference_to 3 ∷ reference_to 3 ∷ primitive_value ∷ reference_to 2 ∷ []) (with_boxes null_value) _ refl _
    refl refl primitive_value _ _ (record { of = is_array _ 3 _ _ refl refl; suits = fitting (codes "lib/Box") refl (record { to = refers_to _ 2 _ refl; fits = by_class _ _ _ refl (same _ refl) }); index = 0; inside = omega arith; is = refl }, refl) refl

at_store : Arrives (runs boxes) (main_at boxes refl 10 (reference_to 3 ∷ reference_to 3 ∷ primitive_value ∷ reference_to 2 ∷ []) (with_boxes null_value))
at_store =
    let made = plainly (runs boxes) 0 (main_of boxes refl) outside 3 4 (primitive_value ∷ reference_to 3 ∷ []) _ _ refl (goes _ _ _ at_boxes (advances makes_boxes.at makes_boxes.step)) in
    let step = advance (runs boxes) 0 (main_of boxes refl) outside 7 (reference_to 3 ∷ reference_to 3 ∷ primitive_value ∷ []) (with_boxes null_value) _ refl _
    (field_row _ _ _ _ _ refl box_type) refl (reference_to 2) _ _ (names_it boxes, (refl, refl)) refl in
    goes _ _ _ made (advances step.at step.step)

pub an_element_is_written : Takes (runs boxes)
    (λ s t. Advancing (runs boxes) (codes "aastore") s t × Shows 11 (reference_to 3 ∷ []) t × HasArray 3 (codes "[Llib/Box;") (reference_to 2 ∷ []) t)
an_element_is_written =
    takes _ _ _ _ at_store (advances stores_box.at stores_box.step) (stores_box, shows _ _ _, has_array _ _ _ _ refl refl)

pub an_element_is_read : Takes (runs boxes) (λ s t. Advancing (runs boxes) (codes "aaload") s t × Shows 14 (reference_to 3 ∷ reference_to 2 ∷ []) t)
an_element_is_read =
    let step = advance (runs boxes) 0 (main_of boxes refl) outside 13 (reference_to 3 ∷ reference_to 3 ∷ primitive_value ∷ []) (with_boxes (reference_to 2)) _ refl _
    refl refl (reference_to 2) _ _ (record { of = is_array _ 3 _ _ refl refl; among = (0, omega arith, refl) }, refl) refl in
    takes _ _ _ _ (plainly (runs boxes) 0 (main_of boxes refl) outside 2 11 (reference_to 3 ∷ []) _ _ refl (goes _ _ _ at_store (advances stores_box.at stores_box.step))) (advances step.at step.step) (step, shows _ _ _)

pub an_argument_is_read : Takes (runs_with_arguments argument) (λ s t. Advancing (runs_with_arguments argument) (codes "aaload") s t × Shows 3 (reference_to 3 ∷ reference_to 0 ∷ []) t)
an_argument_is_read =
    let x = runs_with_arguments argument in
    let w = first_world x argument_array in
    let step = advance x 0 main_with_argument outside 2 (reference_to 3 ∷ reference_to 3 ∷ primitive_value ∷ []) w _ refl _
    refl refl (reference_to 0) _ _ (record { of = is_array _ 3 _ _ refl refl; among = (0, omega arith, refl) }, refl) refl in
    takes _ _ _ _ (plainly x 0 main_with_argument outside 2 0 (reference_to 3 ∷ []) w _ refl begun_with_argument) (advances step.at step.step) (step, shows _ _ _)

-- ---- casts

pub a_cast_passes_null : Takes (runs null_cast) (λ s t. Advancing (runs null_cast) (codes "checkcast") s t × Shows 4 (null_value ∷ []) t)
a_cast_passes_null =
    let step = advance (runs null_cast) 0 (main_of null_cast refl) outside 1 (null_value ∷ []) (world null_cast refl) _ refl _
    refl refl primitive_value _ _ (record { class = _; named = refl }, passes_null refl, (refl, refl)) refl in
    takes _ _ _ _ (plainly (runs null_cast) 0 (main_of null_cast refl) outside 1 0 [] _ _ refl (begun null_cast refl)) (advances step.at step.step) (step, shows _ _ _)

pub a_cast_passes_an_object : Takes (runs box_cast) (λ s t. Advancing (runs box_cast) (codes "checkcast") s t × Shows 6 (reference_to 2 ∷ []) t)
a_cast_passes_an_object =
    let first = advance (runs box_cast) 0 (main_of box_cast refl) outside 0 [] (world box_cast refl) _ refl _
    (field_row _ _ _ _ _ refl box_type) refl (reference_to 2) _ _ (names_it box_cast, (refl, refl)) refl in
    let step = advance (runs box_cast) 0 (main_of box_cast refl) outside 3 (reference_to 2 ∷ []) (world box_cast refl) _ refl _
    refl refl primitive_value _ _ (record { class = _; named = refl }, passes_fitting (record { to = refers_to _ 2 _ refl; fits = by_class _ _ _ refl (same _ refl) }), (refl, refl)) refl in
    takes _ _ _ _ (goes _ _ _ (begun box_cast refl) (advances first.at first.step)) (advances step.at step.step) (step, shows _ _ _)

abbrev with_boxes_to_cast : World
with_boxes_to_cast = with_object (world array_cast refl) (new_array (site_at New (frame_at 0 1 (primitive_value ∷ [])) (codes "[Llib/Box;")) (null_value ∷ []) 0)

pub a_cast_passes_an_array : Takes (runs array_cast)
    (λ s t. Advancing (runs array_cast) (codes "checkcast") s t × Shows 7 (reference_to 3 ∷ []) t × HasArray 3 (codes "[Llib/Box;") (null_value ∷ []) t)
a_cast_passes_an_array =
    let made = advance (runs array_cast) 0 (main_of array_cast refl) outside 1 (primitive_value ∷ []) (world array_cast refl) _ refl _
    refl refl (reference_to 3) with_boxes_to_cast _ (codes "[Llib/Box;" ∷ [], of_references refl (record { class = _; named = refl }) refl, makes_array _ _ 1 _) refl in
    let elements : Fits (program_with 7 array_cast) object_name (codes "lib/Box") = by_class _ _ _ refl (below _ _ _ refl (inl refl) (same _ refl)) in
    let step = advance (runs array_cast) 0 (main_of array_cast refl) outside 4 (reference_to 3 ∷ []) with_boxes_to_cast _ refl _
    refl refl primitive_value _ _ (record { class = _; named = refl }, passes_fitting (record { to = refers_to _ 3 _ refl; fits = by_elements _ _ object_name (codes "lib/Box") refl refl elements }), (refl, refl)) refl in
    takes _ _ _ _ (goes _ _ _ (plainly (runs array_cast) 0 (main_of array_cast refl) outside 1 0 [] _ _ refl (begun array_cast refl)) (advances made.at made.step)) (advances step.at step.step)
    (step, shows _ _ _, has_array _ _ _ _ refl refl)

pub a_cast_raises : Takes (runs string_cast)
    (λ s t. Raising (runs string_cast) (codes "checkcast") (codes "java/lang/ClassCastException") s t × HasObject 3 Thrown (codes "java/lang/ClassCastException") t)
a_cast_raises =
    let first = advance (runs string_cast) 0 (main_of string_cast refl) outside 0 [] (world string_cast refl) _ refl _
    (field_row _ _ _ _ _ refl box_type) refl (reference_to 2) _ _ (names_it string_cast, (refl, refl)) refl in
    let misfit : Fits (program_with 7 string_cast) string_name (codes "lib/Box") → ⊥ = no_fit _ (codes "lib/Box" ∷ object_name ∷ []) string_name (codes "lib/Box") refl refl refl refl in
    let step = raise (runs string_cast) 0 (main_of string_cast refl) outside 3 (reference_to 2 ∷ []) (world string_cast refl) _ refl _
    refl refl class_cast (0, omega arith, refl) (record { class = _; named = refl }, record { to = refers_to _ 2 _ refl; misfit = misfit }) in
    takes _ _ _ _ (goes _ _ _ (begun string_cast refl) (advances first.at first.step)) (raises step.at step.step) (step, has_object _ _ _ refl)

-- ---- what is left open

pub a_division_raises : Takes (runs division)
    (λ s t. Raising (runs division) (codes "idiv") (codes "java/lang/ArithmeticException") s t × HasObject 3 Thrown (codes "java/lang/ArithmeticException") t)
a_division_raises =
    let step = raise (runs division) 0 (main_of division refl) outside 2 (primitive_value ∷ primitive_value ∷ []) (world division refl) _ refl _
    refl refl arithmetic (0, omega arith, refl) tt in
    takes _ _ _ _ (plainly (runs division) 0 (main_of division refl) outside 2 0 [] _ _ refl (begun division refl)) (raises step.at step.step) (step, has_object _ _ _ refl)

abbrev with_strings : World
with_strings = with_object (world misfit refl) (new_array (site_at New (frame_at 0 1 (primitive_value ∷ [])) (codes "[Ljava/lang/String;")) (null_value ∷ []) 0)

at_misfit : Arrives (runs misfit) (main_at misfit refl 8 (reference_to 3 ∷ primitive_value ∷ reference_to 2 ∷ []) with_strings)
at_misfit =
    let made = advance (runs misfit) 0 (main_of misfit refl) outside 1 (primitive_value ∷ []) (world misfit refl) _ refl _
    refl refl (reference_to 3) with_strings _ (codes "[Ljava/lang/String;" ∷ [], of_references refl (record { class = _; named = refl }) refl, makes_array _ _ 1 _) refl in
    let step = advance (runs misfit) 0 (main_of misfit refl) outside 5 (reference_to 3 ∷ primitive_value ∷ []) with_strings _ refl _
    (field_row _ _ _ _ _ refl box_type) refl (reference_to 2) _ _ (names_it misfit, (refl, refl)) refl in
    let before = plainly (runs misfit) 0 (main_of misfit refl) outside 1 0 [] (world misfit refl) _ refl (begun misfit refl) in
    let zero_pushed = plainly (runs misfit) 0 (main_of misfit refl) outside 1 4 (reference_to 3 ∷ []) with_strings _ refl (goes _ _ _ before (advances made.at made.step)) in
    goes _ _ _ zero_pushed (advances step.at step.step)

pub a_misfit_is_not_stored : Takes (runs misfit)
    (λ s t. Raising (runs misfit) (codes "aastore") (codes "java/lang/ArrayStoreException") s t × HasObject 4 Thrown (codes "java/lang/ArrayStoreException") t)
a_misfit_is_not_stored =
    let step = raise (runs misfit) 0 (main_of misfit refl) outside 8 (reference_to 3 ∷ primitive_value ∷ reference_to 2 ∷ []) with_strings _ refl _
    refl refl array_store (2, omega arith, refl) (record { default = null_value; of_action = refl; array = is_array _ 3 _ _ refl refl }) in
    takes _ _ _ _ at_misfit (raises step.at step.step) (step, has_object _ _ _ refl)
