-- The programs that raise within a method, up to the first instruction of `main`; and their steps.
use Rattle.std.proofs.Common.{codes, ◌≡◌, ℕ, ◌-◌, true, [], ◌∷◌, replicate, Some, Ok, subst, refl, arith}
use Rattle.jvm_model.specs.declared.site.SiteKind.TheVariants.{New, Thrown}
use Rattle.jvm_model.specs.Code.{CodeBody}
use Rattle.jvm_model.specs.Table.{array_store, null_pointer, arithmetic, class_cast, array_index, negative_size}
use Rattle.op_model.specs.declared.lowered.LoweredMethod.{LoweredMethod}
use Rattle.op_model.specs.declared.op.Op.TheVariants.{Throw}
use Rattle.machine_bytecode.specs.Machine.{MethodCode, NamesField, raises, of_references, of_primitives}
use Rattle.machine_bytecode.specs.States.{primitive_value, null_value, reference_to, World, with_object, new_array, site_at, slot_at}
use Rattle.machine_bytecode.specs.Objects.{string_name}
use Rattle.jvm_model.specs.Programs.{object_name}
use Rattle.jvm_model.specs.Subtypes.{Fits}
use Rattle.example_machine.specs.Excepting.{main_class as throwing_class, calls_null}
use Rattle.example_machine.specs.Taking.{HasObject}
use Rattle.example_machine.proofs.CallStart.{int_units}
use Rattle.example_machine.proofs.Types.{no_fit}
use Rattle.example_machine.specs.Within.{main_class, main_pool, misfit, null_throw, division, string_cast, first_number, null_field}
use Rattle.example_machine.proofs.Facts.{declared_field, field_row, has_object, is_array, makes_array, refers_to, call_row}
use Rattle.example_machine.proofs.Runs.{built, body_fits, entered_in, first_world, frame_at, advance, raise as raise_code}
use Rattle.example_machine.proofs.WithinStart.{outside, box_type}
use Rattle.machine_nodes.specs.NodeSteps.{raises as raises_node}
use Rattle.example_nodes.specs.Lowering.{class_no}
use Rattle.example_nodes.specs.Raising.{program_with, runs, Steps, misfit_nodes, null_throw_nodes, division_nodes, string_cast_nodes, first_number_nodes, null_field_nodes, program_with_call, runs_call, calls_null_nodes, given_call}
use Rattle.example_nodes.specs.Taking.{TakesNode, RaisingNode}
use Rattle.example_nodes.specs.Within.{given_main}
use Rattle.example_nodes.proofs.CallSteps.{raise}
use Rattle.example_nodes.proofs.Slots.{are_left_by, reads_alike}
use Rattle.example_nodes.proofs.Steps.{Arrives, takes, starts_at, enters_at, operate, plainly, advanced}

module _ (k : CodeBody) (fits : body_fits k ≡ true) where
  abbrev main_of : MethodCode (program_with k) 0
  main_of = built (program_with k) 0 _ (main_class 7 k) 0 9 6 7 k refl refl refl fits

  abbrev world : World
  world = first_world (runs k) []

  begun : (m : LoweredMethod) → given_main m 0 ≡ Some (Ok m) → reads_alike [] (replicate (k.max_locals - 0) primitive_value) ≡ true → Arrives (runs k) (given_main m) (entered_in (runs k) main_of world)
  begun m is_given alike = enters_at (runs k) (given_main m) main_of m is_given alike world (starts_at (runs k) (given_main m) main_of [] refl)

abbrev pub names_it : (k : CodeBody) → NamesField (program_with k) main_pool 14 true
names_it k = declared_field _ _ _ _ 1 _ _ refl refl refl refl refl

abbrev with_strings : World
with_strings = with_object (world misfit refl) (new_array (site_at New (frame_at 0 1 (primitive_value ∷ [])) (codes "[Ljava/lang/String;")) (null_value ∷ []) 0)

pub a_misfit_is_not_stored : Steps misfit misfit_nodes (λ s t. RaisingNode (runs misfit) (given_main misfit_nodes) (codes "java/lang/ArrayStoreException") s t × HasObject 4 Thrown (codes "java/lang/ArrayStoreException") t)
a_misfit_is_not_stored =
    let x = runs misfit in
    let given = given_main misfit_nodes in
    let c = main_of misfit refl in
    let before = plainly x given 0 c misfit_nodes refl outside 1 0 [] (world misfit refl) _ refl (begun misfit refl misfit_nodes refl refl) in
    let made = advanced _ _ _ _ _ _ before
    (advance x 0 c outside 1 (primitive_value ∷ []) (world misfit refl) _ refl _
    refl refl (reference_to 3) with_strings _ (codes "[Ljava/lang/String;" ∷ [], of_references refl (record { class = _; named = refl }) refl, makes_array _ _ 1 _) refl)
    (operate x given 0 c misfit_nodes refl outside 1 (primitive_value ∷ []) (world misfit refl) _ refl _ with_strings _
    (record { made = reference_to 3; is_made = makes_array _ _ 1 _; are_left = are_left_by _ _ _ _ _ refl }) refl) in
    let read = advanced _ _ _ _ _ _ (plainly x given 0 c misfit_nodes refl outside 1 4 (reference_to 3 ∷ []) with_strings _ refl made)
    (advance x 0 c outside 5 (reference_to 3 ∷ primitive_value ∷ []) with_strings _ refl _
    (field_row _ _ _ _ _ refl box_type) refl (reference_to 2) _ _ (names_it misfit, (refl, refl)) refl)
    (operate x given 0 c misfit_nodes refl outside 5 (reference_to 3 ∷ primitive_value ∷ []) with_strings _ refl _ _ _
    (record { value = reference_to 2; is_read = refl; are_left = are_left_by _ _ _ _ _ refl; same = refl }) refl) in
    let step = raise_code x 0 c outside 8 (reference_to 3 ∷ primitive_value ∷ reference_to 2 ∷ []) with_strings _ refl _
    refl refl array_store (2, omega arith, refl) (record { default = null_value; of_action = refl; array = is_array _ 3 _ _ refl refl }) in
    let node_step = raise x given 0 misfit_nodes refl outside 8 (reference_to 3 ∷ primitive_value ∷ reference_to 2 ∷ []) with_strings _ refl (class_no 6) (1, omega arith, refl)
    (codes "java/lang/ArrayStoreException") (record { class = _; stands = refl; named = refl }) (λ value is_throw e. absurd cc) in
    takes _ _ _ _ _ read (raises step.at step.step) (raises_node node_step.at node_step.step) (node_step, has_object _ _ _ refl)

-- a throw raises for null
only_null : (value : ℕ) → Throw 0 ≡ Throw value → slot_at (null_value ∷ []) value ≡ null_value
only_null value e = let same : 0 ≡ value = cc in subst (λ (z : ℕ). slot_at (null_value ∷ []) z ≡ null_value) same refl

pub a_throw_of_null_raises : Steps null_throw null_throw_nodes (λ s t. RaisingNode (runs null_throw) (given_main null_throw_nodes) (codes "java/lang/NullPointerException") s t × HasObject 3 Thrown (codes "java/lang/NullPointerException") t)
a_throw_of_null_raises =
    let x = runs null_throw in
    let given = given_main null_throw_nodes in
    let c = main_of null_throw refl in
    let w = world null_throw refl in
    let step = raise_code x 0 c outside 1 (null_value ∷ []) w _ refl _ refl refl null_pointer (0, omega arith, refl) refl in
    let node_step = raise x given 0 null_throw_nodes refl outside 1 (null_value ∷ []) w _ refl (class_no 9) (0, omega arith, refl)
    (codes "java/lang/NullPointerException") (record { class = _; stands = refl; named = refl }) (λ value is_throw e. only_null value is_throw) in
    takes _ _ _ _ _ (plainly x given 0 c null_throw_nodes refl outside 1 0 [] w _ refl (begun null_throw refl null_throw_nodes refl refl)) (raises step.at step.step) (raises_node node_step.at node_step.step) (node_step, has_object _ _ _ refl)

pub a_division_raises : Steps division division_nodes (λ s t. RaisingNode (runs division) (given_main division_nodes) (codes "java/lang/ArithmeticException") s t × HasObject 3 Thrown (codes "java/lang/ArithmeticException") t)
a_division_raises =
    let x = runs division in
    let given = given_main division_nodes in
    let c = main_of division refl in
    let w = world division refl in
    let step = raise_code x 0 c outside 2 (primitive_value ∷ primitive_value ∷ []) w _ refl _ refl refl arithmetic (0, omega arith, refl) tt in
    let node_step = raise x given 0 division_nodes refl outside 2 (primitive_value ∷ primitive_value ∷ []) w _ refl (class_no 4) (0, omega arith, refl)
    (codes "java/lang/ArithmeticException") (record { class = _; stands = refl; named = refl }) (λ value is_throw e. absurd cc) in
    takes _ _ _ _ _ (plainly x given 0 c division_nodes refl outside 2 0 [] w _ refl (begun division refl division_nodes refl refl)) (raises step.at step.step) (raises_node node_step.at node_step.step) (node_step, has_object _ _ _ refl)

pub a_cast_raises : Steps string_cast string_cast_nodes (λ s t. RaisingNode (runs string_cast) (given_main string_cast_nodes) (codes "java/lang/ClassCastException") s t × HasObject 3 Thrown (codes "java/lang/ClassCastException") t)
a_cast_raises =
    let x = runs string_cast in
    let given = given_main string_cast_nodes in
    let c = main_of string_cast refl in
    let w = world string_cast refl in
    let first = advanced _ _ _ _ _ _ (begun string_cast refl string_cast_nodes refl refl)
    (advance x 0 c outside 0 [] w _ refl _ (field_row _ _ _ _ _ refl box_type) refl (reference_to 2) _ _ (names_it string_cast, (refl, refl)) refl)
    (operate x given 0 c string_cast_nodes refl outside 0 [] w _ refl _ _ _ (record { value = reference_to 2; is_read = refl; are_left = are_left_by _ _ _ _ _ refl; same = refl }) refl) in
    let misfit_class : Fits (program_with string_cast) string_name (codes "lib/Box") → ⊥ = no_fit _ (codes "lib/Box" ∷ object_name ∷ []) string_name (codes "lib/Box") refl refl refl refl in
    let step = raise_code x 0 c outside 3 (reference_to 2 ∷ []) w _ refl _ refl refl class_cast (0, omega arith, refl) (record { class = _; named = refl }, record { to = refers_to _ 2 _ refl; misfit = misfit_class }) in
    let node_step = raise x given 0 string_cast_nodes refl outside 3 (reference_to 2 ∷ []) w _ refl (class_no 7) (0, omega arith, refl)
    (codes "java/lang/ClassCastException") (record { class = _; stands = refl; named = refl }) (λ value is_throw e. absurd cc) in
    takes _ _ _ _ _ first (raises step.at step.step) (raises_node node_step.at node_step.step) (node_step, has_object _ _ _ refl)

abbrev with_number : World
with_number = with_object (world first_number refl) (new_array (site_at New (frame_at 0 1 (primitive_value ∷ [])) (codes "[I")) (primitive_value ∷ []) 0)

pub an_index_raises : Steps first_number first_number_nodes (λ s t. RaisingNode (runs first_number) (given_main first_number_nodes) (codes "java/lang/ArrayIndexOutOfBoundsException") s t × HasObject 4 Thrown (codes "java/lang/ArrayIndexOutOfBoundsException") t)
an_index_raises =
    let x = runs first_number in
    let given = given_main first_number_nodes in
    let c = main_of first_number refl in
    let w = world first_number refl in
    let made = advanced _ _ _ _ _ _ (plainly x given 0 c first_number_nodes refl outside 1 0 [] w _ refl (begun first_number refl first_number_nodes refl refl))
    (advance x 0 c outside 1 (primitive_value ∷ []) w _ refl _ refl refl (reference_to 3) with_number _ (codes "[I" ∷ [], of_primitives refl refl, makes_array _ _ 1 _) refl)
    (operate x given 0 c first_number_nodes refl outside 1 (primitive_value ∷ []) w _ refl _ with_number _ (record { made = reference_to 3; is_made = makes_array _ _ 1 _; are_left = are_left_by _ _ _ _ _ refl }) refl) in
    let step = raise_code x 0 c outside 4 (reference_to 3 ∷ primitive_value ∷ []) with_number _ refl _ refl refl array_index (1, omega arith, refl) (record { default = primitive_value; of_action = refl; array = is_array _ 3 _ _ refl refl }) in
    let node_step = raise x given 0 first_number_nodes refl outside 4 (reference_to 3 ∷ primitive_value ∷ []) with_number _ refl (class_no 5) (0, omega arith, refl)
    (codes "java/lang/ArrayIndexOutOfBoundsException") (record { class = _; stands = refl; named = refl }) (λ value is_throw e. absurd cc) in
    takes _ _ _ _ _ (plainly x given 0 c first_number_nodes refl outside 1 3 (reference_to 3 ∷ []) with_number _ refl made) (raises step.at step.step) (raises_node node_step.at node_step.step) (node_step, has_object _ _ _ refl)

pub a_size_raises : Steps first_number first_number_nodes (λ s t. RaisingNode (runs first_number) (given_main first_number_nodes) (codes "java/lang/NegativeArraySizeException") s t × HasObject 3 Thrown (codes "java/lang/NegativeArraySizeException") t)
a_size_raises =
    let x = runs first_number in
    let given = given_main first_number_nodes in
    let c = main_of first_number refl in
    let w = world first_number refl in
    let step = raise_code x 0 c outside 1 (primitive_value ∷ []) w _ refl _ refl refl negative_size (0, omega arith, refl) tt in
    let node_step = raise x given 0 first_number_nodes refl outside 1 (primitive_value ∷ []) w _ refl (class_no 8) (0, omega arith, refl)
    (codes "java/lang/NegativeArraySizeException") (record { class = _; stands = refl; named = refl }) (λ value is_throw e. absurd cc) in
    takes _ _ _ _ _ (plainly x given 0 c first_number_nodes refl outside 1 0 [] w _ refl (begun first_number refl first_number_nodes refl refl)) (raises step.at step.step) (raises_node node_step.at node_step.step) (node_step, has_object _ _ _ refl)

pub a_field_of_null_raises : Steps null_field null_field_nodes (λ s t. RaisingNode (runs null_field) (given_main null_field_nodes) (codes "java/lang/NullPointerException") s t × HasObject 3 Thrown (codes "java/lang/NullPointerException") t)
a_field_of_null_raises =
    let x = runs null_field in
    let given = given_main null_field_nodes in
    let c = main_of null_field refl in
    let w = world null_field refl in
    let step = raise_code x 0 c outside 1 (null_value ∷ []) w _ refl _ (field_row _ _ _ _ _ refl box_type) refl null_pointer (0, omega arith, refl) refl in
    let node_step = raise x given 0 null_field_nodes refl outside 1 (null_value ∷ []) w _ refl (class_no 9) (0, omega arith, refl)
    (codes "java/lang/NullPointerException") (record { class = _; stands = refl; named = refl }) (λ value is_throw e. absurd cc) in
    takes _ _ _ _ _ (plainly x given 0 c null_field_nodes refl outside 1 0 [] w _ refl (begun null_field refl null_field_nodes refl refl)) (raises step.at step.step) (raises_node node_step.at node_step.step) (node_step, has_object _ _ _ refl)

-- ---- a call on null

abbrev calling_main : MethodCode (program_with_call calls_null) 0
calling_main = built (program_with_call calls_null) 0 _ (throwing_class calls_null) 0 9 6 7 calls_null refl refl refl refl

abbrev calling_world : World
calling_world = first_world (runs_call calls_null) []

pub a_call_on_null_raises : TakesNode (runs_call calls_null) given_call
    (λ s t. RaisingNode (runs_call calls_null) given_call (codes "java/lang/NullPointerException") s t × HasObject 3 Thrown (codes "java/lang/NullPointerException") t)
a_call_on_null_raises =
    let x = runs_call calls_null in
    let given = given_call in
    let c = calling_main in
    let w = calling_world in
    let begins = enters_at x given c calls_null_nodes refl refl w (starts_at x given c [] refl) in
    let step = raise_code x 0 c outside 1 (null_value ∷ []) w _ refl _ (call_row _ _ _ _ _ _ refl int_units) refl null_pointer (0, omega arith, refl) refl in
    let node_step = raise x given 0 calls_null_nodes refl outside 1 (null_value ∷ []) w _ refl (class_no 7) (0, omega arith, refl)
    (codes "java/lang/NullPointerException") (record { class = _; stands = refl; named = refl }) (λ value is_throw e. absurd cc) in
    takes _ _ _ _ _ (plainly x given 0 c calls_null_nodes refl outside 1 0 [] w _ refl begins) (raises step.at step.step) (raises_node node_step.at node_step.step) (node_step, has_object _ _ _ refl)
