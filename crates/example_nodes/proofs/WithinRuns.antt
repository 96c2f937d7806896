-- The steps within a method.
use Rattle.std.proofs.Common.{codes, ◌≡◌, inr, ℕ, ◌-◌, true, [], ◌∷◌, replicate, Some, Ok, refl, arith}
use Rattle.jvm_model.specs.declared.site.Site.{Site}
use Rattle.jvm_model.specs.Code.{CodeBody}
use Rattle.jvm_model.specs.Subtypes.{same, by_class}
use Rattle.op_model.specs.declared.lowered.LoweredMethod.{LoweredMethod}
use Rattle.op_model.specs.declared.op.Op.TheVariants.{Assign, Load, Store, LoadElement, StoreElement, LoadStatic, StoreStatic, New, NewArray, Constant, Cast, Probe}
use Rattle.machine_bytecode.specs.Machine.{of_string, of_references, nested}
use Rattle.machine_bytecode.specs.Objects.{string_name, fitting}
use Rattle.machine_bytecode.specs.Objects.Passes.{fitting as passes_fitting}
use Rattle.machine_bytecode.specs.Start.{boot_site}
use Rattle.machine_bytecode.specs.States.{Value, primitive_value, null_value, reference_to, World, Dimension, with_object, new_array, site_at}
use Rattle.jvm_model.specs.declared.site.SiteKind.TheVariants.{New as new_kind}
use Rattle.example_machine.specs.Within.{runs, runs_with_arguments, makes, switch, wide_iinc, links, counts, statics, constant, tables, boxes, box_cast, argument}
use Rattle.example_machine.proofs.Facts.{field_row, refers_to, is_array, makes_array, shows}
use Rattle.example_machine.proofs.Runs.{advance, body_fits, entered_in, first_world, frame_at}
use Rattle.example_machine.proofs.WithinStart.{outside, main_of, world, main_at, names_it, names_last, names_next, names_count, box_type, int_type, argument_array, main_with_argument}
use Rattle.example_machine.proofs.WithinRuns.{linked}
use Rattle.std.proofs.lemmas.List.Elements.{All-nil, All-cons}
use Rattle.machine_bytecode.specs.Start.{MayBeArgument}
use Rattle.example_nodes.specs.Lowering.{site_in, field_no, primitive_in}
use Rattle.example_nodes.specs.Taking.{TakesNode, OperatesTo}
use Rattle.example_nodes.specs.Within.{given_main, MakesOperation, makes_nodes, switch_nodes, wide_iinc_nodes, links_nodes, counts_nodes, statics_nodes, constant_nodes, tables_nodes, boxes_nodes, box_cast_nodes, argument_nodes}
use Rattle.example_nodes.proofs.Slots.{are_left_by, are_moved_by, reads_alike, read_alike}
use Rattle.example_nodes.proofs.Steps.{Arrives, starts_at, enters_at, operate, plainly, advanced, takes_operation}

-- the first instruction of `main`
pub begun : (k : CodeBody) (fits : body_fits k ≡ true) (m : LoweredMethod) → given_main m 0 ≡ Some (Ok m) → reads_alike [] (replicate (k.max_locals - 0) primitive_value) ≡ true
    → Arrives (runs k) (given_main m) (entered_in (runs k) (main_of k fits) (world k fits))
begun k fits m is_given alike = enters_at (runs k) (given_main m) (main_of k fits) m is_given alike (world k fits) (starts_at (runs k) (given_main m) (main_of k fits) [] refl)

-- ---- new objects and constants

pub an_object_is_made : MakesOperation makes makes_nodes (New (site_in 0 0 (codes "lib/Box")) 0) 3 (reference_to 3 ∷ [])
an_object_is_made =
    takes_operation _ _ _ _ _ _ _ _ (begun makes refl makes_nodes refl refl)
    (advance (runs makes) 0 (main_of makes refl) outside 0 [] (world makes refl) _ refl _
    refl refl (reference_to 3) _ _ (record { class = _; named = refl }, record { made_is = refl; after_is = refl }) refl)
    (operate (runs makes) (given_main makes_nodes) 0 (main_of makes refl) makes_nodes refl outside 0 [] (world makes refl) _ refl _ _ _
    (record { made = reference_to 3; is_made = record { made_is = refl; after_is = refl }; are_left = are_left_by _ _ _ _ _ refl }) refl)
    (shows _ _ _)

pub a_string_is_loaded : MakesOperation constant constant_nodes (Constant (boot_site string_name) 0) 2 (reference_to 0 ∷ [])
a_string_is_loaded =
    takes_operation _ _ _ _ _ _ _ _ (begun constant refl constant_nodes refl refl)
    (advance (runs constant) 0 (main_of constant refl) outside 0 [] (world constant refl) _ refl _
    refl refl (reference_to 0) _ _ (of_string 6 refl (record { place = 0; stands = refl; is = refl }), refl) refl)
    (operate (runs constant) (given_main constant_nodes) 0 (main_of constant refl) constant_nodes refl outside 0 [] (world constant refl) _ refl _ _ _
    (record { value = reference_to 0; is_read = record { place = 0; stands = refl; is = refl }; are_left = are_left_by _ _ _ _ _ refl; same = refl }) refl)
    (shows _ _ _)

-- ---- switches and wide

pub a_switch_goes_to_another_target : MakesOperation switch switch_nodes (Assign (primitive_in 0 ∷ [])) 21 []
a_switch_goes_to_another_target =
    takes_operation _ _ _ _ _ _ _ _ (plainly (runs switch) (given_main switch_nodes) 0 (main_of switch refl) switch_nodes refl outside 1 0 [] (world switch refl) _ refl (begun switch refl switch_nodes refl refl))
    (advance (runs switch) 0 (main_of switch refl) outside 1 (primitive_value ∷ []) (world switch refl) _ refl _
    refl refl primitive_value _ 21 (refl, refl) (1, omega arith, refl))
    (operate (runs switch) (given_main switch_nodes) 0 (main_of switch refl) switch_nodes refl outside 1 (primitive_value ∷ []) (world switch refl) _ refl _ _ _
    (are_moved_by _ _ _ refl, refl) refl)
    (shows _ _ _)

pub a_switch_goes_to_its_default : MakesOperation switch switch_nodes (Assign (primitive_in 0 ∷ [])) 20 []
a_switch_goes_to_its_default =
    takes_operation _ _ _ _ _ _ _ _ (plainly (runs switch) (given_main switch_nodes) 0 (main_of switch refl) switch_nodes refl outside 1 0 [] (world switch refl) _ refl (begun switch refl switch_nodes refl refl))
    (advance (runs switch) 0 (main_of switch refl) outside 1 (primitive_value ∷ []) (world switch refl) _ refl _
    refl refl primitive_value _ 20 (refl, refl) (0, omega arith, refl))
    (operate (runs switch) (given_main switch_nodes) 0 (main_of switch refl) switch_nodes refl outside 1 (primitive_value ∷ []) (world switch refl) _ refl _ _ _
    (are_moved_by _ _ _ refl, refl) refl)
    (shows _ _ _)

pub a_wide_increment_advances : MakesOperation wide_iinc wide_iinc_nodes (Assign (primitive_in 0 ∷ [])) 8 (primitive_value ∷ [])
a_wide_increment_advances =
    takes_operation _ _ _ _ _ _ _ _
    (plainly (runs wide_iinc) (given_main wide_iinc_nodes) 0 (main_of wide_iinc refl) wide_iinc_nodes refl outside 2 0 (primitive_value ∷ []) (world wide_iinc refl) _ refl (begun wide_iinc refl wide_iinc_nodes refl refl))
    (advance (runs wide_iinc) 0 (main_of wide_iinc refl) outside 2 (primitive_value ∷ []) (world wide_iinc refl) _ refl _ refl refl primitive_value _ _ (refl, refl) refl)
    (operate (runs wide_iinc) (given_main wide_iinc_nodes) 0 (main_of wide_iinc refl) wide_iinc_nodes refl outside 2 (primitive_value ∷ []) (world wide_iinc refl) _ refl _ _ _
    (are_moved_by _ _ _ refl, refl) refl)
    (shows _ _ _)

-- ---- fields

pub a_held_object_is_read : MakesOperation links links_nodes (LoadStatic (field_no 1) 0) 3 (reference_to 2 ∷ [])
a_held_object_is_read =
    takes_operation _ _ _ _ _ _ _ _ (begun links refl links_nodes refl refl)
    (advance (runs links) 0 (main_of links refl) outside 0 [] (world links refl) _ refl _
    (field_row _ _ _ _ _ refl box_type) refl (reference_to 2) _ _ (names_it links, (refl, refl)) refl)
    (operate (runs links) (given_main links_nodes) 0 (main_of links refl) links_nodes refl outside 0 [] (world links refl) _ refl _ _ _
    (record { value = reference_to 2; is_read = refl; are_left = are_left_by _ _ _ _ _ refl; same = refl }) refl)
    (shows _ _ _)

at_link : Arrives (runs links) (given_main links_nodes) (main_at links refl 6 (reference_to 2 ∷ reference_to 2 ∷ []) (world links refl))
at_link =
    let first = advanced _ _ _ _ _ _ (begun links refl links_nodes refl refl)
    (advance (runs links) 0 (main_of links refl) outside 0 [] (world links refl) _ refl _
    (field_row _ _ _ _ _ refl box_type) refl (reference_to 2) _ _ (names_it links, (refl, refl)) refl)
    (operate (runs links) (given_main links_nodes) 0 (main_of links refl) links_nodes refl outside 0 [] (world links refl) _ refl _ _ _
    (record { value = reference_to 2; is_read = refl; are_left = are_left_by _ _ _ _ _ refl; same = refl }) refl) in
    advanced _ _ _ _ _ _ first
    (advance (runs links) 0 (main_of links refl) outside 3 (reference_to 2 ∷ []) (world links refl) _ refl _
    (field_row _ _ _ _ _ refl box_type) refl (reference_to 2) _ _ (names_it links, (refl, refl)) refl)
    (operate (runs links) (given_main links_nodes) 0 (main_of links refl) links_nodes refl outside 3 (reference_to 2 ∷ []) (world links refl) _ refl _ _ _
    (record { value = reference_to 2; is_read = refl; are_left = are_left_by _ _ _ _ _ refl; same = refl }) refl)

pub a_field_is_written : MakesOperation links links_nodes (Store 0 (field_no 2) 1) 9 []
a_field_is_written =
    takes_operation _ _ _ _ _ _ _ _ at_link
    (advance (runs links) 0 (main_of links refl) outside 6 (reference_to 2 ∷ reference_to 2 ∷ []) (world links refl) _ refl _
    (field_row _ _ _ _ _ refl box_type) refl primitive_value linked _ (names_next links, record { to = refers_to _ 2 _ refl; values = _; holds = refl; is = refl }, refl) refl)
    (operate (runs links) (given_main links_nodes) 0 (main_of links refl) links_nodes refl outside 6 (reference_to 2 ∷ reference_to 2 ∷ []) (world links refl) _ refl _ linked _
    (record { to = refers_to _ 2 _ refl; values = _; holds = refl; is = refl }, are_left_by _ _ _ _ _ refl) refl)
    (shows _ _ _)

pub a_field_is_read : MakesOperation links links_nodes (Load 0 (field_no 2) 0) 15 (reference_to 2 ∷ [])
a_field_is_read =
    let written = advanced _ _ _ _ _ _ at_link
    (advance (runs links) 0 (main_of links refl) outside 6 (reference_to 2 ∷ reference_to 2 ∷ []) (world links refl) _ refl _
    (field_row _ _ _ _ _ refl box_type) refl primitive_value linked _ (names_next links, record { to = refers_to _ 2 _ refl; values = _; holds = refl; is = refl }, refl) refl)
    (operate (runs links) (given_main links_nodes) 0 (main_of links refl) links_nodes refl outside 6 (reference_to 2 ∷ reference_to 2 ∷ []) (world links refl) _ refl _ linked _
    (record { to = refers_to _ 2 _ refl; values = _; holds = refl; is = refl }, are_left_by _ _ _ _ _ refl) refl) in
    let again = advanced _ _ _ _ _ _ written
    (advance (runs links) 0 (main_of links refl) outside 9 [] linked _ refl _
    (field_row _ _ _ _ _ refl box_type) refl (reference_to 2) _ _ (names_it links, (refl, refl)) refl)
    (operate (runs links) (given_main links_nodes) 0 (main_of links refl) links_nodes refl outside 9 [] linked _ refl _ _ _
    (record { value = reference_to 2; is_read = refl; are_left = are_left_by _ _ _ _ _ refl; same = refl }) refl) in
    takes_operation _ _ _ _ _ _ _ _ again
    (advance (runs links) 0 (main_of links refl) outside 12 (reference_to 2 ∷ []) linked _ refl _
    (field_row _ _ _ _ _ refl box_type) refl (reference_to 2) _ _ (names_next links, (record { to = refers_to _ 2 _ refl; values = _; holds = refl; is = refl }, refl)) refl)
    (operate (runs links) (given_main links_nodes) 0 (main_of links refl) links_nodes refl outside 12 (reference_to 2 ∷ []) linked _ refl _ _ _
    (record { value = reference_to 2; is_read = record { to = refers_to _ 2 _ refl; values = _; holds = refl; is = refl }; are_left = are_left_by _ _ _ _ _ refl; same = refl }) refl)
    (shows _ _ _)

pub a_primitive_field_is_written : MakesOperation counts counts_nodes (Probe 0) 7 []
a_primitive_field_is_written =
    let first = advanced _ _ _ _ _ _ (begun counts refl counts_nodes refl refl)
    (advance (runs counts) 0 (main_of counts refl) outside 0 [] (world counts refl) _ refl _
    (field_row _ _ _ _ _ refl box_type) refl (reference_to 2) _ _ (names_it counts, (refl, refl)) refl)
    (operate (runs counts) (given_main counts_nodes) 0 (main_of counts refl) counts_nodes refl outside 0 [] (world counts refl) _ refl _ _ _
    (record { value = reference_to 2; is_read = refl; are_left = are_left_by _ _ _ _ _ refl; same = refl }) refl) in
    takes_operation _ _ _ _ _ _ _ _ (plainly (runs counts) (given_main counts_nodes) 0 (main_of counts refl) counts_nodes refl outside 1 3 (reference_to 2 ∷ []) (world counts refl) _ refl first)
    (advance (runs counts) 0 (main_of counts refl) outside 4 (reference_to 2 ∷ primitive_value ∷ []) (world counts refl) _ refl _
    (field_row _ _ _ _ _ refl int_type) refl primitive_value _ _ (names_count counts, (refers_to _ 2 _ refl, refl), refl) refl)
    (operate (runs counts) (given_main counts_nodes) 0 (main_of counts refl) counts_nodes refl outside 4 (reference_to 2 ∷ primitive_value ∷ []) (world counts refl) _ refl _ _ _
    ((refers_to _ 2 _ refl, refl), are_left_by _ _ _ _ _ refl) refl)
    (shows _ _ _)

pub a_static_field_is_written : MakesOperation statics statics_nodes (StoreStatic (field_no 0) 0) 6 []
a_static_field_is_written =
    let first = advanced _ _ _ _ _ _ (begun statics refl statics_nodes refl refl)
    (advance (runs statics) 0 (main_of statics refl) outside 0 [] (world statics refl) _ refl _
    (field_row _ _ _ _ _ refl box_type) refl (reference_to 2) _ _ (names_it statics, (refl, refl)) refl)
    (operate (runs statics) (given_main statics_nodes) 0 (main_of statics refl) statics_nodes refl outside 0 [] (world statics refl) _ refl _ _ _
    (record { value = reference_to 2; is_read = refl; are_left = are_left_by _ _ _ _ _ refl; same = refl }) refl) in
    takes_operation _ _ _ _ _ _ _ _ first
    (advance (runs statics) 0 (main_of statics refl) outside 3 (reference_to 2 ∷ []) (world statics refl) _ refl _
    (field_row _ _ _ _ _ refl box_type) refl primitive_value _ _ (names_last statics, refl, refl) refl)
    (operate (runs statics) (given_main statics_nodes) 0 (main_of statics refl) statics_nodes refl outside 3 (reference_to 2 ∷ []) (world statics refl) _ refl _ _ _
    (refl, are_left_by _ _ _ _ _ refl) refl)
    (shows _ _ _)

-- ---- casts

pub a_cast_passes_an_object : MakesOperation box_cast box_cast_nodes (Cast (codes "lib/Box") 0) 6 (reference_to 2 ∷ [])
a_cast_passes_an_object =
    let first = advanced _ _ _ _ _ _ (begun box_cast refl box_cast_nodes refl refl)
    (advance (runs box_cast) 0 (main_of box_cast refl) outside 0 [] (world box_cast refl) _ refl _
    (field_row _ _ _ _ _ refl box_type) refl (reference_to 2) _ _ (names_it box_cast, (refl, refl)) refl)
    (operate (runs box_cast) (given_main box_cast_nodes) 0 (main_of box_cast refl) box_cast_nodes refl outside 0 [] (world box_cast refl) _ refl _ _ _
    (record { value = reference_to 2; is_read = refl; are_left = are_left_by _ _ _ _ _ refl; same = refl }) refl) in
    takes_operation _ _ _ _ _ _ _ _ first
    (advance (runs box_cast) 0 (main_of box_cast refl) outside 3 (reference_to 2 ∷ []) (world box_cast refl) _ refl _
    refl refl primitive_value _ _ (record { class = _; named = refl }, passes_fitting (record { to = refers_to _ 2 _ refl; fits = by_class _ _ _ refl (same _ refl) }), (refl, refl)) refl)
    (operate (runs box_cast) (given_main box_cast_nodes) 0 (main_of box_cast refl) box_cast_nodes refl outside 3 (reference_to 2 ∷ []) (world box_cast refl) _ refl _ _ _
    (passes_fitting (record { to = refers_to _ 2 _ refl; fits = by_class _ _ _ refl (same _ refl) }), read_alike (reference_to 2 ∷ []) (reference_to 2 ∷ []) refl, refl) refl)
    (shows _ _ _)

-- ---- arrays

abbrev dimension : ℕ → Site → Dimension
dimension long site = record { site = site; long = long }

pub an_array_of_arrays_is_made : MakesOperation tables tables_nodes (NewArray (site_in 0 2 (codes "[[I") ∷ site_in 0 2 (codes "[I") ∷ []) 0) 6 (reference_to 3 ∷ [])
an_array_of_arrays_is_made =
    takes_operation _ _ _ _ _ _ _ _ (plainly (runs tables) (given_main tables_nodes) 0 (main_of tables refl) tables_nodes refl outside 2 0 [] (world tables refl) _ refl (begun tables refl tables_nodes refl refl))
    (advance (runs tables) 0 (main_of tables refl) outside 2 (primitive_value ∷ primitive_value ∷ []) (world tables refl) _ refl _
    refl refl (reference_to 3) _ _ (codes "[[I" ∷ codes "[I" ∷ [], nested refl (record { class = _; named = refl }) refl, record { dimensions = dimension 2 (site_in 0 2 (codes "[[I")) ∷ dimension 1 (site_in 0 2 (codes "[I")) ∷ []; of_sites = refl; some = omega arith; made_is = refl; after_is = refl }) refl)
    (operate (runs tables) (given_main tables_nodes) 0 (main_of tables refl) tables_nodes refl outside 2 (primitive_value ∷ primitive_value ∷ []) (world tables refl) _ refl _ _ _
    (record { made = reference_to 3; is_made = record { dimensions = dimension 2 (site_in 0 2 (codes "[[I")) ∷ dimension 1 (site_in 0 2 (codes "[I")) ∷ []; of_sites = refl; some = omega arith; made_is = refl; after_is = refl }; are_left = are_left_by _ _ _ _ _ refl }) refl)
    (shows _ _ _)

abbrev with_boxes : Value → World
with_boxes v = with_object (world boxes refl) (new_array (site_at new_kind (frame_at 0 1 (primitive_value ∷ primitive_value ∷ [])) (codes "[Llib/Box;")) (v ∷ []) 0)

at_store : Arrives (runs boxes) (given_main boxes_nodes) (main_at boxes refl 10 (reference_to 3 ∷ reference_to 3 ∷ primitive_value ∷ reference_to 2 ∷ []) (with_boxes null_value))
at_store =
    let x = runs boxes in
    let given = given_main boxes_nodes in
    let c = main_of boxes refl in
    let made = advanced _ _ _ _ _ _ (plainly x given 0 c boxes_nodes refl outside 1 0 (primitive_value ∷ []) (world boxes refl) _ refl (begun boxes refl boxes_nodes refl refl))
    (advance x 0 c outside 1 (primitive_value ∷ primitive_value ∷ []) (world boxes refl) _ refl _
    refl refl (reference_to 3) (with_boxes null_value) _ (codes "[Llib/Box;" ∷ [], of_references refl (record { class = _; named = refl }) refl, makes_array _ _ 1 _) refl)
    (operate x given 0 c boxes_nodes refl outside 1 (primitive_value ∷ primitive_value ∷ []) (world boxes refl) _ refl _ (with_boxes null_value) _
    (record { made = reference_to 3; is_made = makes_array _ _ 1 _; are_left = are_left_by _ _ _ _ _ refl }) refl) in
    advanced _ _ _ _ _ _ (plainly x given 0 c boxes_nodes refl outside 3 4 (primitive_value ∷ reference_to 3 ∷ []) (with_boxes null_value) _ refl made)
    (advance x 0 c outside 7 (reference_to 3 ∷ reference_to 3 ∷ primitive_value ∷ []) (with_boxes null_value) _ refl _
    (field_row _ _ _ _ _ refl box_type) refl (reference_to 2) _ _ (names_it boxes, (refl, refl)) refl)
    (operate x given 0 c boxes_nodes refl outside 7 (reference_to 3 ∷ reference_to 3 ∷ primitive_value ∷ []) (with_boxes null_value) _ refl _ _ _
    (record { value = reference_to 2; is_read = refl; are_left = are_left_by _ _ _ _ _ refl; same = refl }) refl)

pub an_element_is_written : MakesOperation boxes boxes_nodes (StoreElement 1 3) 11 (reference_to 3 ∷ [])
an_element_is_written =
    takes_operation _ _ _ _ _ _ _ _ at_store
    (advance (runs boxes) 0 (main_of boxes refl) outside 10 (reference_to 3 ∷ reference_to 3 ∷ primitive_value ∷ reference_to 2 ∷ []) (with_boxes null_value) _ refl _
    refl refl primitive_value (with_boxes (reference_to 2)) _ (record { of = is_array _ 3 _ _ refl refl; suits = fitting (codes "lib/Box") refl (record { to = refers_to _ 2 _ refl; fits = by_class _ _ _ refl (same _ refl) }); index = 0; inside = omega arith; is = refl }, refl) refl)
    (operate (runs boxes) (given_main boxes_nodes) 0 (main_of boxes refl) boxes_nodes refl outside 10 (reference_to 3 ∷ reference_to 3 ∷ primitive_value ∷ reference_to 2 ∷ []) (with_boxes null_value) _ refl _ (with_boxes (reference_to 2)) _
    (record { of = is_array _ 3 _ _ refl refl; suits = fitting (codes "lib/Box") refl (record { to = refers_to _ 2 _ refl; fits = by_class _ _ _ refl (same _ refl) }); index = 0; inside = omega arith; is = refl }, are_left_by _ _ _ _ _ refl) refl)
    (shows _ _ _)

-- ---- the array of the arguments

pub an_argument_is_read : TakesNode (runs_with_arguments argument) (given_main argument_nodes) (OperatesTo (runs_with_arguments argument) (given_main argument_nodes) (LoadElement 1 1) 3 (reference_to 3 ∷ reference_to 0 ∷ []))
an_argument_is_read =
    let x = runs_with_arguments argument in
    let given = given_main argument_nodes in
    let c = main_with_argument in
    let w = first_world x argument_array in
    let started = starts_at x given c argument_array
    (record { values = reference_to 0 ∷ []; each = All-cons MayBeArgument (reference_to 0) [] (inr (record { place = 0; stands = refl; is = refl })) (All-nil MayBeArgument); is = refl }) in
    takes_operation _ _ _ _ _ _ _ _ (plainly x given 0 c argument_nodes refl outside 2 0 (reference_to 3 ∷ []) w _ refl (enters_at x given c argument_nodes refl refl w started))
    (advance x 0 c outside 2 (reference_to 3 ∷ reference_to 3 ∷ primitive_value ∷ []) w _ refl _
    refl refl (reference_to 0) _ _ (record { of = is_array _ 3 _ _ refl refl; among = (0, omega arith, refl) }, refl) refl)
    (operate x given 0 c argument_nodes refl outside 2 (reference_to 3 ∷ reference_to 3 ∷ primitive_value ∷ []) w _ refl _ _ _
    (record { value = reference_to 0; is_read = record { of = is_array _ 3 _ _ refl refl; among = (0, omega arith, refl) }; are_left = are_left_by _ _ _ _ _ refl; same = refl }) refl)
    (shows _ _ _)
