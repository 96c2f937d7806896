-- The steps within a method.
use Rattle.std.proofs.Common.{codes, ◌≡◌, inl, inr, [], ◌∷◌, refl, arith}
use Rattle.machine_bytecode.specs.Machine.{advances, of_string}
use Rattle.machine_bytecode.specs.Objects.{ReadsField}
use Rattle.machine_bytecode.specs.States.{primitive_value, reference_to, World, with_contents, with_static, updated, default_fields, fields}
use Rattle.jvm_model.specs.declared.site.SiteKind.TheVariants.{Boot, New}
use Rattle.machine_bytecode.specs.Start.{boot_object}
use Rattle.example_machine.specs.Taking.{Takes, Shows, HasObject, Advancing}
use Rattle.example_machine.specs.Within.{program_with, runs, branch, switch, wide_iinc, links, counts, statics, constant, makes}
use Rattle.example_machine.proofs.WithinStart.{outside, main_of, world, main_at, begun, names_it, names_last, names_next, names_count, box_type, int_type}
use Rattle.example_machine.proofs.Facts.{field_row, has_object, refers_to, shows}
use Rattle.example_machine.proofs.Runs.{Arrives, goes, takes, advance, plainly}

-- ---- plain steps and branches

pub a_constant_is_pushed : Takes (runs branch) (λ s t. Advancing (runs branch) (codes "iconst_0") s t × Shows 1 (primitive_value ∷ []) t)
a_constant_is_pushed =
    let step = advance (runs branch) 0 (main_of branch refl) outside 0 [] (world branch refl) _ refl _ refl refl primitive_value _ _ (refl, refl) refl in
    takes _ _ _ _ (begun branch refl) (advances step.at step.step) (step, shows _ _ _)

-- the branch, after that
at_branch : Arrives (runs branch) (main_at branch refl 1 (primitive_value ∷ []) (world branch refl))
at_branch = plainly (runs branch) 0 (main_of branch refl) outside 1 0 [] _ _ refl (begun branch refl)

pub a_branch_goes_on : Takes (runs branch) (λ s t. Advancing (runs branch) (codes "ifeq") s t × Shows 4 [] t)
a_branch_goes_on =
    let step = advance (runs branch) 0 (main_of branch refl) outside 1 (primitive_value ∷ []) (world branch refl) _ refl _
    refl refl primitive_value _ 4 (refl, refl) (inl refl) in
    takes _ _ _ _ at_branch (advances step.at step.step) (step, shows _ _ _)

pub a_branch_jumps : Takes (runs branch) (λ s t. Advancing (runs branch) (codes "ifeq") s t × Shows 5 [] t)
a_branch_jumps =
    let step = advance (runs branch) 0 (main_of branch refl) outside 1 (primitive_value ∷ []) (world branch refl) _ refl _
    refl refl primitive_value _ 5 (refl, refl) (inr (0, omega arith, refl)) in
    takes _ _ _ _ at_branch (advances step.at step.step) (step, shows _ _ _)

-- ---- switches and wide

at_switch : Arrives (runs switch) (main_at switch refl 1 (primitive_value ∷ []) (world switch refl))
at_switch = plainly (runs switch) 0 (main_of switch refl) outside 1 0 [] _ _ refl (begun switch refl)

pub a_switch_goes_to_its_default : Takes (runs switch) (λ s t. Advancing (runs switch) (codes "tableswitch") s t × Shows 20 [] t)
a_switch_goes_to_its_default =
    let step = advance (runs switch) 0 (main_of switch refl) outside 1 (primitive_value ∷ []) (world switch refl) _ refl _
    refl refl primitive_value _ 20 (refl, refl) (0, omega arith, refl) in
    takes _ _ _ _ at_switch (advances step.at step.step) (step, shows _ _ _)

pub a_switch_goes_to_another_target : Takes (runs switch) (λ s t. Advancing (runs switch) (codes "tableswitch") s t × Shows 21 [] t)
a_switch_goes_to_another_target =
    let step = advance (runs switch) 0 (main_of switch refl) outside 1 (primitive_value ∷ []) (world switch refl) _ refl _
    refl refl primitive_value _ 21 (refl, refl) (1, omega arith, refl) in
    takes _ _ _ _ at_switch (advances step.at step.step) (step, shows _ _ _)

pub a_wide_increment_advances : Takes (runs wide_iinc) (λ s t. Advancing (runs wide_iinc) (codes "iinc") s t × Shows 8 (primitive_value ∷ []) t)
a_wide_increment_advances =
    let c = main_of wide_iinc refl in
    let step = advance (runs wide_iinc) 0 c outside 2 (primitive_value ∷ []) (world wide_iinc refl) _ refl _ refl refl primitive_value _ _ (refl, refl) refl in
    takes _ _ _ _ (plainly (runs wide_iinc) 0 c outside 2 0 (primitive_value ∷ []) _ _ refl (begun wide_iinc refl)) (advances step.at step.step) (step, shows _ _ _)

-- ---- constants and new objects

pub a_string_is_loaded : Takes (runs constant) (λ s t. Advancing (runs constant) (codes "ldc") s t × Shows 2 (reference_to 0 ∷ []) t × HasObject 0 Boot (codes "java/lang/String") t)
a_string_is_loaded =
    let step = advance (runs constant) 0 (main_of constant refl) outside 0 [] (world constant refl) _ refl _
    refl refl (reference_to 0) _ _ (of_string 6 refl (record { place = 0; stands = refl; is = refl }), refl) refl in
    takes _ _ _ _ (begun constant refl) (advances step.at step.step) (step, shows _ _ _, has_object _ _ _ refl)

pub an_object_is_made : Takes (runs makes) (λ s t. Advancing (runs makes) (codes "new") s t × Shows 3 (reference_to 3 ∷ []) t × HasObject 3 New (codes "lib/Box") t)
an_object_is_made =
    let step = advance (runs makes) 0 (main_of makes refl) outside 0 [] (world makes refl) _ refl _
    refl refl (reference_to 3) _ _ (record { class = _; named = refl }, record { made_is = refl; after_is = refl }) refl in
    takes _ _ _ _ (begun makes refl) (advances step.at step.step) (step, shows _ _ _, has_object _ _ _ refl)

-- ---- fields

pub a_held_object_is_read : Takes (runs links) (λ s t. Advancing (runs links) (codes "getstatic") s t × Shows 3 (reference_to 2 ∷ []) t × HasObject 2 Boot (codes "lib/Box") t)
a_held_object_is_read =
    let step = advance (runs links) 0 (main_of links refl) outside 0 [] (world links refl) _ refl _
    (field_row _ _ _ _ _ refl box_type) refl (reference_to 2) _ _ (names_it links, (refl, refl)) refl in
    takes _ _ _ _ (begun links refl) (advances step.at step.step) (step, shows _ _ _, has_object _ _ _ refl)

-- the world after the write
abbrev pub linked : World
linked = with_contents (world links refl) 2 (boot_object (runs links) (codes "lib/Box")) (fields (updated (default_fields (program_with 7 links)) 2 (reference_to 2)))

puts_link : Advancing (runs links) (codes "putfield") (main_at links refl 6 (reference_to 2 ∷ reference_to 2 ∷ []) (world links refl)) (main_at links refl 9 [] linked)
puts_link = advance (runs links) 0 (main_of links refl) outside 6 (reference_to 2 ∷ reference_to 2 ∷ []) (world links refl) _ refl _
    (field_row _ _ _ _ _ refl box_type) refl primitive_value _ _ (names_next links, record { to = refers_to _ 2 _ refl; values = _; holds = refl; is = refl }, refl) refl

at_link : Arrives (runs links) (main_at links refl 6 (reference_to 2 ∷ reference_to 2 ∷ []) (world links refl))
at_link =
    let first = advance (runs links) 0 (main_of links refl) outside 0 [] (world links refl) _ refl _
    (field_row _ _ _ _ _ refl box_type) refl (reference_to 2) _ _ (names_it links, (refl, refl)) refl in
    let second = advance (runs links) 0 (main_of links refl) outside 3 (reference_to 2 ∷ []) (world links refl) _ refl _
    (field_row _ _ _ _ _ refl box_type) refl (reference_to 2) _ _ (names_it links, (refl, refl)) refl in
    goes _ _ _ (goes _ _ _ (begun links refl) (advances first.at first.step)) (advances second.at second.step)

pub a_field_is_written : Takes (runs links) (λ s t. Advancing (runs links) (codes "putfield") s t × Shows 9 [] t × ReadsField t.world (reference_to 2) 2 (reference_to 2))
a_field_is_written =
    takes _ _ _ _ at_link (advances puts_link.at puts_link.step) (puts_link, shows _ _ _, record { to = refers_to _ 2 _ refl; values = _; holds = refl; is = refl })

pub a_field_is_read : Takes (runs links) (λ s t. Advancing (runs links) (codes "getfield") s t × Shows 15 (reference_to 2 ∷ []) t)
a_field_is_read =
    let third = advance (runs links) 0 (main_of links refl) outside 9 [] linked _ refl _
    (field_row _ _ _ _ _ refl box_type) refl (reference_to 2) _ _ (names_it links, (refl, refl)) refl in
    let step = advance (runs links) 0 (main_of links refl) outside 12 (reference_to 2 ∷ []) linked _ refl _
    (field_row _ _ _ _ _ refl box_type) refl (reference_to 2) _ _ (names_next links, (record { to = refers_to _ 2 _ refl; values = _; holds = refl; is = refl }, refl)) refl in
    takes _ _ _ _ (goes _ _ _ (goes _ _ _ at_link (advances puts_link.at puts_link.step)) (advances third.at third.step)) (advances step.at step.step) (step, shows _ _ _)

at_count : Arrives (runs counts) (main_at counts refl 4 (reference_to 2 ∷ primitive_value ∷ []) (world counts refl))
at_count =
    let first = advance (runs counts) 0 (main_of counts refl) outside 0 [] (world counts refl) _ refl _
    (field_row _ _ _ _ _ refl box_type) refl (reference_to 2) _ _ (names_it counts, (refl, refl)) refl in
    plainly (runs counts) 0 (main_of counts refl) outside 1 3 (reference_to 2 ∷ []) _ _ refl (goes _ _ _ (begun counts refl) (advances first.at first.step))

puts_count : Advancing (runs counts) (codes "putfield") (main_at counts refl 4 (reference_to 2 ∷ primitive_value ∷ []) (world counts refl)) (main_at counts refl 7 [] (world counts refl))
puts_count = advance (runs counts) 0 (main_of counts refl) outside 4 (reference_to 2 ∷ primitive_value ∷ []) (world counts refl) _ refl _
    (field_row _ _ _ _ _ refl int_type) refl primitive_value _ _ (names_count counts, (refers_to _ 2 _ refl, refl), refl) refl

pub a_primitive_field_is_written : Takes (runs counts) (λ s t. Advancing (runs counts) (codes "putfield") s t × Shows 7 [] t × (t.world ≡ s.world))
a_primitive_field_is_written =
    takes _ _ _ _ at_count (advances puts_count.at puts_count.step) (puts_count, shows _ _ _, refl)

pub a_primitive_field_is_read : Takes (runs counts) (λ s t. Advancing (runs counts) (codes "getfield") s t × Shows 13 (primitive_value ∷ []) t)
a_primitive_field_is_read =
    let third = advance (runs counts) 0 (main_of counts refl) outside 7 [] (world counts refl) _ refl _
    (field_row _ _ _ _ _ refl box_type) refl (reference_to 2) _ _ (names_it counts, (refl, refl)) refl in
    let step = advance (runs counts) 0 (main_of counts refl) outside 10 (reference_to 2 ∷ []) (world counts refl) _ refl _
    (field_row _ _ _ _ _ refl int_type) refl primitive_value _ _ (names_count counts, ((refers_to _ 2 _ refl, refl), refl)) refl in
    takes _ _ _ _ (goes _ _ _ (goes _ _ _ at_count (advances puts_count.at puts_count.step)) (advances third.at third.step)) (advances step.at step.step) (step, shows _ _ _)

abbrev stored : World
stored = with_static (world statics refl) 0 (reference_to 2)

puts_static : Advancing (runs statics) (codes "putstatic") (main_at statics refl 3 (reference_to 2 ∷ []) (world statics refl)) (main_at statics refl 6 [] stored)
puts_static = advance (runs statics) 0 (main_of statics refl) outside 3 (reference_to 2 ∷ []) (world statics refl) _ refl _
    (field_row _ _ _ _ _ refl box_type) refl primitive_value _ _ (names_last statics, refl, refl) refl

at_static : Arrives (runs statics) (main_at statics refl 3 (reference_to 2 ∷ []) (world statics refl))
at_static =
    let first = advance (runs statics) 0 (main_of statics refl) outside 0 [] (world statics refl) _ refl _
    (field_row _ _ _ _ _ refl box_type) refl (reference_to 2) _ _ (names_it statics, (refl, refl)) refl in
    goes _ _ _ (begun statics refl) (advances first.at first.step)

pub a_static_field_is_written : Takes (runs statics) (λ s t. Advancing (runs statics) (codes "putstatic") s t × Shows 6 [] t × (t.world.statics 0 ≡ reference_to 2))
a_static_field_is_written =
    takes _ _ _ _ at_static (advances puts_static.at puts_static.step) (puts_static, shows _ _ _, refl)

pub a_static_field_is_read : Takes (runs statics) (λ s t. Advancing (runs statics) (codes "getstatic") s t × Shows 9 (reference_to 2 ∷ []) t × (t.world ≡ s.world))
a_static_field_is_read =
    let step = advance (runs statics) 0 (main_of statics refl) outside 6 [] stored _ refl _
    (field_row _ _ _ _ _ refl box_type) refl (reference_to 2) _ _ (names_last statics, (refl, refl)) refl in
    takes _ _ _ _ (goes _ _ _ at_static (advances puts_static.at puts_static.step)) (advances step.at step.step) (step, shows _ _ _, refl)
