-- The steps within a method that compare references.
use Rattle.std.proofs.Common.{codes, ◌≡◌, ◌⊎◌, inl, inr, ℕ, Bool, true, false, [], ◌∷◌, Some, slice_get, refl, sym, ap, ◌∙◌, arith}
use Rattle.std.proofs.lemmas.Option.{same_Some}
use Rattle.jvm_model.specs.declared.site.SiteKind.{SiteKind}
use Rattle.jvm_model.specs.declared.site.SiteKind.TheVariants.{Boot, New}
use Rattle.machine_bytecode.specs.Machine.{IsMade, advances, of_string}
use Rattle.machine_bytecode.specs.States.{primitive_value, null_value, reference_to, Object, World, with_object, new_object, site_at}
use Rattle.example_machine.specs.Taking.{Takes, Shows, Advancing}
use Rattle.example_machine.specs.Within.{program_with, runs, null_jump, box_jump, same_jump, other_jump, two_branch, string_branch}
use Rattle.example_machine.proofs.Facts.{shows, field_row}
use Rattle.example_machine.proofs.Runs.{Arrives, goes, takes, frame_at, advance, plainly}
use Rattle.example_machine.proofs.WithinStart.{outside, main_of, world, main_at, begun, names_it, box_type}

-- ---- tests for an object

pub a_test_for_an_object_jumps : Takes (runs box_jump) (λ s t. Advancing (runs box_jump) (codes "ifnonnull") s t × Shows 7 [] t)
a_test_for_an_object_jumps =
    let first = advance (runs box_jump) 0 (main_of box_jump refl) outside 0 [] (world box_jump refl) _ refl _
    (field_row _ _ _ _ _ refl box_type) refl (reference_to 2) _ _ (names_it box_jump, (refl, refl)) refl in
    let step = advance (runs box_jump) 0 (main_of box_jump refl) outside 3 (reference_to 2 ∷ []) (world box_jump refl) _ refl _
    refl refl primitive_value _ 7 (refl, refl) (0, omega arith, refl) in
    takes _ _ _ _ (goes _ _ _ (begun box_jump refl) (advances first.at first.step)) (advances step.at step.step) (step, shows _ _ _)

pub a_test_for_an_object_goes_on : Takes (runs null_jump) (λ s t. Advancing (runs null_jump) (codes "ifnonnull") s t × Shows 4 [] t)
a_test_for_an_object_goes_on =
    let step = advance (runs null_jump) 0 (main_of null_jump refl) outside 1 (null_value ∷ []) (world null_jump refl) _ refl _
    refl refl primitive_value _ _ (refl, refl) refl in
    takes _ _ _ _ (plainly (runs null_jump) 0 (main_of null_jump refl) outside 1 0 [] _ _ refl (begun null_jump refl)) (advances step.at step.step) (step, shows _ _ _)

-- ---- exact tests

pub a_test_of_two_references_jumps : Takes (runs other_jump) (λ s t. Advancing (runs other_jump) (codes "if_acmpne") s t × Shows 8 [] t)
a_test_of_two_references_jumps =
    let first = advance (runs other_jump) 0 (main_of other_jump refl) outside 0 [] (world other_jump refl) _ refl _
    (field_row _ _ _ _ _ refl box_type) refl (reference_to 2) _ _ (names_it other_jump, (refl, refl)) refl in
    let pushed = plainly (runs other_jump) 0 (main_of other_jump refl) outside 1 3 (reference_to 2 ∷ []) _ _ refl (goes _ _ _ (begun other_jump refl) (advances first.at first.step)) in
    let step = advance (runs other_jump) 0 (main_of other_jump refl) outside 4 (reference_to 2 ∷ null_value ∷ []) (world other_jump refl) _ refl _
    refl refl primitive_value _ 8 (refl, refl) (false, refl, (0, omega arith, refl)) in
    takes _ _ _ _ pushed (advances step.at step.step) (step, shows _ _ _)

abbrev with_box : World
with_box = with_object (world same_jump refl) (new_object (program_with 7 same_jump) (site_at New (frame_at 0 0 []) (codes "lib/Box")) 0)

pub a_test_of_one_object_goes_on : Takes (runs same_jump) (λ s t. Advancing (runs same_jump) (codes "if_acmpne") s t × Shows 7 [] t)
a_test_of_one_object_goes_on =
    let first = advance (runs same_jump) 0 (main_of same_jump refl) outside 0 [] (world same_jump refl) _ refl _
    refl refl (reference_to 3) with_box _ (record { class = _; named = refl }, record { made_is = refl; after_is = refl }) refl in
    let copied = plainly (runs same_jump) 0 (main_of same_jump refl) outside 1 3 (reference_to 3 ∷ []) with_box _ refl (goes _ _ _ (begun same_jump refl) (advances first.at first.step)) in
    let step = advance (runs same_jump) 0 (main_of same_jump refl) outside 4 (reference_to 3 ∷ reference_to 3 ∷ []) with_box _ refl _
    refl refl primitive_value _ _ (refl, refl) (true, (λ made. refl), refl) in
    takes _ _ _ _ copied (advances step.at step.step) (step, shows _ _ _)

abbrev with_one : World
with_one = with_object (world two_branch refl) (new_object (program_with 7 two_branch) (site_at New (frame_at 0 0 []) (codes "lib/Box")) 0)

abbrev with_two : World
with_two = with_object with_one (new_object (program_with 7 two_branch) (site_at New (frame_at 0 3 (reference_to 3 ∷ [])) (codes "lib/Box")) 0)

pub a_test_of_two_objects_goes_on : Takes (runs two_branch) (λ s t. Advancing (runs two_branch) (codes "if_acmpeq") s t × Shows 9 [] t)
a_test_of_two_objects_goes_on =
    let first = advance (runs two_branch) 0 (main_of two_branch refl) outside 0 [] (world two_branch refl) _ refl _
    refl refl (reference_to 3) with_one _ (record { class = _; named = refl }, record { made_is = refl; after_is = refl }) refl in
    let second = advance (runs two_branch) 0 (main_of two_branch refl) outside 3 (reference_to 3 ∷ []) with_one _ refl _
    refl refl (reference_to 4) with_two _ (record { class = _; named = refl }, record { made_is = refl; after_is = refl }) refl in
    let step = advance (runs two_branch) 0 (main_of two_branch refl) outside 6 (reference_to 3 ∷ reference_to 4 ∷ []) with_two _ refl _
    refl refl primitive_value _ _ (refl, refl) (false, (λ made. refl), refl) in
    takes _ _ _ _ (goes _ _ _ (goes _ _ _ (begun two_branch refl) (advances first.at first.step)) (advances second.at second.step)) (advances step.at step.step) (step, shows _ _ _)

-- ---- tests that may go either way

-- an object that is there from the start was made by no instruction
not_made : (w : World) (place : ℕ) (o : Object) → slice_get w.heap place ≡ Some o → o.site.kind ≡ Boot → IsMade w place → ⊥
not_made w place o held boot (other, there, new) =
    let same = same_Some o other (sym held ∙ there) in
    let kind : ◌≡◌ {A = SiteKind} Boot New = sym boot ∙ ap (λ (a : Object). a.site.kind) same ∙ new in
    cc

at_strings : Arrives (runs string_branch) (main_at string_branch refl 4 (reference_to 0 ∷ reference_to 0 ∷ []) (world string_branch refl))
at_strings =
    let first = advance (runs string_branch) 0 (main_of string_branch refl) outside 0 [] (world string_branch refl) _ refl _
    refl refl (reference_to 0) _ _ (of_string 6 refl (record { place = 0; stands = refl; is = refl }), refl) refl in
    let second = advance (runs string_branch) 0 (main_of string_branch refl) outside 2 (reference_to 0 ∷ []) (world string_branch refl) _ refl _
    refl refl (reference_to 0) _ _ (of_string 6 refl (record { place = 0; stands = refl; is = refl }), refl) refl in
    goes _ _ _ (goes _ _ _ (begun string_branch refl) (advances first.at first.step)) (advances second.at second.step)

pub a_test_of_two_strings_jumps : Takes (runs string_branch) (λ s t. Advancing (runs string_branch) (codes "if_acmpeq") s t × Shows 8 [] t)
a_test_of_two_strings_jumps =
    let step = advance (runs string_branch) 0 (main_of string_branch refl) outside 4 (reference_to 0 ∷ reference_to 0 ∷ []) (world string_branch refl) _ refl _
    refl refl primitive_value _ 8 (refl, refl) (true, (λ made. refl), (0, omega arith, refl)) in
    takes _ _ _ _ at_strings (advances step.at step.step) (step, shows _ _ _)

-- two strings may differ, though one object stands for both
pub strings_differ : (IsMade (world string_branch refl) 0) ⊎ (IsMade (world string_branch refl) 0) → ◌≡◌ {A = Bool} false true
strings_differ made = absurd (none made)
  where
    none : (IsMade (world string_branch refl) 0) ⊎ (IsMade (world string_branch refl) 0) → ⊥
    none (inl first) = not_made (world string_branch refl) 0 _ refl refl first
    none (inr second) = not_made (world string_branch refl) 0 _ refl refl second

pub a_test_of_two_strings_goes_on : Takes (runs string_branch) (λ s t. Advancing (runs string_branch) (codes "if_acmpeq") s t × Shows 7 [] t)
a_test_of_two_strings_goes_on =
    let step = advance (runs string_branch) 0 (main_of string_branch refl) outside 4 (reference_to 0 ∷ reference_to 0 ∷ []) (world string_branch refl) _ refl _
    refl refl primitive_value _ _ (refl, refl) (false, strings_differ, refl) in
    takes _ _ _ _ at_strings (advances step.at step.step) (step, shows _ _ _)
