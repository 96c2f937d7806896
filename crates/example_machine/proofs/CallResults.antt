-- What described methods give, keep and throw.
use Rattle.std.proofs.Common.{codes, ◌≡◌, inl, inr, [], ◌∷◌, Some, refl, arith}
use Rattle.jvm_model.specs.declared.site.SiteKind.TheVariants.{New, Result, Thrown}
use Rattle.jvm_model.specs.Programs.{object_name}
use Rattle.jvm_model.specs.Selection.{upward}
use Rattle.jvm_model.specs.Subtypes.{by_class, by_array, same}
use Rattle.machine_bytecode.specs.Machine.{advances, gets_result, gets_exception, catches, of_primitives}
use Rattle.machine_bytecode.specs.States.{primitive_value, null_value, reference_to, World, throws_on, with_object, with_kept, new_object, new_array, site_at}
use Rattle.example_machine.specs.Building.{handler}
use Rattle.example_machine.specs.Calling.{program_with, runs, hashes, counts, rings, gets_none, gets_same, gets_fresh, keeps, fails}
use Rattle.example_machine.specs.Taking.{Takes, Shows, HasObject, GettingResult, GettingException, Catching}
use Rattle.example_machine.proofs.Facts.{call_row, described_at, field_row, has_object, makes_array, refers_to, shows}
use Rattle.example_machine.proofs.Runs.{Arrives, goes, takes, frame_at, advance, plainly}
use Rattle.example_machine.proofs.CallSteps.{get, get_thrown, not_selecting, not_named}
use Rattle.example_machine.proofs.Searches.{chain_up}
use Rattle.example_machine.proofs.Throws.{catch}
use Rattle.example_machine.proofs.CallStart.{outside, main_of, world, main_at, begun, int_units, plain_units, door_units, from_door_units, door_to_door_units, door_type, names_gate, names_hash, house_named, is_door}

-- ---- an array is called

abbrev pub with_array : World
with_array = with_object (world hashes refl) (new_array (site_at New (frame_at 4 1 (primitive_value ∷ [])) (codes "[I")) (primitive_value ∷ []) 0)

at_hash : Arrives (runs hashes) (main_at hashes refl 3 (reference_to 3 ∷ []) with_array)
at_hash =
    let pushed = plainly (runs hashes) 4 (main_of hashes refl) outside 1 0 [] _ _ refl (begun hashes refl) in
    let step = advance (runs hashes) 4 (main_of hashes refl) outside 1 (primitive_value ∷ []) (world hashes refl) _ refl _ refl refl (reference_to 3) with_array _
    (codes "[I" ∷ [], of_primitives refl refl, makes_array _ _ 1 _) refl in
    goes _ _ _ pushed (advances step.at step.step)

pub an_array_is_called : Takes (runs hashes) (λ s t. GettingResult (runs hashes) (codes "invokevirtual") (codes "java/lang/Object") (codes "hashCode") s t × Shows 6 (primitive_value ∷ []) t)
an_array_is_called =
    let step = get (runs hashes) 4 (main_of hashes refl) outside 3 (reference_to 3 ∷ []) with_array _ refl _ (call_row _ _ _ _ _ _ refl int_units) _
    (record {
      is_there = refl;
      names = names_hash hashes;
      target = 6;
      is_target = record {
        instance = refl;
        receiver = record { to = refers_to _ 3 _ refl; fits = by_array _ _ refl (inl refl) };
        selects = record {
          method = _;
          stands = refl;
          chosen = upward (record { chain = chain_up (program_with hashes) 2 (Some object_name); of_start = (refl, tt); first = inl (record { method = _; stands = refl; of_class = refl; is = (refl, inl refl) }) });
        };
      };
      events = not_named _ _ _ _ _ refl;
    })
    (described_at _ _ _ _ refl refl refl int_units.is) 0 _ refl primitive_value _ (refl, refl) in
    takes _ _ _ _ at_hash (gets_result step.at step.step) (step, shows _ _ _)

-- ---- results

pub a_primitive_is_given : Takes (runs counts) (λ s t. GettingResult (runs counts) (codes "invokestatic") (codes "lib/House") (codes "count") s t × Shows 3 (primitive_value ∷ []) t)
a_primitive_is_given =
    let step = get (runs counts) 4 (main_of counts refl) outside 0 [] (world counts refl) _ refl _ (call_row _ _ _ _ _ _ refl int_units) _
    (record { is_there = refl; names = house_named counts 35 8 _ _ refl refl refl refl refl; target = 8; is_target = (refl, refl); events = not_selecting _ _ _ _ _ refl })
    (described_at _ _ _ _ refl refl refl int_units.is) 0 _ refl primitive_value _ (refl, refl) in
    takes _ _ _ _ (begun counts refl) (gets_result step.at step.step) (step, shows _ _ _)

pub nothing_is_given : Takes (runs rings) (λ s t. GettingResult (runs rings) (codes "invokestatic") (codes "lib/House") (codes "ring") s t × Shows 3 [] t)
nothing_is_given =
    let step = get (runs rings) 4 (main_of rings refl) outside 0 [] (world rings refl) _ refl _ (call_row _ _ _ _ _ _ refl plain_units) _
    (record { is_there = refl; names = house_named rings 38 9 _ _ refl refl refl refl refl; target = 9; is_target = (refl, refl); events = not_selecting _ _ _ _ _ refl })
    (described_at _ _ _ _ refl refl refl plain_units.is) 0 _ refl primitive_value _ (refl, refl) in
    takes _ _ _ _ (begun rings refl) (gets_result step.at step.step) (step, shows _ _ _)

pub null_is_given : Takes (runs gets_none) (λ s t. GettingResult (runs gets_none) (codes "invokestatic") (codes "lib/House") (codes "none") s t × Shows 3 (null_value ∷ []) t)
null_is_given =
    let step = get (runs gets_none) 4 (main_of gets_none refl) outside 0 [] (world gets_none refl) _ refl _ (call_row _ _ _ _ _ _ refl door_units) _
    (record { is_there = refl; names = house_named gets_none 42 10 _ _ refl refl refl refl refl; target = 10; is_target = (refl, refl); events = not_selecting _ _ _ _ _ refl })
    (described_at _ _ _ _ refl refl refl door_units.is) 0 _ refl null_value _ (refl, refl) in
    takes _ _ _ _ (begun gets_none refl) (gets_result step.at step.step) (step, shows _ _ _)

pub a_new_object_is_given : Takes (runs gets_fresh)
    (λ s t. GettingResult (runs gets_fresh) (codes "invokestatic") (codes "lib/House") (codes "fresh") s t × Shows 3 (reference_to 3 ∷ []) t × HasObject 3 Result (codes "Gate") t)
a_new_object_is_given =
    let step = get (runs gets_fresh) 4 (main_of gets_fresh refl) outside 0 [] (world gets_fresh refl) _ refl _ (call_row _ _ _ _ _ _ refl door_units) _
    (record { is_there = refl; names = house_named gets_fresh 48 12 _ _ refl refl refl refl refl; target = 12; is_target = (refl, refl); events = not_selecting _ _ _ _ _ refl })
    (described_at _ _ _ _ refl refl refl door_units.is) 0 _ refl (reference_to 3) _ (record { made_is = refl; after_is = refl }) in
    takes _ _ _ _ (begun gets_fresh refl) (gets_result step.at step.step) (step, shows _ _ _, has_object _ _ _ refl)

pub an_argument_is_given_back : Takes (runs gets_same) (λ s t. GettingResult (runs gets_same) (codes "invokestatic") (codes "lib/House") (codes "same") s t × Shows 6 (reference_to 2 ∷ []) t)
an_argument_is_given_back =
    let first = advance (runs gets_same) 4 (main_of gets_same refl) outside 0 [] (world gets_same refl) _ refl _
    (field_row _ _ _ _ _ refl door_type) refl (reference_to 2) _ _ (names_gate gets_same, (refl, refl)) refl in
    let step = get (runs gets_same) 4 (main_of gets_same refl) outside 3 (reference_to 2 ∷ []) (world gets_same refl) _ refl _
    (call_row _ _ _ _ _ _ refl door_to_door_units) _
    (record { is_there = refl; names = house_named gets_same 45 11 _ _ refl refl refl refl refl; target = 11; is_target = (refl, refl); events = not_selecting _ _ _ _ _ refl })
    (described_at _ _ _ _ refl refl refl door_to_door_units.is) 0 _ refl (reference_to 2) _ (refl, refl) in
    takes _ _ _ _ (goes _ _ _ (begun gets_same refl) (advances first.at first.step)) (gets_result step.at step.step) (step, shows _ _ _)

-- ---- what is kept

abbrev pub kept_world : World
kept_world = with_kept (world keeps refl) (2 ∷ [])

at_put : Arrives (runs keeps) (main_at keeps refl 3 (reference_to 2 ∷ []) (world keeps refl))
at_put =
    let step = advance (runs keeps) 4 (main_of keeps refl) outside 0 [] (world keeps refl) _ refl _
    (field_row _ _ _ _ _ refl door_type) refl (reference_to 2) _ _ (names_gate keeps, (refl, refl)) refl in
    goes _ _ _ (begun keeps refl) (advances step.at step.step)

pub puts : GettingResult (runs keeps) (codes "invokestatic") (codes "lib/House") (codes "put") (main_at keeps refl 3 (reference_to 2 ∷ []) (world keeps refl)) (main_at keeps refl 6 [] kept_world)
puts = get (runs keeps) 4 (main_of keeps refl) outside 3 (reference_to 2 ∷ []) (world keeps refl) _ refl _ (call_row _ _ _ _ _ _ refl from_door_units) _
    (record { is_there = refl; names = house_named keeps 52 13 _ _ refl refl refl refl refl; target = 13; is_target = (refl, refl); events = not_selecting _ _ _ _ _ refl })
    (described_at _ _ _ _ refl refl refl from_door_units.is) 0 _ refl primitive_value _ (refl, refl)

pub an_argument_is_kept : Takes (runs keeps) (λ s t. GettingResult (runs keeps) (codes "invokestatic") (codes "lib/House") (codes "put") s t × Shows 6 [] t × (t.world.kept ≡ 2 ∷ []))
an_argument_is_kept =
    takes _ _ _ _ at_put (gets_result puts.at puts.step) (puts, shows _ _ _, refl)

pub a_kept_object_is_given : Takes (runs keeps) (λ s t. GettingResult (runs keeps) (codes "invokestatic") (codes "lib/House") (codes "take") s t × Shows 9 (reference_to 2 ∷ []) t)
a_kept_object_is_given =
    let step = get (runs keeps) 4 (main_of keeps refl) outside 6 [] kept_world _ refl _ (call_row _ _ _ _ _ _ refl door_units) _
    (record { is_there = refl; names = house_named keeps 55 14 _ _ refl refl refl refl refl; target = 14; is_target = (refl, refl); events = not_selecting _ _ _ _ _ refl })
    (described_at _ _ _ _ refl refl refl door_units.is) 0 _ refl (reference_to 2) _ (record { class = _; of_result = refl; object = is_door keeps kept_world 0 refl; kept = (0, omega arith, refl) }, refl) in
    takes _ _ _ _ (goes _ _ _ at_put (gets_result puts.at puts.step)) (gets_result step.at step.step) (step, shows _ _ _)

-- ---- what is thrown

abbrev pub failed_world : World
failed_world = with_object (world fails refl) (new_object (program_with fails) (site_at Thrown (frame_at 4 0 []) (codes "java/lang/Exception")) 0)

pub throws_failure : GettingException (runs fails) (codes "invokestatic") (codes "lib/House") (codes "fail") (main_at fails refl 0 [] (world fails refl)) (throws_on (frame_at 4 0 [] ∷ outside) failed_world 3)
throws_failure =
    get_thrown (runs fails) 4 (main_of fails refl) outside 0 [] (world fails refl) _ refl _ (call_row _ _ _ _ _ _ refl plain_units) _
    (record { is_there = refl; names = house_named fails 58 15 _ _ refl refl refl refl refl; target = 15; is_target = (refl, refl); events = not_selecting _ _ _ _ _ refl })
    (described_at _ _ _ _ refl refl refl plain_units.is) 0 _ refl

pub a_described_method_throws : Takes (runs fails)
    (λ s t. GettingException (runs fails) (codes "invokestatic") (codes "lib/House") (codes "fail") s t × HasObject 3 Thrown (codes "java/lang/Exception") t)
a_described_method_throws =
    takes _ _ _ _ (begun fails refl) (gets_exception throws_failure.at throws_failure.step) (throws_failure, has_object _ _ _ refl)

pub its_exception_is_caught : Takes (runs fails) (λ s t. Catching (runs fails) 3 (codes "java/lang/Exception") s t × Shows 4 (reference_to 3 ∷ []) t)
its_exception_is_caught =
    let step = catch (runs fails) 4 (main_of fails refl) outside 0 [] [] failed_world 3 _ refl (handler 0 3 4 60)
    (inl (record { covers = refl; takes = inr (codes "java/lang/Exception", refl, by_class _ _ _ refl (same _ refl)) }, refl)) refl in
    takes _ _ _ _ (goes _ _ _ (begun fails refl) (gets_exception throws_failure.at throws_failure.step)) (catches step.at step.step) (step, shows _ _ _)
