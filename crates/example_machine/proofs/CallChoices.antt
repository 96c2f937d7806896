-- A call of a native method, and static fields of type String.
use Rattle.std.proofs.Common.{codes, inl, ℕ, zero, suc, true, [], ◌∷◌, Some, refl}
use Rattle.jvm_model.specs.Descriptors.{IsFieldDescriptor}
use Rattle.jvm_model.specs.Resolution.ResolvesFrom.{itself as resolved_there}
use Rattle.machine_bytecode.specs.Machine.{MethodCode, NamesField, NamesMethod, advances, gets_result}
use Rattle.machine_bytecode.specs.Start.{BeginsAs, constant}
use Rattle.machine_bytecode.specs.States.{Value, primitive_value, null_value, reference_to}
use Rattle.example_machine.specs.Calling.{main_pool, program_with, runs, reads_title}
use Rattle.example_machine.specs.Patching.{main_class, main_pool as native_pool, pings, program, calls_native}
use Rattle.example_machine.specs.Taking.{Takes, Shows, Advancing, GettingResult}
use Rattle.example_machine.proofs.Facts.{call_row, declared_field, described_at, field_row, shows}
use Rattle.example_machine.proofs.Runs.{takes, built, starts_with, starts_at, enters_at, statics_of, begins_all, first_world, world_with, advance}
use Rattle.example_machine.proofs.Types.{class_type}
use Rattle.example_machine.proofs.Searches.{chain_up}
use Rattle.example_machine.proofs.CallSteps.{get, not_selecting}
use Rattle.example_machine.proofs.CallStart.{outside, main_of, world, begun, int_units}

-- ---- a native method

abbrev native_main : MethodCode program 0
native_main = built program 0 _ main_class 0 9 6 7 pings refl refl refl refl

abbrev names_ping : NamesMethod program native_pool 11
names_ping = record {
  called = _;
  named = refl;
  resolved = 1;
  resolves = record {
    class = _;
    named = refl;
    search = resolved_there (record { chain = chain_up program 3 (Some (codes "Main")); of_start = (refl, (refl, tt)); first = inl (record { method = _; stands = refl; of_class = refl; is = refl }) });
  };
  method = _;
  stands = refl;
}

pub a_native_method_is_called : Takes calls_native (λ s t. GettingResult calls_native (codes "invokestatic") (codes "Main") (codes "ping") s t × Shows 3 (primitive_value ∷ []) t)
a_native_method_is_called =
    let w = first_world calls_native [] in
    let step = get calls_native 0 native_main outside 0 [] w _ refl _ (call_row _ _ _ _ _ _ refl int_units) _
    (record { is_there = refl; names = names_ping; target = 1; is_target = (refl, refl); events = not_selecting _ _ _ _ _ refl })
    (described_at _ _ _ _ refl refl refl int_units.is) 0 _ refl primitive_value _ (refl, refl) in
    takes _ _ _ _ (enters_at calls_native native_main w (starts_at calls_native native_main [] refl)) (gets_result step.at step.step) (step, shows _ _ _)

-- ---- a static field of type String

string_type : IsFieldDescriptor (codes "Ljava/lang/String;")
string_type = class_type (codes "java") (codes "lang" ∷ codes "String" ∷ []) refl

abbrev names_title : NamesField (program_with reads_title) main_pool 80 true
names_title = declared_field _ _ _ _ 0 _ _ refl refl refl refl refl

pub a_string_begins_with_null : Takes (runs reads_title) (λ s t. Advancing (runs reads_title) (codes "getstatic") s t × Shows 3 (null_value ∷ []) t)
a_string_begins_with_null =
    let step = advance (runs reads_title) 4 (main_of reads_title refl) outside 0 [] (world reads_title refl) _ refl _ (field_row _ _ _ _ _ refl string_type) refl null_value _ _ (names_title, (refl, refl)) refl in
    takes _ _ _ _ (begun reads_title refl) (advances step.at step.step) (step, shows _ _ _)

-- the fields begin with the default, but for this one
abbrev with_title : ℕ → Value
with_title zero = reference_to 0
with_title (suc number) = statics_of (program_with reads_title) (suc number)

begins_with_title : (number : ℕ) → BeginsAs (program_with reads_title) number (with_title number)
begins_with_title zero = constant _ _ refl refl refl refl refl (record { place = 0; stands = refl; is = refl })
begins_with_title (suc number) = begins_all (program_with reads_title) (suc number)

pub a_string_begins_with_a_constant : Takes (runs reads_title) (λ s t. Advancing (runs reads_title) (codes "getstatic") s t × Shows 3 (reference_to 0 ∷ []) t)
a_string_begins_with_a_constant =
    let x = runs reads_title in
    let w = world_with x [] with_title in
    let step = advance x 4 (main_of reads_title refl) outside 0 [] w _ refl _ (field_row _ _ _ _ _ refl string_type) refl (reference_to 0) _ _ (names_title, (refl, refl)) refl in
    takes _ _ _ _ (enters_at x (main_of reads_title refl) w (starts_with x (main_of reads_title refl) [] refl with_title begins_with_title)) (advances step.at step.step) (step, shows _ _ _)
