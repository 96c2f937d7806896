-- The programs that throw, up to the first instruction of `main`; and their steps.
use Rattle.std.proofs.Common.{codes, ◌≡◌, inl, inr, ℕ, true, List, [], ◌∷◌, Some, slice_get, refl, ap, arith}
use Rattle.std.proofs.lemmas.List.Elements.{All-nil, All-cons}
use Rattle.jvm_model.specs.declared.code.Handler.{Handler}
use Rattle.jvm_model.specs.declared.site.SiteKind.TheVariants.{Boot, Thrown}
use Rattle.jvm_model.specs.Code.{CodeBody}
use Rattle.jvm_model.specs.Descriptors.{IsFieldDescriptor}
use Rattle.jvm_model.specs.Instructions.{member_at}
use Rattle.jvm_model.specs.Lookups.{MemberReference}
use Rattle.jvm_model.specs.Programs.{Method, object_name}
use Rattle.jvm_model.specs.Resolution.{itself}
use Rattle.jvm_model.specs.Resolution.ResolvesFrom.{itself as resolved_there}
use Rattle.jvm_model.specs.Subtypes.{class_named, by_class, same, below, Fits}
use Rattle.jvm_model.specs.Table.{null_pointer}
use Rattle.machine_bytecode.specs.Machine.IsUncaught.{of_start}
use Rattle.machine_bytecode.specs.Machine.{MethodCode, Handles, IsFirstHandler, NamesField, NamesMethod, advances, enters, raises, throws, catches, unwinds}
use Rattle.machine_bytecode.specs.Objects.{IsOf}
use Rattle.machine_bytecode.specs.Start.{start_frame, boot_site}
use Rattle.machine_bytecode.specs.States.{Value, null_value, reference_to, Object, Frame, World, State, throwing, ended, throws_on, ends_with, waiting, waiting_no_more, new_object}
use Rattle.example_machine.specs.Building.{handler}
use Rattle.example_machine.specs.Excepting.{main_pool, main_class, middle, inner, program_with, runs, catches_here, catches_above, catches_nothing, calls_null}
use Rattle.example_machine.specs.Taking.{Takes, Shows, RunsIn, HasObject, Raising, ThrowingObject, Catching, Unwinding}
use Rattle.example_machine.proofs.Facts.{call_row, declared_field, field_row, has_object, runs_in, shows}
use Rattle.example_machine.proofs.Runs.{Arrives, goes, takes, built, body_fits, starts_at, enters_at, entered_in, first_world, frame_at, on, advance, raise, plainly}
use Rattle.example_machine.proofs.Types.{class_type, no_fit}
use Rattle.example_machine.proofs.Searches.{chain_up}
use Rattle.example_machine.proofs.CallSteps.{enter, waiting_at, not_selecting}
use Rattle.example_machine.proofs.CallStart.{plain_units, int_units, outside}
use Rattle.example_machine.proofs.Throws.{throw, catch, throwing_at, unwind, not_taken}

pub exception_type : IsFieldDescriptor (codes "Ljava/lang/Exception;")
exception_type = class_type (codes "java") (codes "lang" ∷ codes "Exception" ∷ []) refl

module _ (k : CodeBody) where
  -- the methods of Main have the numbers 0 to 2
  abbrev pub middle_of : MethodCode (program_with k) 1
  middle_of = built (program_with k) 1 _ (main_class k) 1 9 8 7 middle refl refl refl refl

  abbrev pub inner_of : MethodCode (program_with k) 2
  inner_of = built (program_with k) 2 _ (main_class k) 2 9 11 7 inner refl refl refl refl

  abbrev pub names_fire : NamesField (program_with k) main_pool 19 true
  names_fire = declared_field _ _ _ _ 0 _ _ refl refl refl refl refl

  -- the exception at the place 2
  abbrev pub fire : Object
  fire = new_object (program_with k) (boot_site (codes "java/lang/Exception")) 0

  abbrev pub is_throwable : (w : World) → slice_get w.heap 2 ≡ Some fire → IsOf (program_with k) (codes "java/lang/Throwable") w (reference_to 2)
  is_throwable w held = record { to = record { place = 2; is = refl; object = fire; held = held }; fits = by_class _ _ _ refl (below _ _ _ refl (inl refl) (same _ refl)) }

  pub fits_exception : Fits (program_with k) (codes "java/lang/Exception") (codes "java/lang/Exception")
  fits_exception = by_class _ _ _ refl (same _ refl)

  pub fits_no_error : Fits (program_with k) (codes "java/lang/Error") (codes "java/lang/Exception") → ⊥
  fits_no_error = no_fit (program_with k) (codes "java/lang/Exception" ∷ codes "java/lang/Throwable" ∷ object_name ∷ []) (codes "java/lang/Error") (codes "java/lang/Exception") refl refl refl refl

module _ (k : CodeBody) (fits : body_fits k ≡ true) where
  abbrev pub main_of : MethodCode (program_with k) 0
  main_of = built (program_with k) 0 _ (main_class k) 0 9 6 7 k refl refl refl fits

  abbrev pub world : World
  world = first_world (runs k) []

  abbrev pub main_at : ℕ → List Value → World → State
  main_at offset slots w = on (runs k) 0 main_of outside offset slots w

  begun : Arrives (runs k) (entered_in (runs k) main_of world)
  begun = enters_at (runs k) main_of world (starts_at (runs k) main_of [] refl)

-- ---- in one method

abbrev pub main_throws : CodeBody → World → ℕ → List Value → State
main_throws k w offset slots = throws_on (frame_at 0 offset slots ∷ outside) w 2

at_throw : Arrives (runs catches_here) (main_at catches_here refl 3 (reference_to 2 ∷ []) (world catches_here refl))
at_throw =
    let step = advance (runs catches_here) 0 (main_of catches_here refl) outside 0 [] (world catches_here refl) _ refl _
    (field_row _ _ _ _ _ refl exception_type) refl (reference_to 2) _ _ (names_fire catches_here, (refl, refl)) refl in
    goes _ _ _ (begun catches_here refl) (advances step.at step.step)

pub throws_here : ThrowingObject (runs catches_here) 2 (main_at catches_here refl 3 (reference_to 2 ∷ []) (world catches_here refl)) (main_throws catches_here (world catches_here refl) 3 (reference_to 2 ∷ []))
throws_here = throw (runs catches_here) 0 (main_of catches_here refl) outside 3 (reference_to 2 ∷ []) (world catches_here refl) _ refl _
    refl refl refl (is_throwable catches_here (world catches_here refl) refl)

pub an_exception_is_thrown : Takes (runs catches_here) (λ s t. ThrowingObject (runs catches_here) 2 s t × HasObject 2 Boot (codes "java/lang/Exception") t × (t.mode ≡ throwing 2))
an_exception_is_thrown =
    takes _ _ _ _ at_throw (throws throws_here.at throws_here.step) (throws_here, has_object _ _ _ refl, refl)

-- the first handler does not take it, and the second one does
pub second_handler : IsFirstHandler (program_with catches_here) main_pool 3 (codes "java/lang/Exception") catches_here.handlers (handler 0 4 4 21)
second_handler =
    inr (
      not_taken (program_with catches_here) main_pool 3 (handler 0 4 4 23) (codes "java/lang/Error") (codes "java/lang/Exception") refl (fits_no_error catches_here),
      inl (record { covers = refl; takes = inr (codes "java/lang/Exception", refl, fits_exception catches_here) }, refl),
    )

pub an_exception_is_caught_in_its_method : Takes (runs catches_here) (λ s t. Catching (runs catches_here) 2 (codes "java/lang/Exception") s t × Shows 4 (reference_to 2 ∷ []) t)
an_exception_is_caught_in_its_method =
    let step = catch (runs catches_here) 0 (main_of catches_here refl) outside 3 [] (reference_to 2 ∷ []) (world catches_here refl) 2 (fire catches_here) refl (handler 0 4 4 21) second_handler refl in
    takes _ _ _ _ (goes _ _ _ at_throw (throws throws_here.at throws_here.step)) (catches step.at step.step) (step, shows _ _ _)

pub an_uncaught_exception_ends_the_program : Takes (runs catches_nothing) (λ s t. Unwinding (runs catches_nothing) 2 s t × (t.frames ≡ []) × (t.mode ≡ ended))
an_uncaught_exception_ends_the_program =
    let x = runs catches_nothing in
    let w = world catches_nothing refl in
    let first = advance (runs catches_nothing) 0 (main_of catches_nothing refl) outside 0 [] w _ refl _
    (field_row _ _ _ _ _ refl exception_type) refl (reference_to 2) _ _ (names_fire catches_nothing, (refl, refl)) refl in
    let second = throw (runs catches_nothing) 0 (main_of catches_nothing refl) outside 3 (reference_to 2 ∷ []) w _ refl _
    refl refl refl (is_throwable catches_nothing w refl) in
    let third = unwind x 0 (main_of catches_nothing refl) outside 3 (reference_to 2 ∷ []) w 2 (fire catches_nothing) refl (All-nil (λ (h : Handler). Handles (program_with catches_nothing) main_pool 3 (codes "java/lang/Exception") h → ⊥)) in
    let step : Unwinding x 2 (throws_on (waiting_no_more (waiting start_frame []) ∷ []) w 2) (ends_with w) =
    record { at = throwing_at _ _ w 2 (fire catches_nothing) refl; thrown = refl; step = record { uncaught = of_start refl; after = refl } } in
    takes _ _ _ _
    (goes _ _ _ (goes _ _ _ (goes _ _ _ (begun catches_nothing refl) (advances first.at first.step)) (throws second.at second.step)) (unwinds third.at third.step))
    (unwinds step.at step.step) (step, refl, refl)

-- ---- null

pub a_call_on_null_raises : Takes (runs calls_null)
    (λ s t. Raising (runs calls_null) (codes "invokevirtual") (codes "java/lang/NullPointerException") s t × HasObject 3 Thrown (codes "java/lang/NullPointerException") t × (t.mode ≡ throwing 3))
a_call_on_null_raises =
    let step = raise (runs calls_null) 0 (main_of calls_null refl) outside 1 (null_value ∷ []) (world calls_null refl) _ refl _
    (call_row _ _ _ _ _ _ refl int_units) refl null_pointer (0, omega arith, refl) refl in
    takes _ _ _ _ (plainly (runs calls_null) 0 (main_of calls_null refl) outside 1 0 [] _ _ refl (begun calls_null refl)) (raises step.at step.step) (step, has_object _ _ _ refl, refl)

-- ---- two frames above

-- a static method of Main is named
module _ (k : CodeBody) where
  abbrev pub main_named : (operand number : ℕ) (called : MemberReference) (m : Method) → member_at main_pool operand ≡ Some called → called.class ≡ codes "Main"
      → slice_get (program_with k).methods number ≡ Some m → m.class ≡ codes "Main" → m.signature ≡ called.signature → NamesMethod (program_with k) main_pool operand
  main_named operand number called m named of_main stands of_class same_call = record {
    called = called;
    named = named;
    resolved = number;
    resolves = record {
      class = _;
      named = ap (class_named (program_with k)) of_main;
      search = resolved_there (record {
        chain = chain_up (program_with k) 3 (Some (codes "Main"));
        of_start = (refl, (refl, tt));
        first = inl (record { method = m; stands = stands; of_class = of_class; is = same_call });
      });
    };
    method = m;
    stands = stands;
  }

abbrev pub main_waits : List Frame
main_waits = waiting_at 0 0 [] ∷ outside

abbrev pub middle_waits : List Frame
middle_waits = waiting_at 1 0 [] ∷ main_waits

abbrev pub above_world : World
above_world = world catches_above refl

inner_throws : Arrives (runs catches_above) (throws_on (frame_at 2 3 (reference_to 2 ∷ []) ∷ middle_waits) above_world 2)
inner_throws =
    let x = runs catches_above in
    let first = enter x 0 (main_of catches_above refl) outside 0 [] above_world _ refl _ (call_row _ _ _ _ _ _ refl plain_units) _
    (record { is_there = refl; names = main_named catches_above 10 1 _ _ refl refl refl refl refl; target = 1; is_target = (refl, refl); events = not_selecting _ _ _ _ _ refl }) (middle_of catches_above) in
    let second = enter x 1 (middle_of catches_above) main_waits 0 [] above_world _ refl _ (call_row _ _ _ _ _ _ refl plain_units) _
    (record { is_there = refl; names = main_named catches_above 13 2 _ _ refl refl refl refl refl; target = 2; is_target = (refl, refl); events = not_selecting _ _ _ _ _ refl }) (inner_of catches_above) in
    let third = advance (runs catches_above) 2 (inner_of catches_above) middle_waits 0 [] above_world _ refl _
    (field_row _ _ _ _ _ refl exception_type) refl (reference_to 2) _ _ (names_fire catches_above, (refl, refl)) refl in
    let fourth = throw (runs catches_above) 2 (inner_of catches_above) middle_waits 3 (reference_to 2 ∷ []) above_world _ refl _
    refl refl refl (is_throwable catches_above above_world refl) in
    goes _ _ _ (goes _ _ _ (goes _ _ _ (goes _ _ _ (begun catches_above refl) (enters first.at first.step)) (enters second.at second.step)) (advances third.at third.step)) (throws fourth.at fourth.step)

middle_throws : Arrives (runs catches_above) (throws_on (frame_at 1 0 [] ∷ main_waits) above_world 2)
middle_throws =
    let step = unwind (runs catches_above) 2 (inner_of catches_above) middle_waits 3 (reference_to 2 ∷ []) above_world 2 (fire catches_above) refl
    (All-nil (λ (h : Handler). Handles (program_with catches_above) main_pool 3 (codes "java/lang/Exception") h → ⊥)) in
    goes _ _ _ inner_throws (unwinds step.at step.step)

pub leaves_middle : Unwinding (runs catches_above) 2 (throws_on (frame_at 1 0 [] ∷ main_waits) above_world 2) (throws_on (frame_at 0 0 [] ∷ outside) above_world 2)
leaves_middle =
    let Misses : Handler → Type 0 = λ h. Handles (program_with catches_above) main_pool 0 (codes "java/lang/Exception") h → ⊥ in
    unwind (runs catches_above) 1 (middle_of catches_above) main_waits 0 [] above_world 2 (fire catches_above) refl
    (All-cons Misses (handler 0 3 4 23) [] (not_taken (program_with catches_above) main_pool 0 (handler 0 3 4 23) (codes "java/lang/Error") (codes "java/lang/Exception") refl (fits_no_error catches_above)) (All-nil Misses))

pub a_frame_is_left : Takes (runs catches_above)
    (λ s t. Unwinding (runs catches_above) 2 s t × RunsIn (runs catches_above) (codes "Main") (codes "middle") s × RunsIn (runs catches_above) (codes "Main") (codes "main") t × (t.mode ≡ throwing 2))
a_frame_is_left =
    takes _ _ _ _ middle_throws (unwinds leaves_middle.at leaves_middle.step) (leaves_middle, runs_in _ _ _ _ _ _ refl refl refl, runs_in _ _ _ _ _ _ refl refl refl, refl)

pub an_exception_is_caught_two_frames_above : Takes (runs catches_above)
    (λ s t. Catching (runs catches_above) 2 (codes "java/lang/Exception") s t × RunsIn (runs catches_above) (codes "Main") (codes "main") t × Shows 4 (reference_to 2 ∷ []) t)
an_exception_is_caught_two_frames_above =
    let step = catch (runs catches_above) 0 (main_of catches_above refl) outside 0 [] [] above_world 2 (fire catches_above) refl (handler 0 3 4 21)
    (inl (record { covers = refl; takes = inr (codes "java/lang/Exception", refl, fits_exception catches_above) }, refl)) refl in
    takes _ _ _ _ (goes _ _ _ middle_throws (unwinds leaves_middle.at leaves_middle.step)) (catches step.at step.step) (step, runs_in _ _ _ _ _ _ refl refl refl, shows _ _ _)
