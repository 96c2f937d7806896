-- The programs with initialisers, up to the first instruction of `main`; and their steps.
use Rattle.std.proofs.Common.{codes, ◌≡◌, inl, inr, ℕ, true, List, [], ◌∷◌, All, Some, refl, arith}
use Rattle.std.proofs.lemmas.List.Elements.{All-nil}
use Rattle.jvm_model.specs.declared.code.Handler.{Handler}
use Rattle.jvm_model.specs.declared.site.SiteKind.TheVariants.{New, Thrown}
use Rattle.jvm_model.specs.Code.{CodeBody}
use Rattle.jvm_model.specs.Resolution.{DeclaresField, itself, above, first}
use Rattle.jvm_model.specs.Resolution.ResolvesFrom.{itself as resolved_there}
use Rattle.jvm_model.specs.Subtypes.{by_class, same, below}
use Rattle.machine_bytecode.specs.Machine.{MethodCode, Handles, IsInitialiser, NamesMethod, by_start, of_class, of_field, of_method, advances, starts, resumes, denies, wraps, throws, catches, unwinds}
use Rattle.machine_bytecode.specs.Objects.{IsOf}
use Rattle.machine_bytecode.specs.Start.{start_frame, boot_site}
use Rattle.machine_bytecode.specs.States.{Value, primitive_value, reference_to, Object, Frame, World, State, throwing, throws_on, new_object, with_object, with_kept, with_started, site_at}
use Rattle.example_machine.specs.Building.{handler}
use Rattle.example_machine.specs.Calling.{only_returns}
use Rattle.example_machine.specs.Initialising.{initialiser_name, main_pool, broken_pool, broken_class, breaks, ready_class, main_class, steady_class, program_with, runs, makes_ready, makes_late, makes_table, calls_ready, reads_ready, writes_ready, reads_late, makes_broken}
use Rattle.example_machine.specs.Taking.{Takes, Shows, RunsIn, HasObject, Advancing, Unwinding, Starting, Resuming, Wrapping, Denying}
use Rattle.example_machine.proofs.Facts.{call_row, declared_field, field_row, has_object, runs_in, shows}
use Rattle.example_machine.proofs.Runs.{Arrives, goes, takes, built, body_fits, starts_at, started_in, enters_at, entered_in, first_world, frame_at, on, advance, plainly}
use Rattle.example_machine.proofs.Types.{base_type}
use Rattle.example_machine.proofs.Searches.{chain_up, no_field_of}
use Rattle.example_machine.proofs.CallStart.{plain_units, outside}
use Rattle.example_machine.proofs.Throws.{throw, catch, unwind}
use Rattle.example_machine.proofs.Initialisers.{nothing_there, start, deny, resume, wrap}
use Rattle.example_machine.proofs.ExceptionRuns.{exception_type}

module _ (k : CodeBody) where
  -- the initialisers
  abbrev broken_of : MethodCode (program_with k) 0
  broken_of = built (program_with k) 0 _ broken_class 0 8 6 7 breaks refl refl refl refl

  abbrev pub main_starts_of : MethodCode (program_with k) 2
  main_starts_of = built (program_with k) 2 _ (main_class k) 1 8 8 7 only_returns refl refl refl refl

  abbrev pub ready_of : MethodCode (program_with k) 3
  ready_of = built (program_with k) 3 _ ready_class 0 8 6 7 only_returns refl refl refl refl

  abbrev initialises_broken : IsInitialiser (program_with k) (codes "Broken") 0
  initialises_broken = record { code = broken_of; named = refl; above = same _ refl }

  abbrev pub initialises_main : IsInitialiser (program_with k) (codes "Main") 2
  initialises_main = record { code = main_starts_of; named = refl; above = same _ refl }

  abbrev pub initialises_ready : IsInitialiser (program_with k) (codes "Ready") 3
  initialises_ready = record { code = ready_of; named = refl; above = same _ refl }

  abbrev pub initialises_late : IsInitialiser (program_with k) (codes "Late") 3
  initialises_late = record { code = ready_of; named = refl; above = below _ _ _ refl (inl refl) (same _ refl) }

  abbrev steady_of : MethodCode (program_with k) 5
  steady_of = built (program_with k) 5 _ steady_class 0 8 6 7 only_returns refl refl refl refl

  abbrev pub initialises_table : IsInitialiser (program_with k) (codes "Table") 5
  initialises_table = record { code = steady_of; named = refl; above = below _ _ _ refl (inr (0, omega arith, refl)) (same _ refl) }

module _ (k : CodeBody) (fits : body_fits k ≡ true) where
  abbrev pub main_of : MethodCode (program_with k) 1
  main_of = built (program_with k) 1 _ (main_class k) 0 9 6 7 k refl refl refl fits

  abbrev pub world : World
  world = first_world (runs k) []

  abbrev main_at : ℕ → List Value → World → State
  main_at offset slots w = on (runs k) 1 main_of outside offset slots w

  begun : Arrives (runs k) (entered_in (runs k) main_of world)
  begun = enters_at (runs k) main_of world (starts_at (runs k) main_of [] refl)

-- ---- at new

abbrev pub main_below : List Frame
main_below = frame_at 1 0 [] ∷ outside

abbrev pub ready_world : World
ready_world = with_started (world makes_ready refl) 3

pub starts_ready : Starting (runs makes_ready) (codes "Ready") (main_at makes_ready refl 0 [] (world makes_ready refl)) (on (runs makes_ready) 3 (ready_of makes_ready) main_below 0 (primitive_value ∷ []) ready_world)
starts_ready =
    start (runs makes_ready) 1 (main_of makes_ready refl) outside 0 [] (world makes_ready refl) _ refl _ refl refl (codes "Ready") (of_class (record { class = _; named = refl }) refl) 3 (initialises_ready makes_ready) (nothing_there 3)

pub resumes_new : Resuming (runs makes_ready) (codes "return") (on (runs makes_ready) 3 (ready_of makes_ready) main_below 0 (primitive_value ∷ []) ready_world) (main_at makes_ready refl 0 [] ready_world)
resumes_new = resume (runs makes_ready) 3 (ready_of makes_ready) (frame_at 1 0 []) outside refl 0 (primitive_value ∷ []) ready_world _ refl _ refl refl refl _ plain_units

pub an_initialiser_starts : Takes (runs makes_ready)
    (λ s t. Starting (runs makes_ready) (codes "Ready") s t × RunsIn (runs makes_ready) (codes "Ready") initialiser_name t × (t.world.started ≡ 3 ∷ []))
an_initialiser_starts =
    takes _ _ _ _ (begun makes_ready refl) (starts starts_ready.step) (starts_ready, runs_in _ _ _ _ _ _ refl refl refl, refl)

at_resumed : Arrives (runs makes_ready) (on (runs makes_ready) 3 (ready_of makes_ready) main_below 0 (primitive_value ∷ []) ready_world)
at_resumed = goes _ _ _ (begun makes_ready refl) (starts starts_ready.step)

pub an_initialiser_returns : Takes (runs makes_ready) (λ s t. Resuming (runs makes_ready) (codes "return") s t × RunsIn (runs makes_ready) (codes "Main") (codes "main") t × Shows 0 [] t)
an_initialiser_returns =
    takes _ _ _ _ at_resumed (resumes resumes_new.at resumes_new.step) (resumes_new, runs_in _ _ _ _ _ _ refl refl refl, shows _ _ _)

pub the_object_is_made_then : Takes (runs makes_ready) (λ s t. Advancing (runs makes_ready) (codes "new") s t × HasObject 3 New (codes "Ready") t × (t.world.started ≡ 3 ∷ []))
the_object_is_made_then =
    let step = advance (runs makes_ready) 1 (main_of makes_ready refl) outside 0 [] ready_world _ refl _
    refl refl (reference_to 3) _ _ (record { class = _; named = refl }, record { made_is = refl; after_is = refl }) refl in
    takes _ _ _ _ (goes _ _ _ at_resumed (resumes resumes_new.at resumes_new.step)) (advances step.at step.step) (step, has_object _ _ _ refl, refl)

-- ---- other triggers

pub an_initialiser_of_a_superclass_starts : Takes (runs makes_late) (λ s t. Starting (runs makes_late) (codes "Late") s t × RunsIn (runs makes_late) (codes "Ready") initialiser_name t)
an_initialiser_of_a_superclass_starts =
    let step = start (runs makes_late) 1 (main_of makes_late refl) outside 0 [] (world makes_late refl) _ refl _ refl refl (codes "Late")
    (of_class (record { class = _; named = refl }) refl) 3 (initialises_late makes_late) (nothing_there 3) in
    takes _ _ _ _ (begun makes_late refl) (starts step.step) (step, runs_in _ _ _ _ _ _ refl refl refl)

pub an_initialiser_of_a_superinterface_starts : Takes (runs makes_table)
    (λ s t. Starting (runs makes_table) (codes "Table") s t × RunsIn (runs makes_table) (codes "Steady") initialiser_name t)
an_initialiser_of_a_superinterface_starts =
    let step = start (runs makes_table) 1 (main_of makes_table refl) outside 0 [] (world makes_table refl) _ refl _ refl refl (codes "Table")
    (of_class (record { class = _; named = refl }) refl) 5 (initialises_table makes_table) (nothing_there 5) in
    takes _ _ _ _ (begun makes_table refl) (starts step.step) (step, runs_in _ _ _ _ _ _ refl refl refl)

abbrev pub names_go : NamesMethod (program_with calls_ready) main_pool 15
names_go = record {
  called = _;
  named = refl;
  resolved = 4;
  resolves = record {
    class = _;
    named = refl;
    search = resolved_there (record {
      chain = chain_up (program_with calls_ready) 3 (Some (codes "Ready"));
      of_start = (refl, (refl, tt));
      first = inl (record { method = _; stands = refl; of_class = refl; is = refl });
    });
  };
  method = _;
  stands = refl;
}

pub an_initialiser_starts_at_a_call : Takes (runs calls_ready) (λ s t. Starting (runs calls_ready) (codes "Ready") s t × RunsIn (runs calls_ready) (codes "Ready") initialiser_name t)
an_initialiser_starts_at_a_call =
    let step = start (runs calls_ready) 1 (main_of calls_ready refl) outside 0 [] (world calls_ready refl) _ refl _
    (call_row _ _ _ _ _ _ refl plain_units) refl (codes "Ready")
    (of_method names_go refl) 3 (initialises_ready calls_ready) (nothing_there 3) in
    takes _ _ _ _ (begun calls_ready refl) (starts step.step) (step, runs_in _ _ _ _ _ _ refl refl refl)

pub an_initialiser_starts_at_a_field : Takes (runs reads_ready) (λ s t. Starting (runs reads_ready) (codes "Ready") s t × RunsIn (runs reads_ready) (codes "Ready") initialiser_name t)
an_initialiser_starts_at_a_field =
    let step = start (runs reads_ready) 1 (main_of reads_ready refl) outside 0 [] (world reads_ready refl) _ refl _
    (field_row _ _ _ _ _ refl (base_type 73 refl)) refl (codes "Ready")
    (of_field (declared_field _ _ _ _ 0 _ _ refl refl refl refl refl) refl) 3 (initialises_ready reads_ready) (nothing_there 3) in
    takes _ _ _ _ (begun reads_ready refl) (starts step.step) (step, runs_in _ _ _ _ _ _ refl refl refl)

pub an_initialiser_starts_at_a_write : Takes (runs writes_ready) (λ s t. Starting (runs writes_ready) (codes "Ready") s t × RunsIn (runs writes_ready) (codes "Ready") initialiser_name t)
an_initialiser_starts_at_a_write =
    let pushed = plainly (runs writes_ready) 1 (main_of writes_ready refl) outside 1 0 [] (world writes_ready refl) _ refl (begun writes_ready refl) in
    let step = start (runs writes_ready) 1 (main_of writes_ready refl) outside 1 (primitive_value ∷ []) (world writes_ready refl) _ refl _
    (field_row _ _ _ _ _ refl (base_type 73 refl)) refl (codes "Ready")
    (of_field (declared_field _ _ _ _ 0 _ _ refl refl refl refl refl) refl) 3 (initialises_ready writes_ready) (nothing_there 3) in
    takes _ _ _ _ pushed (starts step.step) (step, runs_in _ _ _ _ _ _ refl refl refl)

-- the class Late declares no field
none_in_late : (other : ℕ) → DeclaresField (program_with reads_late) (record { name = codes "size"; descriptor = codes "I" }) (codes "Late") other → ⊥
none_in_late other d = no_field_of (program_with reads_late) (codes "Late") refl other d.field d.stands d.of_class

pub an_initialiser_starts_at_an_inherited_field : Takes (runs reads_late) (λ s t. Starting (runs reads_late) (codes "Ready") s t × RunsIn (runs reads_late) (codes "Ready") initialiser_name t)
an_initialiser_starts_at_an_inherited_field =
    let found = above _ _ _ refl none_in_late (first _ _ 0 (itself _ 0 (record { field = _; stands = refl; of_class = refl; is = refl }))) in
    let step = start (runs reads_late) 1 (main_of reads_late refl) outside 0 [] (world reads_late refl) _ refl _ (field_row _ _ _ _ _ refl (base_type 73 refl)) refl (codes "Ready")
    (of_field (record { named = _; is_named = refl; number = 0; found = found; field = _; stands = refl; kind = refl }) refl) 3 (initialises_ready reads_late) (nothing_there 3) in
    takes _ _ _ _ (begun reads_late refl) (starts step.step) (step, runs_in _ _ _ _ _ _ refl refl refl)

-- ---- at the entry

abbrev pub main_world : World
main_world = with_started (world makes_ready refl) 2

pub starts_main : Starting (runs makes_ready) (codes "Main") (started_in (world makes_ready refl)) (on (runs makes_ready) 2 (main_starts_of makes_ready) (start_frame ∷ []) 0 (primitive_value ∷ []) main_world)
starts_main = record {
  step = record {
    frame = start_frame;
    below = [];
    class = codes "Main";
    triggered = by_start (record { frame = start_frame; below = []; runs = refl; frames = refl; no_method = refl; stands = refl }) refl refl _ refl refl;
    number = 2;
    initialiser = initialises_main makes_ready;
    fresh = nothing_there 2;
    after = refl;
  };
  of_class = refl;
}

at_start : Arrives (runs makes_ready) (started_in (world makes_ready refl))
at_start = starts_at (runs makes_ready) (main_of makes_ready refl) [] refl

pub an_initialiser_starts_at_the_entry : Takes (runs makes_ready)
    (λ s t. Starting (runs makes_ready) (codes "Main") s t × (s.frames ≡ start_frame ∷ []) × RunsIn (runs makes_ready) (codes "Main") initialiser_name t)
an_initialiser_starts_at_the_entry =
    takes _ _ _ _ at_start (starts starts_main.step) (starts_main, refl, runs_in _ _ _ _ _ _ refl refl refl)

pub an_initialiser_returns_to_the_start : Takes (runs makes_ready) (λ s t. Resuming (runs makes_ready) (codes "return") s t × (t.frames ≡ start_frame ∷ []) × (t.world.started ≡ 2 ∷ []))
an_initialiser_returns_to_the_start =
    let step = resume (runs makes_ready) 2 (main_starts_of makes_ready) start_frame [] refl 0 (primitive_value ∷ []) main_world _ refl _ refl refl refl _ plain_units in
    takes _ _ _ _ (goes _ _ _ at_start (starts starts_main.step)) (resumes step.at step.step) (step, refl, refl)

-- ---- one that fails

abbrev broken_world : World
broken_world = with_started (world makes_broken refl) 0

abbrev fire : Object
fire = new_object (program_with makes_broken) (boot_site (codes "java/lang/Exception")) 0

abbrev is_throwable : IsOf (program_with makes_broken) (codes "java/lang/Throwable") broken_world (reference_to 2)
is_throwable = record { to = record { place = 2; is = refl; object = fire; held = refl }; fits = by_class _ _ _ refl (below _ _ _ refl (inl refl) (same _ refl)) }

at_failure : Arrives (runs makes_broken) (throws_on (frame_at 0 3 (reference_to 2 ∷ []) ∷ main_below) broken_world 2)
at_failure =
    let x = runs makes_broken in
    let first = start x 1 (main_of makes_broken refl) outside 0 [] (world makes_broken refl) _ refl _
    refl refl (codes "Broken") (of_class (record { class = _; named = refl }) refl) 0 (initialises_broken makes_broken) (nothing_there 0) in
    let second = advance x 0 (broken_of makes_broken) main_below 0 [] broken_world _ refl _ (field_row _ _ _ _ _ refl exception_type) refl (reference_to 2) _ _
    (declared_field _ _ _ _ 1 _ _ refl refl refl refl refl, (refl, refl)) refl in
    let third = throw x 0 (broken_of makes_broken) main_below 3 (reference_to 2 ∷ []) broken_world _ refl _ refl refl refl is_throwable in
    goes _ _ _ (goes _ _ _ (goes _ _ _ (begun makes_broken refl) (starts first.step)) (advances second.at second.step)) (throws third.at third.step)

-- no handler of the initialiser takes it
none_takes : All (λ (h : Handler). Handles (program_with makes_broken) broken_pool 3 (codes "java/lang/Exception") h → ⊥) []
none_takes = All-nil (λ (h : Handler). Handles (program_with makes_broken) broken_pool 3 (codes "java/lang/Exception") h → ⊥)

abbrev wrapped_world : World
wrapped_world = with_object (with_kept broken_world (2 ∷ [])) (new_object (program_with makes_broken) (site_at Thrown (frame_at 1 0 []) (codes "java/lang/ExceptionInInitializerError")) 0)

wraps_failure : Wrapping (runs makes_broken) 2 (throws_on (frame_at 0 3 (reference_to 2 ∷ []) ∷ main_below) broken_world 2) (throws_on main_below wrapped_world 3)
wraps_failure = wrap (runs makes_broken) 0 (broken_of makes_broken) (frame_at 1 0 []) outside refl 3 (reference_to 2 ∷ []) broken_world 2 fire refl none_takes

pub an_exception_is_wrapped : Takes (runs makes_broken)
    (λ s t. Wrapping (runs makes_broken) 2 s t × RunsIn (runs makes_broken) (codes "Main") (codes "main") t × HasObject 3 Thrown (codes "java/lang/ExceptionInInitializerError") t × (t.world.kept ≡ 2 ∷ []) × (t.mode ≡ throwing 3))
an_exception_is_wrapped =
    takes _ _ _ _ at_failure (wraps wraps_failure.at wraps_failure.step) (wraps_failure, runs_in _ _ _ _ _ _ refl refl refl, has_object _ _ _ refl, refl, refl)

pub an_exception_leaves_an_initialiser : Takes (runs makes_broken)
    (λ s t. Unwinding (runs makes_broken) 2 s t × RunsIn (runs makes_broken) (codes "Broken") initialiser_name s × RunsIn (runs makes_broken) (codes "Main") (codes "main") t × (t.mode ≡ throwing 2))
an_exception_leaves_an_initialiser =
    let step = unwind (runs makes_broken) 0 (broken_of makes_broken) main_below 3 (reference_to 2 ∷ []) broken_world 2 fire refl none_takes in
    takes _ _ _ _ at_failure (unwinds step.at step.step) (step, runs_in _ _ _ _ _ _ refl refl refl, runs_in _ _ _ _ _ _ refl refl refl, refl)

pub a_failed_class_is_denied : Takes (runs makes_broken)
    (λ s t. Denying (runs makes_broken) (codes "Broken") s t × Shows 6 [] t × HasObject 4 Thrown (codes "java/lang/NoClassDefFoundError") t × (t.mode ≡ throwing 4))
a_failed_class_is_denied =
    let x = runs makes_broken in
    let c = main_of makes_broken refl in
    let caught = catch x 1 c outside 0 [] [] wrapped_world 3 _ refl (handler 0 3 5 0) (inl (record { covers = refl; takes = inl refl }, refl)) refl in
    let popped = plainly x 1 c outside 1 5 (reference_to 3 ∷ []) wrapped_world _ refl (goes _ _ _ (goes _ _ _ at_failure (wraps wraps_failure.at wraps_failure.step)) (catches caught.at caught.step)) in
    let step = deny x 1 c outside 6 [] wrapped_world _ refl _
    refl refl (codes "Broken") (of_class (record { class = _; named = refl }) refl) 0 (initialises_broken makes_broken) (0, omega arith, refl) in
    takes _ _ _ _ popped (denies step.step) (step, record { frame = _; below = _; frames = refl; there = refl; slots_are = refl }, has_object _ _ _ refl, refl)
