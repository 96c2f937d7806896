-- The programs with initialisers, up to the first instruction of `main`; and their steps.
use Rattle.std.proofs.Common.{codes, ◌≡◌, inl, false, [], ◌∷◌, All, None, refl, arith}
use Rattle.std.proofs.lemmas.List.Elements.{All-nil}
use Rattle.jvm_model.specs.declared.code.Handler.{Handler}
use Rattle.jvm_model.specs.declared.site.SiteKind.TheVariants.{Thrown}
use Rattle.jvm_model.specs.Subtypes.{by_class, same, below}
use Rattle.machine_bytecode.specs.Machine.{unwinds, MethodCode, Handles, IsInitialiser, of_class, starts, resumes, denies, wraps, throws, catches}
use Rattle.machine_bytecode.specs.Objects.{IsOf}
use Rattle.machine_bytecode.specs.Start.{start_frame, boot_site}
use Rattle.machine_bytecode.specs.States.{throwing, primitive_value, reference_to, Object, World, throws_on, new_object, with_object, with_kept, with_started, site_at}
use Rattle.example_machine.specs.Building.{handler}
use Rattle.example_machine.specs.Initialising.{broken_pool, broken_class, breaks, main_class, runs, makes_ready, makes_broken}
use Rattle.example_machine.specs.Taking.{Shows, HasObject}
use Rattle.example_machine.proofs.Facts.{declared_field, field_row, has_object, shows}
use Rattle.example_machine.proofs.Runs.{built, started_in, entered_in, first_world, frame_at, on, advance}
use Rattle.example_machine.proofs.CallStart.{outside}
use Rattle.example_machine.proofs.Throws.{unwind as unwind_code, throw as throw_code, catch as catch_code}
use Rattle.example_machine.proofs.Initialisers.{nothing_there, start as start_code, deny, wrap as wrap_code}
use Rattle.example_machine.proofs.ExceptionRuns.{exception_type}
use Rattle.example_machine.proofs.InitialiserRuns.{main_below, main_of, world, ready_of, main_starts_of, initialises_ready, initialises_main, ready_world, starts_ready, main_world, starts_main, resumes_new}
use Rattle.machine_nodes.specs.NodeSteps.{unwinds as unwinds_node, starts as starts_node, resumes as resumes_node, raises as raises_node, wraps as wraps_node, throws as throws_node, catches as catches_node, all}
use Rattle.example_nodes.specs.Initialising.{given_ready, ReadySteps, initialiser_nodes, makes_ready_nodes, program_with_errors, runs_with_errors, makes_broken_nodes, breaks_nodes, given_broken, BrokenSteps}
use Rattle.example_nodes.specs.Lowering.{class_no, catching}
use Rattle.example_nodes.specs.Taking.{UnwindingNode, StartingNode, ResumingNode, RaisingNode, WrappingNode}
use Rattle.example_nodes.proofs.CallSteps.{unwind, start, resume, wrap, throw, catch, raise}
use Rattle.example_nodes.proofs.ExceptionRuns.{none_there}
use Rattle.example_nodes.proofs.Slots.{are_left_by, read_alike}
use Rattle.example_nodes.proofs.StartNodes.{start_stands}
use Rattle.example_nodes.proofs.Steps.{Arrives, goes, takes, starts_at, enters_at, operate, plainly, advanced, runs_there, stands_on}

-- ---- an initialiser that returns

at_first : Arrives (runs makes_ready) given_ready (started_in (world makes_ready refl))
at_first = starts_at (runs makes_ready) given_ready (main_of makes_ready refl) [] refl

at_new : Arrives (runs makes_ready) given_ready (entered_in (runs makes_ready) (main_of makes_ready refl) (world makes_ready refl))
at_new = enters_at (runs makes_ready) given_ready (main_of makes_ready refl) makes_ready_nodes refl refl (world makes_ready refl) at_first

starts_ready_node : StartingNode (runs makes_ready) given_ready 3 (on (runs makes_ready) 1 (main_of makes_ready refl) outside 0 [] (world makes_ready refl)) (on (runs makes_ready) 3 (ready_of makes_ready) main_below 0 (primitive_value ∷ []) ready_world)
starts_ready_node = start (runs makes_ready) given_ready 1 makes_ready_nodes refl outside 0 [] (world makes_ready refl) _ refl (class_no 3) refl (codes "Ready") (record { class = _; stands = refl; named = refl }) 3 (initialises_ready makes_ready) (nothing_there 3)
    (initialiser_nodes 3) refl (primitive_value ∷ []) refl

pub an_initialiser_starts : ReadySteps (StartingNode (runs makes_ready) given_ready 3)
an_initialiser_starts =
    takes _ _ _ _ _ at_new (starts starts_ready.step) (starts_node starts_ready_node.at starts_ready_node.step) starts_ready_node

pub an_initialiser_returns : ReadySteps (λ s t. ResumingNode (runs makes_ready) given_ready s t × Shows 0 [] t)
an_initialiser_returns =
    let node_step = resume (runs makes_ready) given_ready 3 (initialiser_nodes 3) refl (frame_at 1 0 []) outside 0 (primitive_value ∷ []) ready_world _ refl None refl refl in
    takes _ _ _ _ _ (goes _ _ _ _ at_new (starts starts_ready.step) (starts_node starts_ready_node.at starts_ready_node.step)) (resumes resumes_new.at resumes_new.step) (resumes_node node_step.at node_step.step) (node_step, shows _ _ _)

-- ---- one of the entry's class

pub an_initialiser_starts_at_the_entry : ReadySteps (λ s t. StartingNode (runs makes_ready) given_ready 2 s t × (s.frames ≡ start_frame ∷ []))
an_initialiser_starts_at_the_entry =
    let x = runs makes_ready in
    let node_step : StartingNode x given_ready 2 (started_in (world makes_ready refl)) (on x 2 (main_starts_of makes_ready) (start_frame ∷ []) 0 (primitive_value ∷ []) main_world) = record {
      at = runs_there x given_ready start_frame [] (world makes_ready refl) (start_stands x given_ready _ refl 2 (record { class = _; stands = refl; named = refl }) refl 0 [] false _ refl);
      step = record {
        trigger = class_no 2;
        is_trigger = refl;
        class = codes "Main";
        is_class = record { class = _; stands = refl; named = refl };
        number = 2;
        initialiser = initialises_main makes_ready;
        fresh = nothing_there 2;
        method = initialiser_nodes 2;
        is_given = refl;
        slots = primitive_value ∷ [];
        empty = read_alike [] (primitive_value ∷ []) refl;
        after = refl;
      };
      started = refl;
    } in
    takes _ _ _ _ _ at_first (starts starts_main.step) (starts_node node_step.at node_step.step) (node_step, refl)

-- ---- one that fails

abbrev broken_main : MethodCode (program_with_errors makes_broken) 1
broken_main = built (program_with_errors makes_broken) 1 _ (main_class makes_broken) 0 9 6 7 makes_broken refl refl refl refl

abbrev pub broken_of : MethodCode (program_with_errors makes_broken) 0
broken_of = built (program_with_errors makes_broken) 0 _ broken_class 0 8 6 7 breaks refl refl refl refl

abbrev pub initialises_broken : IsInitialiser (program_with_errors makes_broken) (codes "Broken") 0
initialises_broken = record { code = broken_of; named = refl; above = same _ refl }

abbrev whole_world : World
whole_world = first_world (runs_with_errors makes_broken) []

abbrev broken_world : World
broken_world = with_started whole_world 0

abbrev fire : Object
fire = new_object (program_with_errors makes_broken) (boot_site (codes "java/lang/Exception")) 0

abbrev is_throwable : IsOf (program_with_errors makes_broken) (codes "java/lang/Throwable") broken_world (reference_to 2)
is_throwable = record { to = record { place = 2; is = refl; object = fire; held = refl }; fits = by_class _ _ _ refl (below _ _ _ refl (inl refl) (same _ refl)) }

at_failure : Arrives (runs_with_errors makes_broken) given_broken (throws_on (frame_at 0 3 (reference_to 2 ∷ []) ∷ main_below) broken_world 2)
at_failure =
    let x = runs_with_errors makes_broken in
    let begun = enters_at x given_broken broken_main makes_broken_nodes refl refl whole_world (starts_at x given_broken broken_main [] refl) in
    let first = start_code x 1 broken_main outside 0 [] whole_world _ refl _
    refl refl (codes "Broken") (of_class (record { class = _; named = refl }) refl) 0 initialises_broken (nothing_there 0) in
    let first_node = start x given_broken 1 makes_broken_nodes refl outside 0 [] whole_world _ refl (class_no 0) refl (codes "Broken") (record { class = _; stands = refl; named = refl }) 0 initialises_broken (nothing_there 0)
    breaks_nodes refl [] refl in
    let second = advanced _ _ _ _ _ _ (goes _ _ _ _ begun (starts first.step) (starts_node first_node.at first_node.step))
    (advance x 0 broken_of main_below 0 [] broken_world _ refl _ (field_row _ _ _ _ _ refl exception_type) refl (reference_to 2) _ _
    (declared_field _ _ _ _ 1 _ _ refl refl refl refl refl, (refl, refl)) refl)
    (operate x given_broken 0 broken_of breaks_nodes refl main_below 0 [] broken_world _ refl _ _ _ (record { value = reference_to 2; is_read = refl; are_left = are_left_by _ _ _ _ _ refl; same = refl }) refl) in
    let third = throw_code x 0 broken_of main_below 3 (reference_to 2 ∷ []) broken_world _ refl _ refl refl refl is_throwable in
    let third_node = throw x given_broken 0 breaks_nodes refl main_below 3 (reference_to 2 ∷ []) broken_world _ refl 0 refl is_throwable in
    goes _ _ _ _ second (throws third.at third.step) (throws_node third_node.at third_node.step)

-- no handler of the initialiser takes it
none_takes : All (λ (h : Handler). Handles (program_with_errors makes_broken) broken_pool 3 (codes "java/lang/Exception") h → ⊥) []
none_takes = All-nil (λ (h : Handler). Handles (program_with_errors makes_broken) broken_pool 3 (codes "java/lang/Exception") h → ⊥)

abbrev wrapped_world : World
wrapped_world = with_object (with_kept broken_world (2 ∷ [])) (new_object (program_with_errors makes_broken) (site_at Thrown (frame_at 1 0 []) (codes "java/lang/ExceptionInInitializerError")) 0)

wraps_failure : WrappingNode (runs_with_errors makes_broken) given_broken 2 (throws_on (frame_at 0 3 (reference_to 2 ∷ []) ∷ main_below) broken_world 2) (throws_on main_below wrapped_world 3)
wraps_failure = wrap (runs_with_errors makes_broken) given_broken 0 breaks_nodes refl (frame_at 1 0 []) outside 3 (reference_to 2 ∷ []) broken_world _ refl 2 fire refl (none_there (program_with_errors makes_broken) (codes "java/lang/Exception")) refl
    (stands_on (runs_with_errors makes_broken) given_broken 1 makes_broken_nodes refl 0 [] false _ refl) (class_no 11) (0, omega arith, refl) (record { class = _; stands = refl; named = refl })

pub an_exception_is_wrapped : BrokenSteps (λ s t. WrappingNode (runs_with_errors makes_broken) given_broken 2 s t × HasObject 3 Thrown (codes "java/lang/ExceptionInInitializerError") t × (t.world.kept ≡ 2 ∷ []))
an_exception_is_wrapped =
    let step = wrap_code (runs_with_errors makes_broken) 0 broken_of (frame_at 1 0 []) outside refl 3 (reference_to 2 ∷ []) broken_world 2 fire refl none_takes in
    takes _ _ _ _ _ at_failure (wraps step.at step.step) (wraps_node wraps_failure.at wraps_failure.step) (wraps_failure, has_object _ _ _ refl, refl)

pub a_failed_class_is_denied : BrokenSteps (λ s t. RaisingNode (runs_with_errors makes_broken) given_broken (codes "java/lang/NoClassDefFoundError") s t × Shows 6 [] s × HasObject 4 Thrown (codes "java/lang/NoClassDefFoundError") t)
a_failed_class_is_denied =
    let x = runs_with_errors makes_broken in
    let c = broken_main in
    let wrapped = wrap_code x 0 broken_of (frame_at 1 0 []) outside refl 3 (reference_to 2 ∷ []) broken_world 2 fire refl none_takes in
    let caught = catch_code x 1 c outside 0 [] [] wrapped_world 3 _ refl (handler 0 3 5 0) (inl (record { covers = refl; takes = inl refl }, refl)) refl in
    let caught_node = catch x given_broken 1 makes_broken_nodes refl outside 0 [] wrapped_world _ refl 3 _ refl (catching 5 None) (inl (all refl, refl)) (reference_to 3 ∷ []) refl in
    let at_handler = goes _ _ _ _ (goes _ _ _ _ at_failure (wraps wrapped.at wrapped.step) (wraps_node wraps_failure.at wraps_failure.step)) (catches caught.at caught.step) (catches_node caught_node.at caught_node.step) in
    let popped = plainly x given_broken 1 c makes_broken_nodes refl outside 1 5 (reference_to 3 ∷ []) wrapped_world _ refl at_handler in
    let step = deny x 1 c outside 6 [] wrapped_world _ refl _
    refl refl (codes "Broken") (of_class (record { class = _; named = refl }) refl) 0 initialises_broken (0, omega arith, refl) in
    let node_step = raise x given_broken 1 makes_broken_nodes refl outside 6 [] wrapped_world _ refl (class_no 12) (1, omega arith, refl) (codes "java/lang/NoClassDefFoundError") (record { class = _; stands = refl; named = refl }) (λ value is_throw e. absurd cc) in
    takes _ _ _ _ _ popped (denies step.step) (raises_node node_step.at node_step.step) (node_step, shows _ _ _, has_object _ _ _ refl)

-- it may leave the initialiser as it is
pub an_exception_leaves_an_initialiser : BrokenSteps (λ s t. UnwindingNode (runs_with_errors makes_broken) given_broken 2 s t × (t.mode ≡ throwing 2) × Shows 0 [] t)
an_exception_leaves_an_initialiser =
    let x = runs_with_errors makes_broken in
    let step = unwind_code x 0 broken_of main_below 3 (reference_to 2 ∷ []) broken_world 2 fire refl none_takes in
    let node_step = unwind x given_broken 0 breaks_nodes refl main_below 3 (reference_to 2 ∷ []) broken_world _ refl 2 fire refl (none_there (program_with_errors makes_broken) (codes "java/lang/Exception")) in
    takes _ _ _ _ _ at_failure (unwinds step.at step.step) (unwinds_node node_step.at node_step.step) (node_step, refl, record { frame = _; below = _; frames = refl; there = refl; slots_are = refl })
