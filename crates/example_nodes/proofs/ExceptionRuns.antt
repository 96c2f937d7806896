-- The programs that throw, up to the first instruction of `main`; and their steps.
use Rattle.std.proofs.Common.{codes, ◌≡◌, inl, inr, ℕ, zero, suc, ◌-◌, true, false, List, [], ◌∷◌, replicate, Some, Ok, slice_get, subst, sym, ◌∙◌, refl, ap, arith}
use Rattle.std.specs.List.{Contains}
use Rattle.std.proofs.lemmas.List.Elements.{All-nil}
use Rattle.std.proofs.lemmas.Option.{same_Some}
use Rattle.jvm_model.specs.declared.code.Handler.{Handler}
use Rattle.jvm_model.specs.declared.number.ClassNo.{ClassNo}
use Rattle.jvm_model.specs.Code.{CodeBody}
use Rattle.jvm_model.specs.Programs.{Program, Class}
use Rattle.jvm_model.specs.Subtypes.{same, Fits}
use Rattle.op_model.specs.declared.lowered.LoweredMethod.{LoweredMethod}
use Rattle.op_model.specs.declared.node.NodeHandler.{NodeHandler}
use Rattle.machine_bytecode.specs.Machine.IsUncaught.{of_start}
use Rattle.machine_bytecode.specs.Machine.{Handles, enters, throws, catches, unwinds}
use Rattle.machine_bytecode.specs.Start.{start_frame}
use Rattle.machine_bytecode.specs.States.{primitive_value, reference_to, ended, throws_on, ends_with, waiting, waiting_no_more}
use Rattle.example_machine.specs.Building.{handler}
use Rattle.example_machine.specs.Excepting.{main_pool, program_with, runs, catches_here, catches_above, catches_nothing}
use Rattle.example_machine.specs.Taking.{Shows, Unwinding}
use Rattle.example_machine.proofs.Facts.{call_row, field_row, shows}
use Rattle.example_machine.proofs.Runs.{body_fits, entered_in, frame_at, on, advance}
use Rattle.example_machine.proofs.CallSteps.{enter as enter_code, not_selecting}
use Rattle.example_machine.proofs.CallStart.{plain_units, outside}
use Rattle.example_machine.proofs.Throws.{throw as throw_code, catch as catch_code, throwing_at, unwind as unwind_code}
use Rattle.example_machine.proofs.ExceptionRuns.{exception_type, middle_of, inner_of, names_fire, fire, is_throwable, fits_exception, fits_no_error, main_named, main_of, world, main_at, second_handler, main_waits, middle_waits, above_world, throws_here, leaves_middle, main_throws}
use Rattle.machine_nodes.specs.NodeSteps.{Takes, all, fitting, enters as enters_node, throws as throws_node, catches as catches_node, unwinds as unwinds_node}
use Rattle.example_nodes.specs.Excepting.{given_with, Steps, middle_nodes, inner_nodes, catches_here_nodes, catches_above_nodes, catches_nothing_nodes}
use Rattle.example_nodes.specs.Lowering.{class_no, catching}
use Rattle.example_nodes.specs.Taking.{ThrowingNode, CatchingNode, UnwindingNode}
use Rattle.example_nodes.proofs.CallSteps.{enter, throw, catch, unwind}
use Rattle.example_nodes.proofs.Slots.{are_left_by, reads_alike}
use Rattle.example_nodes.proofs.StartNodes.{start_stands}
use Rattle.example_nodes.proofs.Steps.{Arrives, goes, takes, starts_at, enters_at, operate, advanced}

-- ---- what is not taken

-- no handler is there
pub none_there : (p : Program) (class : List ℕ) (h : NodeHandler) → Contains [] h → Takes p h class → ⊥
none_there p class h there takes_it = omega (arith, there.1)

-- a handler of a class that the object does not fit
pub not_taken_by : (p : Program) (class name : List ℕ) (target number : ℕ) (c : Class) → slice_get p.classes number ≡ Some c → c.name ≡ name → (Fits p name class → ⊥) → Takes p (catching target (Some (class_no number))) class → ⊥
not_taken_by p class name target number c stands named misfit takes_it = by takes_it
  where
    by : Takes p (catching target (Some (class_no number))) class → ⊥
    by (all e) = absurd cc
    by (fitting other above e is fits) =
        let same_number : number ≡ other.0 = ap (λ (k : ClassNo). k.0) (same_Some (class_no number) other e) in
        let same_class : c ≡ is.class = same_Some c is.class (sym stands ∙ (ap (slice_get p.classes) same_number ∙ is.stands)) in
        misfit (subst (λ (n : List ℕ). Fits p n class) (sym is.named ∙ (sym (ap (λ (d : Class). d.name) same_class) ∙ named)) fits)

-- the only handler does not take it
pub only_one : (p : Program) (class : List ℕ) (g : NodeHandler) → (Takes p g class → ⊥) → (h : NodeHandler) → Contains (g ∷ []) h → Takes p h class → ⊥
only_one p class g misses h (zero, few, e) takes_it = misses (subst (λ (k : NodeHandler). Takes p k class) (sym e) takes_it)
only_one p class g misses h (suc n, few, e) takes_it = absurd (omega (arith, few))

module _ (k : CodeBody) where
  -- a handler of errors, and one of exceptions
  misses_errors : Takes (program_with k) (catching 4 (Some (class_no 1))) (codes "java/lang/Exception") → ⊥
  misses_errors = not_taken_by (program_with k) (codes "java/lang/Exception") (codes "java/lang/Error") 4 1 _ refl refl (fits_no_error k)

  takes_exceptions : Takes (program_with k) (catching 4 (Some (class_no 2))) (codes "java/lang/Exception")
  takes_exceptions = fitting (class_no 2) (codes "java/lang/Exception") refl (record { class = _; stands = refl; named = refl }) (fits_exception k)

module _ (k : CodeBody) (fits : body_fits k ≡ true) where
  begun : (m : LoweredMethod) → given_with m 0 ≡ Some (Ok m) → reads_alike [] (replicate (k.max_locals - 0) primitive_value) ≡ true → Arrives (runs k) (given_with m) (entered_in (runs k) (main_of k fits) (world k fits))
  begun m is_given alike = enters_at (runs k) (given_with m) (main_of k fits) m is_given alike (world k fits) (starts_at (runs k) (given_with m) (main_of k fits) [] refl)

-- ---- in one method

at_throw : Arrives (runs catches_here) (given_with catches_here_nodes) (main_at catches_here refl 3 (reference_to 2 ∷ []) (world catches_here refl))
at_throw =
    advanced _ _ _ _ _ _ (begun catches_here refl catches_here_nodes refl refl)
    (advance (runs catches_here) 0 (main_of catches_here refl) outside 0 [] (world catches_here refl) _ refl _
    (field_row _ _ _ _ _ refl exception_type) refl (reference_to 2) _ _ (names_fire catches_here, (refl, refl)) refl)
    (operate (runs catches_here) (given_with catches_here_nodes) 0 (main_of catches_here refl) catches_here_nodes refl outside 0 [] (world catches_here refl) _ refl _ _ _
    (record { value = reference_to 2; is_read = refl; are_left = are_left_by _ _ _ _ _ refl; same = refl }) refl)

throws_here_node : ThrowingNode (runs catches_here) (given_with catches_here_nodes) 2 (main_at catches_here refl 3 (reference_to 2 ∷ []) (world catches_here refl)) (main_throws catches_here (world catches_here refl) 3 (reference_to 2 ∷ []))
throws_here_node =
    throw (runs catches_here) (given_with catches_here_nodes) 0 catches_here_nodes refl outside 3 (reference_to 2 ∷ []) (world catches_here refl) _ refl 0 refl
    (is_throwable catches_here (world catches_here refl) refl)

pub an_exception_is_thrown : Steps catches_here catches_here_nodes (ThrowingNode (runs catches_here) (given_with catches_here_nodes) 2)
an_exception_is_thrown =
    takes _ _ _ _ _ at_throw (throws throws_here.at throws_here.step) (throws_node throws_here_node.at throws_here_node.step) throws_here_node

pub an_exception_is_caught_in_its_method : Steps catches_here catches_here_nodes (λ s t. CatchingNode (runs catches_here) (given_with catches_here_nodes) 2 4 s t × Shows 4 (reference_to 2 ∷ []) t)
an_exception_is_caught_in_its_method =
    let x = runs catches_here in
    let w = world catches_here refl in
    let step = catch_code x 0 (main_of catches_here refl) outside 3 [] (reference_to 2 ∷ []) w 2 (fire catches_here) refl (handler 0 4 4 21) second_handler refl in
    let node_step = catch x (given_with catches_here_nodes) 0 catches_here_nodes refl outside 3 (reference_to 2 ∷ []) w _ refl 2 (fire catches_here) refl (catching 4 (Some (class_no 2)))
    (inr (misses_errors catches_here, inl (takes_exceptions catches_here, refl))) (reference_to 2 ∷ []) refl in
    takes _ _ _ _ _ (goes _ _ _ _ at_throw (throws throws_here.at throws_here.step) (throws_node throws_here_node.at throws_here_node.step)) (catches step.at step.step) (catches_node node_step.at node_step.step) (node_step, shows _ _ _)

-- ---- it is caught nowhere

pub an_uncaught_exception_ends_the_program : Steps catches_nothing catches_nothing_nodes (λ s t. UnwindingNode (runs catches_nothing) (given_with catches_nothing_nodes) 2 s t × (t.frames ≡ []) × (t.mode ≡ ended))
an_uncaught_exception_ends_the_program =
    let x = runs catches_nothing in
    let given = given_with catches_nothing_nodes in
    let c = main_of catches_nothing refl in
    let w = world catches_nothing refl in
    let first = advanced _ _ _ _ _ _ (begun catches_nothing refl catches_nothing_nodes refl refl)
    (advance x 0 c outside 0 [] w _ refl _ (field_row _ _ _ _ _ refl exception_type) refl (reference_to 2) _ _ (names_fire catches_nothing, (refl, refl)) refl)
    (operate x given 0 c catches_nothing_nodes refl outside 0 [] w _ refl _ _ _ (record { value = reference_to 2; is_read = refl; are_left = are_left_by _ _ _ _ _ refl; same = refl }) refl) in
    let second = throw_code x 0 c outside 3 (reference_to 2 ∷ []) w _ refl _ refl refl refl (is_throwable catches_nothing w refl) in
    let second_node = throw x given 0 catches_nothing_nodes refl outside 3 (reference_to 2 ∷ []) w _ refl 0 refl (is_throwable catches_nothing w refl) in
    let third = unwind_code x 0 c outside 3 (reference_to 2 ∷ []) w 2 (fire catches_nothing) refl (All-nil (λ (h : Handler). Handles (program_with catches_nothing) main_pool 3 (codes "java/lang/Exception") h → ⊥)) in
    let third_node = unwind x given 0 catches_nothing_nodes refl outside 3 (reference_to 2 ∷ []) w _ refl 2 (fire catches_nothing) refl (none_there (program_with catches_nothing) (codes "java/lang/Exception")) in
    let step : Unwinding x 2 (throws_on (waiting_no_more (waiting start_frame []) ∷ []) w 2) (ends_with w) =
    record { at = throwing_at _ _ w 2 (fire catches_nothing) refl; thrown = refl; step = record { uncaught = of_start refl; after = refl } } in
    let node_step : UnwindingNode x given 2 (throws_on (waiting_no_more (waiting start_frame []) ∷ []) w 2) (ends_with w) = record {
      at = throwing_at _ _ w 2 (fire catches_nothing) refl;
      thrown = refl;
      step = record {
        uncaught = record { now = start_stands x given _ refl 0 (record { class = _; stands = refl; named = refl }) refl 0 [] false _ refl; none = none_there (program_with catches_nothing) (codes "java/lang/Exception") };
        after = refl;
      };
    } in
    takes _ _ _ _ _
    (goes _ _ _ _ (goes _ _ _ _ first (throws second.at second.step) (throws_node second_node.at second_node.step)) (unwinds third.at third.step) (unwinds_node third_node.at third_node.step))
    (unwinds step.at step.step) (unwinds_node node_step.at node_step.step) (node_step, refl, refl)

-- ---- two frames above

in_inner : Arrives (runs catches_above) (given_with catches_above_nodes) (on (runs catches_above) 2 (inner_of catches_above) middle_waits 0 [] above_world)
in_inner =
    let x = runs catches_above in
    let given = given_with catches_above_nodes in
    let first = enter_code x 0 (main_of catches_above refl) outside 0 [] above_world _ refl _ (call_row _ _ _ _ _ _ refl plain_units) _
    (record { is_there = refl; names = main_named catches_above 10 1 _ _ refl refl refl refl refl; target = 1; is_target = (refl, refl); events = not_selecting _ _ _ _ _ refl }) (middle_of catches_above) in
    let first_node = enter x given 0 catches_above_nodes refl outside 0 [] above_world _ refl above_world
    (record { call = _; is_call = refl; resolved = _; stands = refl; target = 1; is_target = refl; events = not_selecting _ _ _ _ _ refl }) middle_nodes refl [] refl [] refl in
    let second = enter_code x 1 (middle_of catches_above) main_waits 0 [] above_world _ refl _ (call_row _ _ _ _ _ _ refl plain_units) _
    (record { is_there = refl; names = main_named catches_above 13 2 _ _ refl refl refl refl refl; target = 2; is_target = (refl, refl); events = not_selecting _ _ _ _ _ refl }) (inner_of catches_above) in
    let second_node = enter x given 1 middle_nodes refl main_waits 0 [] above_world _ refl above_world
    (record { call = _; is_call = refl; resolved = _; stands = refl; target = 2; is_target = refl; events = not_selecting _ _ _ _ _ refl }) inner_nodes refl [] refl [] refl in
    goes _ _ _ _ (goes _ _ _ _ (begun catches_above refl catches_above_nodes refl refl) (enters first.at first.step) (enters_node first_node.at first_node.step)) (enters second.at second.step) (enters_node second_node.at second_node.step)

inner_throws : Arrives (runs catches_above) (given_with catches_above_nodes) (throws_on (frame_at 2 3 (reference_to 2 ∷ []) ∷ middle_waits) above_world 2)
inner_throws =
    let x = runs catches_above in
    let given = given_with catches_above_nodes in
    let c = inner_of catches_above in
    let third = advanced _ _ _ _ _ _ in_inner
    (advance x 2 c middle_waits 0 [] above_world _ refl _ (field_row _ _ _ _ _ refl exception_type) refl (reference_to 2) _ _ (names_fire catches_above, (refl, refl)) refl)
    (operate x given 2 c inner_nodes refl middle_waits 0 [] above_world _ refl _ _ _ (record { value = reference_to 2; is_read = refl; are_left = are_left_by _ _ _ _ _ refl; same = refl }) refl) in
    let fourth = throw_code x 2 c middle_waits 3 (reference_to 2 ∷ []) above_world _ refl _ refl refl refl (is_throwable catches_above above_world refl) in
    let fourth_node = throw x given 2 inner_nodes refl middle_waits 3 (reference_to 2 ∷ []) above_world _ refl 0 refl (is_throwable catches_above above_world refl) in
    goes _ _ _ _ third (throws fourth.at fourth.step) (throws_node fourth_node.at fourth_node.step)

above_throws : Arrives (runs catches_above) (given_with catches_above_nodes) (throws_on (frame_at 0 0 [] ∷ outside) above_world 2)
above_throws =
    let x = runs catches_above in
    let given = given_with catches_above_nodes in
    let first = unwind_code x 2 (inner_of catches_above) middle_waits 3 (reference_to 2 ∷ []) above_world 2 (fire catches_above) refl (All-nil (λ (h : Handler). Handles (program_with catches_above) main_pool 3 (codes "java/lang/Exception") h → ⊥)) in
    let first_node = unwind x given 2 inner_nodes refl middle_waits 3 (reference_to 2 ∷ []) above_world _ refl 2 (fire catches_above) refl (none_there (program_with catches_above) (codes "java/lang/Exception")) in
    let second_node = unwind x given 1 middle_nodes refl main_waits 0 [] above_world _ refl 2 (fire catches_above) refl
    (only_one (program_with catches_above) (codes "java/lang/Exception") (catching 4 (Some (class_no 1))) (misses_errors catches_above)) in
    goes _ _ _ _ (goes _ _ _ _ inner_throws (unwinds first.at first.step) (unwinds_node first_node.at first_node.step)) (unwinds leaves_middle.at leaves_middle.step) (unwinds_node second_node.at second_node.step)

pub an_exception_is_caught_two_frames_above : Steps catches_above catches_above_nodes (λ s t. CatchingNode (runs catches_above) (given_with catches_above_nodes) 2 4 s t × Shows 4 (reference_to 2 ∷ []) t)
an_exception_is_caught_two_frames_above =
    let x = runs catches_above in
    let step = catch_code x 0 (main_of catches_above refl) outside 0 [] [] above_world 2 (fire catches_above) refl (handler 0 3 4 21)
    (inl (record { covers = refl; takes = inr (codes "java/lang/Exception", refl, fits_exception catches_above) }, refl)) refl in
    let node_step = catch x (given_with catches_above_nodes) 0 catches_above_nodes refl outside 0 [] above_world _ refl 2 (fire catches_above) refl (catching 4 (Some (class_no 2)))
    (inl (takes_exceptions catches_above, refl)) (reference_to 2 ∷ []) refl in
    takes _ _ _ _ _ above_throws (catches step.at step.step) (catches_node node_step.at node_step.step) (node_step, shows _ _ _)
