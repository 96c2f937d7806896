-- Each step of a frame that throws is a step of its node.
use Rattle.std.proofs.Common.{codes, ◌≡◌, inl, ℕ, ◌+◌, List, [], ◌∷◌, ◌++◌, length, Option, Some, Ok, refl, sym, ap, ◌∙◌, subst, arith, length-append}
use Rattle.std.specs.List.{Contains, AllZip, slice_get}
use Rattle.std.proofs.lemmas.List.{get_or_append_left, get_or_at, get_or_past}
use Rattle.std.proofs.lemmas.List.Elements.{All-contains}
use Rattle.jvm_model.specs.declared.class_file.ClassFile.{ClassFile}
use Rattle.jvm_model.specs.declared.code.Handler.{Handler}
use Rattle.jvm_model.specs.declared.number.ClassNo.{ClassNo}
use Rattle.jvm_model.specs.Code.{CodeBody}
use Rattle.jvm_model.specs.LinkedPrograms.{IsProgram}
use Rattle.jvm_model.specs.Programs.{Program}
use Rattle.flow_graph.specs.Flows.{caught_at, covering}
use Rattle.flow_graph.specs.Graphing.{HasStep, IsStep}
use Rattle.op_model.specs.declared.lowered.LoweredMethod.{LoweredMethod}
use Rattle.op_model.specs.declared.node.Node.{Node}
use Rattle.op_model.specs.declared.node.NodeHandler.{NodeHandler}
use Rattle.op_model.specs.Supplies.{Given}
use Rattle.machine_bytecode.specs.Machine.{Catches, Handles, IsFirstHandler, IsUncaught, Throwing, Unwinds, Wraps, of_code, of_start as from_the_start, unwound}
use Rattle.machine_bytecode.specs.Objects.{Subject}
use Rattle.machine_bytecode.specs.States.{Frame, Value, World, State, moved_to, primitive_value, reference_to, runs_on, throwing, waiting_no_more}
use Rattle.machine_nodes.specs.Nodes.{AreStartNodes, IsClassNumber, StandsAt}
use Rattle.machine_nodes.specs.NodeSteps.{IsUncaught as NodeUncaught, NodeStep}
use Rattle.machine_nodes.specs.NodeSteps.{Catches as NodeCatches, catches, Unwinds as NodeUnwinds, unwinds, Wraps as NodeWraps, wraps}
use Rattle.machine_nodes.specs.Slots.{AreCaught}
use Rattle.lowering_spec.specs.LoweredMethods.{IsHandlerAt}
use Rattle.program_laws.proofs.Orders.{first_there, more_there, none_there}
use Rattle.simulation.proofs.Fits.{Fits, FitsBelow, FitsThrowing, IsFull, RunsAt, Stands, Triggering, at_start, at_step, by_instruction, by_start, fits_at, held_running, held_throws, held_triggering, in_code, runs_in, start_offset, throws_in, triggering_throws}
use Rattle.simulation.proofs.Handlers.{caught_there, first_taking, none_taking}
use Rattle.simulation.proofs.Instructions.{each_of}
use Rattle.simulation.proofs.Known.{LoweredCode, NodeHere, node_here, same_code}
use Rattle.simulation.proofs.Running.{stands_in}
use Rattle.simulation.proofs.StartFrames.{OneConcerned, call_stands, error_listed, start_lists}
use Rattle.simulation.specs.Simulation.{AreLowered, HasNodes, exception_names}

-- the slots that a handler gets
caught_slots : (locals operands : List Value) (n : ℕ) (v : Value) → length locals ≡ n → AreCaught n v (locals ++ operands) (locals ++ v ∷ [])
caught_slots locals operands n v long = record {
  kept = λ z lt. get_or_append_left locals (v ∷ []) primitive_value z (omega (arith, long, lt)) ∙ sym (get_or_append_left locals operands primitive_value z (omega (arith, long, lt)));
  given = get_or_at locals v [] primitive_value n long;
  cleared = λ z lt. get_or_past (locals ++ v ∷ []) z primitive_value (omega (arith, long, lt, length-append locals (v ∷ [])));
}

from_whole : (hs : List Handler) (k : ℕ) → slice_get hs (0 + k) ≡ slice_get hs k
from_whole hs k = let same : 0 + k ≡ k = omega arith in ap (slice_get hs) same

module _ (x : Subject) (program : IsProgram x.program) (given : Given) (known : (number : ℕ) (l : LoweredMethod) → given number ≡ Some (Ok l) → LoweredCode x.program number l)
    (exceptions : (name : List ℕ) → Contains exception_names name → (c : ClassNo) × IsClassNumber x.program c name) (once : OneConcerned x.program) (nodes : List Node) (are : AreStartNodes x nodes) where
  fits_unwound : (place : ℕ) (w : World) (callee : Option ℕ) (below : List Frame) → FitsBelow x callee below → Fits x (unwound below w place)
  fits_unwound place w callee [] fits = tt
  fits_unwound place w callee (f ∷ below) fits = (no_more (held_throws x callee f fits.0), fits.1)
    where
      no_more : FitsThrowing x.program f → FitsThrowing x.program (waiting_no_more f)
      no_more (at_start none offset) = at_start none offset
      no_more (at_step number of stands) = at_step number of stands

  module _ (s t : State) (fits : Fits x s) (low : AreLowered given s) (at : Throwing s) where
    abbrev p : Program
    p = x.program

    abbrev f : Frame
    f = at.frame

    fits_here : FitsThrowing x.program at.frame × FitsBelow x at.frame.method at.below
    fits_here = fits_at x s (throwing at.place) (at.frame ∷ at.below) at.throws at.frames fits

    has_nodes : (g : Frame) → Contains (at.frame ∷ at.below) g → HasNodes given g
    has_nodes g there = low.each g (subst (λ (fs : List Frame). Contains fs g) (sym at.frames) there)

    -- ---- a frame of code

    module _ (number : ℕ) (of_frame : at.frame.method ≡ Some number) where
      lowered : (l : LoweredMethod) × (given number ≡ Some (Ok l))
      lowered = has_nodes at.frame (first_there at.frame at.below) number of_frame

      abbrev lc : LoweredCode x.program number lowered.0
      lc = known number lowered.0 lowered.1

      place : (height : ℕ) × HasStep lc.graph.steps at.frame.offset height × Unit {0}
      place = throws_in x.program at.frame number of_frame fits_here.0 lowered.0 lc

      abbrev now : StandsAt x given at.frame
      now = stands_in x program given known exceptions at.frame number of_frame lowered.0 lowered.1 place.1.step place.1.there place.1.offset_is

      abbrev node : NodeHere x.program number lowered.0 lc place.1.step at.frame.offset
      node = node_here x.program number lowered.0 lc place.1.step place.1.there at.frame.offset place.1.offset_is

      is_step : IsStep lc.file lc.code lc.graph.steps place.1.step
      is_step = All-contains (IsStep lc.file lc.code lc.graph.steps) lc.graph.steps place.1.step lc.flow.each place.1.there

      handlers_are : AllZip (IsHandlerAt x.program lc.file.pool lc.code.handlers) (covering lc.code.handlers at.frame.offset) node.node.handlers
      handlers_are =
          subst (λ (hs : List ℕ). AllZip (IsHandlerAt x.program lc.file.pool lc.code.handlers) hs node.node.handlers)
          (is_step.handlers_are ∙ ap (covering lc.code.handlers) place.1.offset_is) node.is.handlers

    catch : Catches x s t at → NodeStep x given s t × Fits x t
    catch a =
        let n = a.here.number in
        let of = a.here.of_frame in
        let code = lc n of in
        let same = same_code x.program n a.here.code (lowered n of).0 code in
        let handlers : a.here.code.body.handlers ≡ code.code.handlers = ap (λ (b : CodeBody). b.handlers) same.body ∙ sym code.same.handlers in
        let in_pool = subst (λ (c : ClassFile). IsFirstHandler x.program c.pool at.frame.offset at.object.class a.here.code.body.handlers a.handler) same.file a.first in
        let first = subst (λ (hs : List Handler). IsFirstHandler x.program code.file.pool at.frame.offset at.object.class hs a.handler) handlers in_pool in
        let found = first_taking x.program code.file.pool at.frame.offset at.object.class code.code.handlers 0 code.code.handlers (node n of).node.handlers a.handler (from_whole code.code.handlers) (handlers_are n of) first in
        let locals : length a.locals ≡ (lowered n of).0.slots = a.long ∙ ap (λ (b : CodeBody). b.max_locals) same.body ∙ sym code.same.max_locals ∙ sym code.lowered.slots in
        let caught = caught_slots a.locals a.operands (lowered n of).0.slots (reference_to at.place) locals in
        let node_step : NodeCatches x given s t at = record {
          now = now n of;
          handler = found.0;
          first = found.1;
          left = a.locals ++ reference_to at.place ∷ [];
          are_caught = subst (λ (old : List Value). AreCaught (lowered n of).0.slots (reference_to at.place) old (a.locals ++ reference_to at.place ∷ [])) (sym a.parts) caught;
          after = a.after ∙ ap (λ (o : ℕ). runs_on (moved_to at.frame o (a.locals ++ reference_to at.place ∷ []) ∷ at.below) s.world) (sym found.2);
        } in
        let runs : Stands x.program n a.handler.target (IsFull (length (a.locals ++ reference_to at.place ∷ []))) = λ l lc2.
        (let h = throws_in x.program at.frame n of fits_here.0 l lc2 in
        let same2 = same_code x.program n a.here.code l lc2 in
        let handlers2 : a.here.code.body.handlers ≡ lc2.code.handlers = ap (λ (b : CodeBody). b.handlers) same2.body ∙ sym lc2.same.handlers in
        let in_pool2 = subst (λ (c : ClassFile). IsFirstHandler x.program c.pool at.frame.offset at.object.class a.here.code.body.handlers a.handler) same2.file a.first in
        let first2 = subst (λ (hs : List Handler). IsFirstHandler x.program lc2.file.pool at.frame.offset at.object.class hs a.handler) handlers2 in_pool2 in
        let target = subst (λ (o : ℕ). Contains (caught_at lc2.code.handlers o) a.handler.target) (sym h.1.offset_is) (caught_there x.program lc2.file.pool at.frame.offset at.object.class lc2.code.handlers a.handler first2) in
        let step2 = All-contains (IsStep lc2.file lc2.code lc2.graph.steps) lc2.graph.steps h.1.step lc2.flow.each h.1.there in
        let has = each_of (λ (o : ℕ). HasStep lc2.graph.steps o 1) (caught_at lc2.code.handlers h.1.step.offset) a.handler.target step2.handlers_there target in
        let long : length a.locals ≡ lc2.code.max_locals = a.long ∙ ap (λ (b : CodeBody). b.max_locals) same2.body ∙ sym lc2.same.max_locals in
        (1, has, omega (arith, long, length-append a.locals (reference_to at.place ∷ [])))) in
        (catches at node_step, subst (λ (u : State). Fits x u) (sym a.after) (record { awake = refl; place = in_code n of runs }, fits_here.1))

    uncaught : IsUncaught x.program at.frame at.object.class → NodeUncaught x given at.frame at.object.class
    uncaught (from_the_start none) = record {
      now = call_stands x given nodes are at.frame none (start_offset x.program at.frame none fits_here.0);
      none = λ h there takes. none_there h (subst (λ (hs : List NodeHandler). Contains hs h) are.is_call.handlers there);
    }
    uncaught (of_code here none) =
        let n = here.number in
        let of = here.of_frame in
        let code = lc n of in
        let same = same_code x.program n here.code (lowered n of).0 code in
        let handlers : code.code.handlers ≡ here.code.body.handlers = code.same.handlers ∙ sym (ap (λ (b : CodeBody). b.handlers) same.body) in
        record {
          now = now n of;
          none = λ h there takes. none_taking x.program code.file.pool at.frame.offset at.object.class code.code.handlers 0 code.code.handlers (node n of).node.handlers (from_whole code.code.handlers) (handlers_are n of)
              (λ g among handles. none g (subst (λ (hs : List Handler). Contains hs g) handlers among) (subst (λ (c : ClassFile). Handles x.program c.pool at.frame.offset at.object.class g) (sym same.file) handles)) h there takes;
        }

    unwind : Unwinds x s t at → NodeStep x given s t × Fits x t
    unwind a =
        let node_step : NodeUnwinds x given s t at = record { uncaught = uncaught a.uncaught; after = a.after } in
        (unwinds at node_step, subst (λ (u : State). Fits x u) (sym a.after) (fits_unwound at.place s.world at.frame.method at.below fits_here.1))

    -- ---- an initialiser

    abbrev Listed : Frame → Type 0
    Listed g = (now : StandsAt x given g) × ((c : ClassNo) → IsClassNumber x.program c (codes "java/lang/ExceptionInInitializerError") → Contains now.node.throws c)

    listed : (g : Frame) → HasNodes given g → RunsAt x.program g → Triggering x g → Listed g
    listed g has runs (by_start none offset entry stands init) =
        (call_stands x given nodes are g none offset, λ c is. start_lists x nodes are entry stands init (codes "java/lang/ExceptionInInitializerError") (inl refl) c is)
    listed g has runs (by_instruction there is class concerns init) =
        let n = there.here.number in
        let of = there.here.of_frame in
        let l = has n of in
        let code = known n l.0 l.1 in
        let h = runs_in x.program g n of runs l.0 code in (
          stands_in x program given known exceptions g n of l.0 l.1 h.1.step h.1.there h.1.offset_is,
          λ c numbered. error_listed x.program once g there l.0 code h.1.step h.1.there h.1.offset_is is class concerns init (codes "java/lang/ExceptionInInitializerError") (inl refl) c numbered,
        )

    wrap : Wraps x s t at → NodeStep x given s t × Fits x t
    wrap a =
        let held = subst (λ (fs : List Frame). FitsBelow x at.frame.method fs) a.below fits_here.1 in
        let runs = held_running x at.frame.method a.caller a.triggered held.0 in
        let trigger_at = held_triggering x at.frame.method a.caller a.triggered held.0 in
        let nodes_there = has_nodes a.caller (subst (λ (fs : List Frame). Contains (at.frame ∷ fs) a.caller) (sym a.below) (more_there at.frame a.caller (a.caller ∷ a.rest) (first_there a.caller a.rest))) in
        let there = listed a.caller nodes_there runs.place trigger_at in
        let class = exceptions (codes "java/lang/ExceptionInInitializerError") (0, omega arith, refl) in
        let node_step : NodeWraps x given s t at = record {
          uncaught = uncaught a.uncaught;
          caller = a.caller;
          rest = a.rest;
          below = a.below;
          triggered = a.triggered;
          caller_at = there.0;
          number = class.0;
          listed = there.1 class.0 class.1;
          is_class = class.1;
          throws = a.throws;
        } in
        (wraps at node_step, subst (λ (u : State). Fits x u) (sym a.throws.after) (triggering_throws x a.caller runs.place trigger_at, held.1))

    pub thrown_catches : Catches x s t at → NodeStep x given s t × Fits x t
    thrown_catches a = catch a

    pub thrown_unwinds : Unwinds x s t at → NodeStep x given s t × Fits x t
    thrown_unwinds a = unwind a

    pub thrown_wraps : Wraps x s t at → NodeStep x given s t × Fits x t
    thrown_wraps a = wrap a
