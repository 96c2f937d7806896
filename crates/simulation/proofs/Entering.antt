-- A step from a covered state, in a program whose set refuses nothing, leads to a state whose frames are of methods that have nodes.
use Rattle.std.proofs.Common.{◌≡◌, ℕ, List, [], ◌∷◌, ◌++◌, Some, Ok, sym, subst}
use Rattle.std.specs.List.{Contains}
use Rattle.std.proofs.lemmas.Option.{same_Some}
use Rattle.jvm_model.specs.declared.number.ClassNo.{ClassNo}
use Rattle.jvm_model.specs.LinkedPrograms.{IsProgram}
use Rattle.least_sets.specs.Rules.{IsClosedSet}
use Rattle.op_model.specs.declared.lowered.LoweredMethod.{LoweredMethod}
use Rattle.op_model.specs.Supplies.{Given, GivenAs, IsMapOf}
use Rattle.machine_bytecode.specs.Machine.{Enters, IsTriggered, MethodCode, Step, ThrowsNew, advances, by_instruction, by_start, catches, denies, ends, enters, enters_entry, entered, gets_exception, gets_result, raises, resumes, returns, starts, throws, unwinds, unwound, wraps}
use Rattle.machine_bytecode.specs.Objects.{Subject}
use Rattle.machine_bytecode.specs.States.{Frame, State, Value, World, moved_to, runs_on, waiting, waiting_no_more}
use Rattle.machine_nodes.specs.Nodes.{IsClassNumber}
use Rattle.points_to_rules.specs.Facts.{Fact, may_run}
use Rattle.points_to_rules.specs.Refusals.{IsUnrefused}
use Rattle.points_to_rules.specs.Rules.{Instance}
use Rattle.simulation.proofs.Fits.{Fits}
use Rattle.simulation.proofs.Known.{LoweredCode}
use Rattle.simulation.proofs.StartFrames.{OneConcerned}
use Rattle.simulation.specs.Simulation.{AreLowered, HasNodes, exception_names}
use Rattle.coverage.specs.Covering.{Covers}
use Rattle.points_to_rules.specs.WholeMethods.{AreWholeMethods}
use Rattle.coverage.proofs.RefusedCalls.{HasNoRefusedCall}
use Rattle.simulation.proofs.Entered.{ServesCode, entry_may_run, given_as_nodes, initialiser_may_run, target_may_run}
use Rattle.simulation.proofs.Frames.{Each, frames_of, lowered_as, newest, none, rest, with_newest}

module _ (x : Subject) (program : IsProgram x.program) (given : Given) (gives : GivenAs) (S : Fact → Type 0) (map : IsMapOf given gives)
    (serves : ServesCode x.program gives) (unrefused : IsUnrefused x.program gives S)
    (closed : IsClosedSet (Instance x.program gives (record { 0 = x.entry })) S) (whole : AreWholeMethods x.program gives) (calls : HasNoRefusedCall x.program gives S)
    (known : (number : ℕ) (l : LoweredMethod) → given number ≡ Some (Ok l) → LoweredCode x.program number l)
    (exceptions : (name : List ℕ) → Contains exception_names name → (c : ClassNo) × IsClassNumber x.program c name) (once : OneConcerned x.program)
    (s t : State) (fits : Fits x s) (low : AreLowered given s) (covered : Covers x gives S s) where
  -- the frames of the state, with the newest one
  here : (f : Frame) (below : List Frame) → s.frames ≡ f ∷ below → Each given (f ∷ below)
  here f below are = frames_of given s (f ∷ below) are low

  nodes_here : (f : Frame) (below : List Frame) → s.frames ≡ f ∷ below → HasNodes given f
  nodes_here f below are = newest given f below (here f below are)

  nodes_below : (f : Frame) (below : List Frame) → s.frames ≡ f ∷ below → Each given below
  nodes_below f below are = rest given f below (here f below are)

  -- the frames from the caller on
  callers : (f caller : Frame) (below others : List Frame) → s.frames ≡ f ∷ below → below ≡ caller ∷ others → Each given (caller ∷ others)
  callers f caller below others are e = subst (λ (fs : List Frame). Each given fs) e (nodes_below f below are)

  new_frame : (number : ℕ) (code : MethodCode x.program number) (arguments : List Value) → S (may_run (record { 0 = number })) → HasNodes given (entered number code.body arguments)
  new_frame number code arguments runs other e =
      subst (λ (n : ℕ). (l : LoweredMethod) × (given n ≡ Some (Ok l))) (same_Some number other e) (given_as_nodes x program given gives S map serves unrefused number code runs)

  -- a method is entered from the newest frame
  entered_from : (number : ℕ) (arguments kept : List Value) (f : Frame) (below : List Frame) (w : World) → s.frames ≡ f ∷ below → S (may_run (record { 0 = number }))
      → Enters x number arguments kept f below w t → AreLowered given t
  entered_from number arguments kept f below w are runs e =
      lowered_as given t _ e.after
      (with_newest given (entered number e.code.body arguments) (waiting f kept ∷ below) (new_frame number e.code arguments runs)
      (with_newest given (waiting f kept) below (nodes_here f below are) (nodes_below f below are)))

  -- the newest frame goes on
  goes_on : (f : Frame) (below : List Frame) → s.frames ≡ f ∷ below → (next : ℕ) (slots : List Value) (w : World) → t ≡ runs_on (moved_to f next slots ∷ below) w → AreLowered given t
  goes_on f below are next slots w after = lowered_as given t _ after (with_newest given (moved_to f next slots) below (nodes_here f below are) (nodes_below f below are))

  -- a new exception is thrown
  thrown_from : (f : Frame) (below : List Frame) (w : World) (class : List ℕ) → Each given (f ∷ below) → ThrowsNew x w f below class t → AreLowered given t
  thrown_from f below w class each e = lowered_as given t _ e.after each

  -- what a step triggers, it triggers in the newest frame
  triggered_in : (frame : Frame) (below : List Frame) (class : List ℕ) → IsTriggered x s frame below class → Each given (frame ∷ below)
  triggered_in frame below class (by_instruction at fe be trig concerns) =
      subst (λ (fs : List Frame). Each given (frame ∷ fs)) (sym be) (subst (λ (f : Frame). Each given (f ∷ at.below)) (sym fe) (here at.frame at.below at.frames))
  triggered_in frame below class (by_start at fe be e stands class_is) =
      subst (λ (fs : List Frame). Each given (frame ∷ fs)) (sym be) (subst (λ (f : Frame). Each given (f ∷ at.below)) (sym fe) (here at.frame at.below at.frames))

  unwound_to : (below : List Frame) (w : World) (place : ℕ) → Each given below → Each given (unwound below w place).frames
  unwound_to [] w place each = none given
  unwound_to (f ∷ below) w place each = with_newest given (waiting_no_more f) below (newest given f below each) (rest given f below each)

  pub step_is_lowered : Step x s t → AreLowered given t
  step_is_lowered (advances at a) = goes_on at.frame at.below at.frames _ _ _ a.after
  step_is_lowered (enters at a) =
      entered_from a.call.target a.call.units a.call.kept at.frame at.below a.call.world at.frames
      (target_may_run x program given gives S map closed whole calls known exceptions once s fits low covered at a.call a.enters.code) a.enters
  step_is_lowered (gets_result at a) = goes_on at.frame at.below at.frames _ _ _ a.after
  step_is_lowered (gets_exception at a) = lowered_as given t _ a.after (here at.frame at.below at.frames)
  step_is_lowered (enters_entry at a) =
      entered_from x.entry _ at.frame.slots at.frame at.below s.world at.frames
      (entry_may_run x program given gives S map closed whole calls known exceptions once s fits low covered) a.enters
  step_is_lowered (returns at a) =
      let from = callers at.frame a.caller at.below a.rest at.frames a.below in
      lowered_as given t _ a.after (with_newest given (moved_to a.caller a.next (a.caller.slots ++ a.leaves.units)) a.rest (newest given a.caller a.rest from) (rest given a.caller a.rest from))
  step_is_lowered (resumes at a) = lowered_as given t _ a.after (callers at.frame a.caller at.below a.rest at.frames a.below)
  step_is_lowered (ends at a) = lowered_as given t _ a.after (none given)
  step_is_lowered (raises at a) = thrown_from at.frame at.below s.world _ (here at.frame at.below at.frames) a.throws
  step_is_lowered (throws at a) = lowered_as given t _ a.after (here at.frame at.below at.frames)
  step_is_lowered (catches at a) = goes_on at.frame at.below at.frames _ _ _ a.after
  step_is_lowered (unwinds at a) = lowered_as given t _ a.after (unwound_to at.below s.world at.place (nodes_below at.frame at.below at.frames))
  step_is_lowered (starts a) =
      lowered_as given t _ a.after
      (with_newest given (entered a.number a.initialiser.code.body []) (a.frame ∷ a.below)
      (new_frame a.number a.initialiser.code [] (initialiser_may_run x program given gives S map closed whole calls known exceptions once s fits low covered a.frame a.below a.class a.triggered a.number a.initialiser))
      (triggered_in a.frame a.below a.class a.triggered))
  step_is_lowered (denies a) = thrown_from a.frame a.below s.world _ (triggered_in a.frame a.below a.class a.triggered) a.throws
  step_is_lowered (wraps at a) = thrown_from a.caller a.rest _ _ (callers at.frame a.caller at.below a.rest at.frames a.below) a.throws
