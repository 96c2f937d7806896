-- Each step of nodes keeps the claims about frames, so that they hold in each state of an execution.
use Rattle.std.proofs.Common.{◌≡◌, inl, inr, ℕ, List, [], ◌∷◌, None, Contains, All, refl, sym, subst}
use Rattle.std.proofs.lemmas.List.Elements.{All-nil, All-cons, All-head, All-tail}
use Rattle.list_laws.proofs.Members.{contains_cases, contains_none}
use Rattle.op_model.specs.declared.op.Call.{Call as NodeCall}
use Rattle.op_model.specs.declared.op.Op.{Op}
use Rattle.op_model.specs.declared.op.Op.TheVariants.{Call}
use Rattle.op_model.specs.Supplies.{Given}
use Rattle.machine_bytecode.specs.Machine.{Throwing, ThrowsNew, unwound}
use Rattle.machine_bytecode.specs.Objects.{Subject}
use Rattle.machine_bytecode.specs.Start.{IsFirst, start_frame}
use Rattle.machine_bytecode.specs.States.{Value, Frame, Mode, running, throwing, ended, World, State, primitive_value, waiting}
use Rattle.machine_nodes.specs.NodeExecutions.{AreNodeSteps}
use Rattle.machine_nodes.specs.NodeSteps.{AtNode, Enters, NodeStep, advances, enters, gets_result, gets_exception, enters_entry, returns, resumes, ends, raises, throws, catches, unwinds, starts, wraps}
use Rattle.slot_names.specs.Variables.{effect_on}
use Rattle.slot_names.specs.Sharing.{AreReachedMethods, ReadsAlike, VariablesHaveValues}
use Rattle.slot_names.proofs.Effects.{HandsOn}
use Rattle.slot_names.proofs.Operations.{handed_on, answered, returned}
use Rattle.slot_names.proofs.Origins.{AreHandedOn}
use Rattle.slot_names.proofs.Frames.{WaitsAlike, hands_alike, triggers_alike, no_nodes_alike, begins_alike, caught_alike, goes_on_alike, calls_alike}

-- ---- states

abbrev AllWaitAlike : Given → List Frame → Type 0
AllWaitAlike given frames = All (λ (f : Frame). WaitsAlike given f) frames

-- of a frame that throws nothing is said: it goes on at a handler alone
abbrev AreAlike : Given → Mode → List Frame → Type 0
AreAlike given running [] = Unit {0}
AreAlike given running (f ∷ below) = ReadsAlike given f × AllWaitAlike given below
AreAlike given (throwing place) [] = Unit {0}
AreAlike given (throwing place) (f ∷ below) = AllWaitAlike given below
AreAlike given ended frames = Unit {0}

-- a state whose frames are as claimed
record IsAlike (given : Given) (s : State) : Type 0 where
  are : AreAlike given s.mode s.frames

frames_in : (given : Given) (s : State) (mode : Mode) (frames : List Frame) → s.mode ≡ mode → s.frames ≡ frames → IsAlike given s → AreAlike given mode frames
frames_in given s mode frames is_mode are_frames a = subst (λ (fs : List Frame). AreAlike given mode fs) are_frames (subst (λ (m : Mode). AreAlike given m s.frames) is_mode a.are)

alike_as : (given : Given) (t u : State) → t ≡ u → AreAlike given u.mode u.frames → IsAlike given t
alike_as given t u e are = subst (λ (s : State). IsAlike given s) (sym e) (record { are = are })

waiting_below : (given : Given) (frames : List Frame) (caller : Frame) (rest : List Frame) → frames ≡ caller ∷ rest → AllWaitAlike given frames → WaitsAlike given caller × AllWaitAlike given rest
waiting_below given frames caller rest e all =
    let these : AllWaitAlike given (caller ∷ rest) = subst (λ (fs : List Frame). AllWaitAlike given fs) e all in
    (All-head (λ (f : Frame). WaitsAlike given f) caller rest these, All-tail (λ (f : Frame). WaitsAlike given f) caller rest these)

-- the frames below an object that no frame above them took
unwound_alike : (given : Given) (frames : List Frame) (w : World) (place : ℕ) → AllWaitAlike given frames → AreAlike given (unwound frames w place).mode (unwound frames w place).frames
unwound_alike given [] w place all = tt
unwound_alike given (f ∷ frames) w place all = All-tail (λ (g : Frame). WaitsAlike given g) f frames all

-- a call hands on what its frame's node does
handed_by : (op : Op) (call : NodeCall) (y z : ℕ) → op ≡ Call call → HandsOn (effect_on z op) y z → HandsOn (effect_on z (Call call)) y z
handed_by op call y z is h = subst (λ (o : Op). HandsOn (effect_on z o) y z) is h

module _ (given : Given) (reached : AreReachedMethods given) where
  newest : (x : Subject) (s : State) (at : AtNode x given s) → IsAlike given s → ReadsAlike given at.frame × AllWaitAlike given at.below
  newest x s at a = frames_in given s running (at.frame ∷ at.below) at.runs at.frames a

  throwing_below : (s : State) (at : Throwing s) → IsAlike given s → AllWaitAlike given at.below
  throwing_below s at a = frames_in given s (throwing at.place) (at.frame ∷ at.below) at.throws at.frames a

  -- a method gets a frame, for which another one waits
  entered : (x : Subject) (number : ℕ) (units left : List Value) (caller : Frame) (below : List Frame) (w : World) (t : State) → Enters x given number units left caller below w t
      → WaitsAlike given (waiting caller left) → AllWaitAlike given below → IsAlike given t
  entered x number units left caller below w t h waits all =
      alike_as given t _ h.after
      (begins_alike given reached number h.slots, All-cons (λ (f : Frame). WaitsAlike given f) (waiting caller left) below waits all)

  thrown_new : (x : Subject) (w : World) (f : Frame) (below : List Frame) (class : List ℕ) (t : State) → ThrowsNew x w f below class t → AllWaitAlike given below → IsAlike given t
  thrown_new x w f below class t h all = alike_as given t _ h.after all

  step_alike : (x : Subject) (s t : State) → NodeStep x given s t → IsAlike given s → IsAlike given t
  step_alike x s t (advances at h) a =
      let here = newest x s at a in
      let on : AreHandedOn at.now.node at.frame.slots h.left = record { reads = λ y z hands. handed_on at.now.node.op x s.world at.frame.slots h.left h.world y z h.leads hands } in
      alike_as given t _ h.after (goes_on_alike given reached x at.frame at.now h.next h.left h.goes on (hands_alike given at.frame here.0), here.1)
  step_alike x s t (enters at h) a =
      let here = newest x s at a in
      entered x _ _ h.left at.frame at.below _ t h.enters
      (calls_alike given reached x at.frame at.now h.calls.call primitive_value h.left h.calls.is_call h.are_left here.0)
      here.1
  step_alike x s t (gets_result at h) a =
      let here = newest x s at a in
      let call = h.calls.call in
      let on : AreHandedOn at.now.node at.frame.slots h.left =
      record { reads = λ y z hands. answered call h.value at.frame.slots h.left y z h.are_left (handed_by at.now.node.op call y z h.calls.is_call hands) } in
      alike_as given t _ h.after (goes_on_alike given reached x at.frame at.now h.next h.left h.goes on (hands_alike given at.frame here.0), here.1)
  step_alike x s t (gets_exception at h) a = alike_as given t _ h.after (newest x s at a).1
  step_alike x s t (enters_entry at h) a =
      let here : ReadsAlike given at.frame × AllWaitAlike given at.below = frames_in given s running (at.frame ∷ at.below) at.runs at.frames a in
      let no_method : (waiting at.frame h.left).method ≡ None = at.no_method in
      entered x _ _ h.left at.frame at.below _ t h.enters (triggers_alike given (waiting at.frame h.left) (no_nodes_alike given (waiting at.frame h.left) no_method)) here.1
  step_alike x s t (returns at h) a =
      let below = waiting_below given at.below h.caller h.rest h.below (newest x s at a).1 in
      let on : AreHandedOn h.caller_at.node h.caller.slots h.left =
      record { reads = λ y z hands. returned h.call _ h.caller.slots h.left y z h.are_left (handed_by h.caller_at.node.op h.call y z h.is_call hands) } in
      alike_as given t _ h.after (goes_on_alike given reached x h.caller h.caller_at h.next h.left h.goes on below.0.for_call, below.1)
  step_alike x s t (resumes at h) a =
      let below = waiting_below given at.below h.caller h.rest h.below (newest x s at a).1 in
      alike_as given t _ h.after (below.0.for_initialiser h.triggered, below.1)
  step_alike x s t (ends at h) a = alike_as given t _ h.after tt
  step_alike x s t (raises at h) a = thrown_new x _ _ _ _ t h.throws (newest x s at a).1
  step_alike x s t (throws at h) a = alike_as given t _ h.after (newest x s at a).1
  step_alike x s t (catches at h) a =
      alike_as given t _ h.after (caught_alike given reached x at.frame h.now at.object.class h.handler h.left h.first, throwing_below s at a)
  step_alike x s t (unwinds at h) a = alike_as given t _ h.after (unwound_alike given at.below s.world at.place (throwing_below s at a))
  step_alike x s t (starts at h) a =
      let here = newest x s at a in
      alike_as given t _ h.after
      (begins_alike given reached h.number h.slots, All-cons (λ (f : Frame). WaitsAlike given f) at.frame at.below (triggers_alike given at.frame here.0) here.1)
  step_alike x s t (wraps at h) a = thrown_new x _ _ _ _ t h.throws (waiting_below given at.below h.caller h.rest h.below (throwing_below s at a)).1

  -- ---- executions

  first_alike : (x : Subject) (s : State) → IsFirst x s → IsAlike given s
  first_alike x s is = alike_as given s _ is.is (no_nodes_alike given start_frame refl, All-nil (λ (f : Frame). WaitsAlike given f))

  steps_alike : (x : Subject) (s : State) (states : List State) → AreNodeSteps x given s states → IsAlike given s → (t : State) → Contains (s ∷ states) t → IsAlike given t
  steps_alike x s [] steps a t there = elim (contains_cases s t [] there) [ inl e ↦ subst (λ (u : State). IsAlike given u) e a | inr later ↦ absurd (contains_none t later) ]
  steps_alike x s (u ∷ states) steps a t there =
      elim (contains_cases s t (u ∷ states) there) [
        | inl e ↦ subst (λ (r : State). IsAlike given r) e a
        | inr later ↦ steps_alike x u states steps.1 (step_alike x s u steps.0 a) t later
      ]

  alike_in_all : (x : Subject) → VariablesHaveValues x given
  alike_in_all x states run t there runs f below frames =
      let is = steps_alike x run.first run.others run.steps (first_alike x run.first run.is_first) t (subst (λ (ss : List State). Contains ss t) run.begins there) in
      let here : ReadsAlike given f × AllWaitAlike given below = frames_in given t running (f ∷ below) runs frames is in
      here.0

pub slots_alike : (x : Subject) (given : Given) → AreReachedMethods given → VariablesHaveValues x given
slots_alike x given reached = alike_in_all given reached x
