-- Calls into methods that are given as nodes, and returns from them.
use Rattle.std.proofs.Common.{◌≡◌, ◌⊎◌, inl, inr, ℕ, ◌+◌, ◌<◌, false, List, [], Option, Some, None, Ok, Contains, refl, sym, ap, ◌∙◌, subst}
use Rattle.std.specs.Prelude.{slice_get}
use Rattle.std.proofs.lemmas.Bool.{false≢true}
use Rattle.std.proofs.lemmas.Option.{same_Some, none-some}
use Rattle.list_laws.proofs.Members.{contained_or_not, contains_first, contains_none}
use Rattle.jvm_model.specs.declared.number.MethodNo.{MethodNo}
use Rattle.jvm_model.specs.Programs.{Method}
use Rattle.least_sets.specs.Rules.{IsClosedSet}
use Rattle.op_model.specs.declared.lowered.LoweredMethod.{LoweredMethod}
use Rattle.op_model.specs.declared.node.Node.{Node}
use Rattle.op_model.specs.declared.node.NodeRef.{NodeRef}
use Rattle.op_model.specs.declared.op.Call.{Call as NodeCall}
use Rattle.op_model.specs.declared.op.Op.TheVariants.{Call, Return}
use Rattle.op_model.specs.Supplies.{Given, GivenAs, IsMapOf}
use Rattle.machine_bytecode.specs.Objects.{Subject}
use Rattle.machine_bytecode.specs.States.{Value, primitive_value, Object, Frame, State, moved_to, waiting, slot_at}
use Rattle.machine_nodes.specs.Nodes.{StandsAt}
use Rattle.machine_nodes.specs.NodeSteps.{AtNode, Calls, EntersTarget, Returns, Resumes, Ends}
use Rattle.machine_nodes.specs.Slots.{AreLeft, AreSame, argument_values, argument_slots, returned_value}
use Rattle.slot_names.specs.declared.variable.Variable.{Variable}
use Rattle.slot_names.specs.declared.variable.Variable.TheVariants.{Parameter}
use Rattle.slot_names.specs.Variables.{effect_on, IsVariable}
use Rattle.slot_names.proofs.PlacesOfSlots.{same_node, first_of_all}
use Rattle.points_to_rules.specs.Calls.{IsOfFile}
use Rattle.points_to_rules.specs.Facts.{Holder, variable, returned_by, Fact, may_run, may_call}
use Rattle.points_to_rules.specs.Rules.{node_of, Instance, enter, pass, target_runs, return, receive}
use Rattle.points_to_rules.specs.WholeMethods.{AreWholeMethods}
use Rattle.coverage.proofs.RefusedCalls.{HasNoRefusedCall}
use Rattle.coverage.specs.References.{IsCovered}
use Rattle.coverage.specs.Covering.{MayHold, StandsIn, StandsSomewhere, IsCoveredFrame, node_at, HasPassed, WaitsForCall, AreCoveredBelow, Covers}
use Rattle.coverage.proofs.Values.{grows_not, covered_on, covered_by, covered_at, covered_as}
use Rattle.coverage.proofs.Worlds.{IsLater, events_later}
use Rattle.coverage.proofs.Frames.{frame_on, below_on, frames_are, caller_is}
use Rattle.coverage.proofs.Places.{Place, in_method, at_start, place_of, stands_in, node_is}
use Rattle.coverage.proofs.Effects.{kept_before}
use Rattle.coverage.proofs.Slots.{AreSlotsCovered, IsOperand, IsNext, operand_of, left_slots}
use Rattle.coverage.proofs.Advancing.{slots_here, moved_frame}
use Rattle.coverage.proofs.Units.{IsUnit, of_slot, of_none, unit_is, argument_there}
use Rattle.coverage.proofs.Targets.{IsTargeted, targeted}

number_of : (a b : ℕ) → Some a ≡ Some b → a ≡ b
number_of a b e = same_Some a b e

-- methods of one number
pub same_method : (o : Option ℕ) (a b : MethodNo) → o ≡ Some a.0 → o ≡ Some b.0 → a ≡ b
same_method o a b first second = ap (λ (n : ℕ). record { 0 = n }) (number_of a.0 b.0 (sym first ∙ second))

module _ (x : Subject) (given : Given) (gives : GivenAs) (S : Fact → Type 0) (map : IsMapOf given gives) (closed : IsClosedSet (Instance x.program gives (record { 0 = x.entry })) S)
    (whole : AreWholeMethods x.program gives) where
  pub one_node : (f : Frame) (m : MethodNo) (l : LoweredMethod) (n k : Node) → StandsIn gives f m l n → StandsIn gives f m l k → n ≡ k
  one_node f m l n k here there = same_node l (whole m.0 l here.node.given).reached n k here.node.stands there.node.stands (here.at ∙ sym there.at)

  pub of_file : (m : MethodNo) (l : LoweredMethod) → gives m.0 (Ok l) → IsOfFile x.program m
  of_file m l is_given =
      let coded = (whole m.0 l is_given).coded in
      record { method = coded.method; stands = coded.stands; file = coded.file; place = coded.place; member = coded.member; of_file = coded.of_file }

  -- where the newest frame stands, if it is one of a method
  pub record IsInside (f : Frame) (n : Node) : Type 0 where
    pub method : MethodNo
    pub lowered : LoweredMethod
    pub here : StandsIn gives f method lowered n

  pub inside_of : (f : Frame) (now : StandsAt x given f) (number : ℕ) → f.method ≡ Some number → IsInside f now.node
  inside_of f now number is = by (place_of x given gives map f now)
    where
      by : Place x gives f now.locals now.node → IsInside f now.node
      by (in_method m l here count) = record { method = m; lowered = l; here = here }
      by (at_start no_method offset start) = absurd (none-some number (sym no_method ∙ is))

  -- ---- the new frame

  pub begins_frame : (number : ℕ) (slots : List Value) (heap : List Object) → S (may_run (record { 0 = number }))
      → ((z : ℕ) → IsCovered (MayHold S (variable (Parameter (record { 0 = number }) z))) heap (slot_at slots z))
      → IsCoveredFrame gives S heap (record { method = Some number; offset = 0; slots = slots; waits = false })
  begins_frame number slots heap runs parameters = record {
    runs = λ m e. subst (λ (k : ℕ). S (may_run (record { 0 = k }))) (number_of number m.0 e) runs;
    slots = λ m l n z v there inside named.
        let is_first = first_of_all l (whole m.0 l there.node.given).reached n there.node.stands there.at in
        let here : S (may_run m) = subst (λ (k : ℕ). S (may_run (record { 0 = k }))) (number_of number m.0 there.in_method) runs in
        let parameter : IsCovered (MayHold S (variable (Parameter m z))) heap (slot_at slots z) =
        subst (λ (k : ℕ). IsCovered (MayHold S (variable (Parameter (record { 0 = k }) z))) heap (slot_at slots z)) (number_of number m.0 there.in_method) (parameters z) in
        covered_by (MayHold S (variable (Parameter m z))) (MayHold S (variable v)) heap (slot_at slots z)
        (λ s held. closed _ _ (enter m l n z (variable v) s there.node is_first inside (record { name = v; named = named; is = refl })) (here, (held, tt))) parameter;
  }

  -- ---- the frame that waits

  waiting_in : (f : Frame) (left : List Value) (m : MethodNo) (l : LoweredMethod) (n : Node) → StandsIn gives (waiting f left) m l n → StandsIn gives f m l n
  waiting_in f left m l n here = record { in_method = here.in_method; node = here.node; at = here.at }

  -- its arguments are taken
  pub waiting_frame : (heap : List Object) (f : Frame) (operands : List ℕ) (left : List Value) → AreLeft operands None primitive_value f.slots left → IsCoveredFrame gives S heap f
      → IsCoveredFrame gives S heap (waiting f left)
  waiting_frame heap f operands left are c = record { runs = c.runs; slots = λ m l n z v here inside named. by m l n z v here inside named (contained_or_not operands z) }
    where
      by : (m : MethodNo) (l : LoweredMethod) (n : Node) (z : ℕ) (v : Variable) → StandsIn gives (waiting f left) m l n → z < l.slots + l.stack → IsVariable l n z v → Contains operands z ⊎ (Contains operands z → ⊥)
          → IsCovered (MayHold S (variable v)) heap (slot_at left z)
      by m l n z v here inside named (inl there) = covered_as (MayHold S (variable v)) heap primitive_value _ (are.cleared z there (none-some z)) tt
      by m l n z v here inside named (inr free) =
          covered_as (MayHold S (variable v)) heap (slot_at f.slots z) _ (are.kept z free (none-some z)) (c.slots m l n z v (waiting_in f left m l n here) inside named)

  -- the call that it waits at, and the target
  pub waits_for : (f : Frame) (now : StandsAt x given f) (c : NodeCall) (left : List Value) (called : MethodNo) → now.node.op ≡ Call c → AreLeft (argument_slots c.arguments) None primitive_value f.slots left
      → S (may_call (node_at f) called) → WaitsForCall gives S (waiting f left) called
  waits_for f now c left called is_call are target = record {
    target = target;
    passed = λ m l n there.
        let here = stands_in x given gives map f now m l there.in_method there.node.given in
        let passed : HasPassed (waiting f left) now.node = record { call = c; is_call = is_call; taken = λ z among. are.cleared z among (none-some z) } in
        subst (λ (k : Node). HasPassed (waiting f left) k) (one_node f m l now.node n here (waiting_in f left m l n there)) passed;
  }

  stands_waiting : (f : Frame) (left : List Value) (n : Node) → IsInside f n → (m : MethodNo) → f.method ≡ Some m.0 → StandsSomewhere gives (waiting f left) m
  stands_waiting f left n i m e =
      subst (λ (k : MethodNo). StandsSomewhere gives (waiting f left) k) (same_method f.method i.method m i.here.in_method e)
      (record { lowered = i.lowered; node = n; here = record { in_method = i.here.in_method; node = i.here.node; at = i.here.at } })

  module _ (unrefused : HasNoRefusedCall x.program gives S) where
    -- a call at a node of a method, with a target that there is
    pub record IsCalled (s : State) (at : AtNode x given s) (calls : Calls x given s at) (i : IsInside at.frame at.now.node) : Type 0 where
      pub frame : IsCoveredFrame gives S s.world.heap at.frame
      pub runs_still : at.frame.waits ≡ false
      pub below : AreCoveredBelow x gives S s.world.heap at.below at.frame.method
      pub later : IsLater x gives S s.world calls.world
      pub targeted : IsTargeted x gives S closed whole unrefused i.method at.now.node calls.call (record { 0 = calls.target }) s.world.heap at.frame.slots

    pub called_by : (s : State) (at : AtNode x given s) (calls : Calls x given s at) (i : IsInside at.frame at.now.node) (t : Method) → slice_get x.program.methods calls.target ≡ Some t → Covers x gives S s
        → IsCalled s at calls i
    called_by s at calls i t there c =
        let frames = frames_are x gives S s.world.heap s.frames at.below at.frame at.frames c.frames in
        let before = slots_here x given gives S map closed whole s.world.heap at.frame i.method i.lowered at.now.node i.here frames.0 in
        record {
          frame = frames.0;
          runs_still = frames.1;
          below = frames.2;
          later = events_later x gives S _ _ _ s.world calls.world calls.events c.world;
          targeted = targeted x gives S closed whole unrefused i.method i.lowered at.now.node i.here.node (frames.0.runs i.method i.here.in_method) calls.call calls.is_call s.world c.world
              at.frame.slots before calls.resolved calls.stands calls.target t there calls.is_target;
        }

    -- a slot that the call reads
    pub argument_at : (s : State) (at : AtNode x given s) (calls : Calls x given s at) (i : IsInside at.frame at.now.node) → IsCalled s at calls i → (unit z : ℕ)
        → slice_get calls.call.arguments unit ≡ Some (Some z) → IsOperand S i.lowered at.now.node z s.world.heap (slot_at at.frame.slots z)
    argument_at s at calls i is unit z there =
        operand_of x gives S closed whole i.method i.lowered at.now.node (Call calls.call) z s.world.heap at.frame.slots i.here.node calls.is_call (argument_there calls.call.arguments unit z there)
        (slots_here x given gives S map closed whole s.world.heap at.frame i.method i.lowered at.now.node i.here is.frame)

    -- what is passed, the parameters hold
    passed_on : (s : State) (at : AtNode x given s) (calls : Calls x given s at) (i : IsInside at.frame at.now.node) → IsCalled s at calls i → (slots : List Value)
        → AreSame (argument_values calls.call.arguments at.frame.slots) slots → (unit : ℕ)
        → IsCovered (MayHold S (variable (Parameter (record { 0 = calls.target }) unit))) s.world.heap (slot_at slots unit)
    passed_on s at calls i is slots same unit = by (unit_is calls.call.arguments at.frame.slots unit)
      where
        to : Holder
        to = variable (Parameter (record { 0 = calls.target }) unit)

        by : IsUnit calls.call.arguments at.frame.slots unit → IsCovered (MayHold S to) s.world.heap (slot_at slots unit)
        by (of_none none) = covered_as (MayHold S to) s.world.heap primitive_value _ (same unit ∙ none) tt
        by (of_slot z there e) =
            let o = argument_at s at calls i is unit z there in
            covered_as (MayHold S to) s.world.heap (slot_at at.frame.slots z) _ (same unit ∙ e)
            (covered_at (MayHold S o.holder) (MayHold S to) s.world.heap (slot_at at.frame.slots z)
            (λ place object is_place held among. closed _ _ (pass i.method i.lowered at.now.node calls.call (record { 0 = calls.target }) unit z o.holder object.site i.here.node calls.is_call there o.slot
            (is.targeted.passes unit z place object there is_place held)) (is.frame.runs i.method i.here.in_method, (is.targeted.called, (among, tt)))) o.covered)

    pub enters_cover : (s t : State) (at : AtNode x given s) → EntersTarget x given s t at → Covers x gives S s → Covers x gives S t
    enters_cover s t at a c =
        let calls = a.calls in
        let coded = (whole calls.target a.enters.method ((map.entries calls.target (Ok a.enters.method)).0 a.enters.is_given)).coded in
        let i = inside_of at.frame at.now calls.number calls.in_method in
        let is = called_by s at calls i coded.method coded.stands c in
        let number : MethodNo = record { 0 = calls.target } in
        let target : S (may_call (node_at at.frame) number) =
        subst (λ (r : NodeRef). S (may_call r number)) (sym (node_is gives at.frame i.method i.lowered at.now.node i.here)) is.targeted.called in
        subst (λ (u : State). Covers x gives S u) (sym a.enters.after) (record {
          world = is.later.covered;
          frames = (
            begins_frame calls.target a.enters.slots calls.world.heap (closed _ _ (target_runs (node_at at.frame) number) (target, tt))
                (λ z. covered_on (MayHold S (variable (Parameter number z))) s.world.heap calls.world.heap (slot_at a.enters.slots z) is.later.grows (passed_on s at calls i is a.enters.slots a.enters.arguments z)),
            refl,
            (
              record {
                called = number;
                is_called = refl;
                frame = frame_on x gives S s.world.heap calls.world.heap (waiting at.frame a.left) is.later.grows (waiting_frame s.world.heap at.frame (argument_slots calls.call.arguments) a.left a.are_left is.frame);
                stands = λ m e. stands_waiting at.frame a.left at.now.node i m e;
                for_call = λ e. waits_for at.frame at.now calls.call a.left number calls.is_call a.are_left target;
                for_initialiser = λ e. absurd (false≢true (sym e));
              },
              below_on x gives S s.world.heap calls.world.heap at.below at.frame.method is.later.grows is.below,
            ),
          );
          mode = tt;
        })

  -- ---- returns

  -- what a return gives, its method returns
  pub returned : (heap : List Object) (f : Frame) (now : StandsAt x given f) (value : Option ℕ) (m : MethodNo) (l : LoweredMethod) → StandsIn gives f m l now.node → now.node.op ≡ Return value
      → IsCoveredFrame gives S heap f → IsCovered (MayHold S (returned_by m)) heap (returned_value value f.slots)
  returned heap f now None m l here is_return c = tt
  returned heap f now (Some z) m l here is_return c =
      let o = operand_of x gives S closed whole m l now.node (Return (Some z)) z heap f.slots here.node is_return (contains_first z []) (slots_here x given gives S map closed whole heap f m l now.node here c) in
      covered_by (MayHold S o.holder) (MayHold S (returned_by m)) heap (slot_at f.slots z)
      (λ s held. closed _ _ (return m l now.node z o.holder s here.node is_return o.slot) (c.runs m here.in_method, (held, tt))) o.covered

  same_arguments : (a b : NodeCall) → Call a ≡ Call b → a.arguments ≡ b.arguments
  same_arguments a b e = let same : a ≡ b = cc in ap (λ (c : NodeCall). c.arguments) same

  -- the frame that waited, at its call's successor
  pub received_frame : (heap : List Object) (f : Frame) (now : StandsAt x given f) (call : NodeCall) (k : MethodNo) (value : Value) (left : List Value) (next : ℕ) → IsCoveredFrame gives S heap f
      → WaitsForCall gives S f k → IsOfFile x.program k → now.node.op ≡ Call call → AreLeft [] call.result value f.slots left → Contains now.node.successors next
      → IsCovered (MayHold S (returned_by k)) heap value → IsCoveredFrame gives S heap (moved_to f next left)
  received_frame heap f now call k value left next c waits file is_call are goes covered =
      moved_frame x given gives S map closed whole heap heap f now next left goes c (λ m l n here to. after m l n here to)
    where
      after : (m : MethodNo) (l : LoweredMethod) (n : Node) → StandsIn gives f m l now.node → IsNext l now.node n → AreSlotsCovered S l n heap left
      after m l n here to =
          let passed = waits.passed m l now.node here in
          let same : passed.call.arguments ≡ call.arguments = same_arguments passed.call call (sym passed.is_call ∙ is_call) in
          let taken : (z : ℕ) → Contains (argument_slots call.arguments) z → slot_at f.slots z ≡ primitive_value =
          subst (λ (us : List (Option ℕ)). (z : ℕ) → Contains (argument_slots us) z → slot_at f.slots z ≡ primitive_value) same passed.taken in
          let both : AreLeft (argument_slots call.arguments) call.result value f.slots left = record {
            given = are.given;
            cleared = λ z among other. are.kept z (contains_none z) other ∙ taken z among;
            kept = λ z free other. are.kept z (contains_none z) other;
          } in
          let target : S (may_call (node_of m now.node) k) = subst (λ (r : NodeRef). S (may_call r k)) (node_is gives f m l now.node here) waits.target in
          left_slots x gives S closed whole m l now.node n here.node (c.runs m here.in_method) to (argument_slots call.arguments) call.result value f.slots left heap heap both
          (λ z free other. ap (effect_on z) is_call ∙ kept_before (argument_slots call.arguments) call.result z free other) (grows_not heap)
          (λ z holder e after_slot. covered_by (MayHold S (returned_by k)) (MayHold S holder) heap value
          (λ s held. closed _ _ (receive m l now.node call k z holder s here.node is_call e file after_slot) (c.runs m here.in_method, (target, (held, tt)))) covered)
          (slots_here x given gives S map closed whole heap f m l now.node here c)

  pub returns_cover : (s t : State) (at : AtNode x given s) → Returns x given s t at → Covers x gives S s → Covers x gives S t
  returns_cover s t at a c =
      let heap = s.world.heap in
      let frames = frames_are x gives S heap s.frames at.below at.frame at.frames c.frames in
      let below = caller_is x gives S heap at.below a.rest a.caller at.frame.method a.below frames.2 in
      let k = below.0.called in
      let i = inside_of at.frame at.now k.0 below.0.is_called in
      let value : IsCovered (MayHold S (returned_by k)) heap (returned_value a.value at.frame.slots) =
      subst (λ (m : MethodNo). IsCovered (MayHold S (returned_by m)) heap (returned_value a.value at.frame.slots)) (same_method at.frame.method i.method k i.here.in_method below.0.is_called)
      (returned heap at.frame at.now a.value i.method i.lowered i.here a.is_return frames.0) in
      let file : IsOfFile x.program k = subst (λ (m : MethodNo). IsOfFile x.program m) (same_method at.frame.method i.method k i.here.in_method below.0.is_called) (of_file i.method i.lowered i.here.node.given) in
      subst (λ (u : State). Covers x gives S u) (sym a.after) (record {
        world = c.world;
        frames = (
          received_frame heap a.caller a.caller_at a.call k (returned_value a.value at.frame.slots) a.left a.next below.0.frame (below.0.for_call a.called) file a.is_call a.are_left a.goes value,
          refl,
          below.1,
        );
        mode = tt;
      })

  pub resumes_cover : (s t : State) (at : AtNode x given s) → Resumes x given s t at → Covers x gives S s → Covers x gives S t
  resumes_cover s t at a c =
      let frames = frames_are x gives S s.world.heap s.frames at.below at.frame at.frames c.frames in
      let below = caller_is x gives S s.world.heap at.below a.rest a.caller at.frame.method a.below frames.2 in
      subst (λ (u : State). Covers x gives S u) (sym a.after) (record { world = c.world; frames = (below.0.frame, a.triggered, below.1); mode = tt })

  pub ends_cover : (s t : State) (at : AtNode x given s) → Ends x given s t at → Covers x gives S s → Covers x gives S t
  ends_cover s t at a c = subst (λ (u : State). Covers x gives S u) (sym a.after) (record { world = c.world; frames = tt; mode = tt })
