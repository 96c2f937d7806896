-- While a frame is there, only what its method may write changes.
use Rattle.std.proofs.Common.{◌≡◌, ◌⊎◌, inl, inr, ℕ, ◌<◌, ◌≤◌, Bool, true, false, List, [], ◌∷◌, length, Option, Some, None, Contains, refl, sym, ap, ◌∙◌, subst, arith}
use Rattle.std.proofs.lemmas.Option.{none-some}
use Rattle.list_laws.proofs.Members.{contains_cases, contains_none}
use Rattle.jvm_model.specs.declared.number.FieldNo.{FieldNo}
use Rattle.jvm_model.specs.declared.number.MethodNo.{MethodNo}
use Rattle.jvm_model.specs.declared.stub.StubResult.{StubResult}
use Rattle.jvm_model.specs.declared.stub.StubResult.TheVariants as results
use Rattle.jvm_model.specs.Lookups.{Signature}
use Rattle.least_sets.specs.Rules.{IsClosedSet}
use Rattle.op_model.specs.declared.lowered.LoweredMethod.{LoweredMethod}
use Rattle.op_model.specs.declared.node.Node.{Node}
use Rattle.op_model.specs.declared.node.NodeRef.{NodeRef}
use Rattle.op_model.specs.declared.op.Op.{Op}
use Rattle.op_model.specs.declared.op.Op.TheVariants.{Assign, Load, Store, LoadElement, StoreElement, LoadStatic, StoreStatic, New, NewArray, Constant, Call, Return, Throw, Cast, Probe}
use Rattle.op_model.specs.Supplies.{Given, GivenAs, IsMapOf}
use Rattle.machine_bytecode.specs.Described.{DescribedMethod, Gives}
use Rattle.machine_bytecode.specs.Events.{HasEvents, moved, unmoved}
use Rattle.machine_bytecode.specs.Machine.{unwound}
use Rattle.machine_bytecode.specs.Objects.{Subject}
use Rattle.machine_bytecode.specs.States.{Value, Object, Frame, World, State, moved_to, waiting}
use Rattle.machine_nodes.specs.NodeExecutions.{AreNodeSteps}
use Rattle.machine_nodes.specs.NodeSteps.{Leads, NodeStep, advances, enters, gets_result, gets_exception, enters_entry, returns, resumes, ends, raises, throws, catches, unwinds, starts, wraps}
use Rattle.points_to_rules.specs.Facts.{Fact, may_run, may_call, may_write}
use Rattle.points_to_rules.specs.Rules.{IsNodeOf, node_of, Instance}
use Rattle.points_to_rules.specs.Writes.{WriteInstance, write, target_writes, initialiser_writes}
use Rattle.points_to_rules.specs.WholeMethods.{AreWholeMethods}
use Rattle.coverage.proofs.RefusedCalls.{HasNoRefusedCall}
use Rattle.coverage.specs.Covering.{IsCoveredFrame, AreCoveredBelow, Covers}
use Rattle.coverage.specs.Changes.{ChangesOnly, StayAbove, ChangesAreWritten}
use Rattle.coverage.proofs.Frames.{frames_are}
use Rattle.coverage.proofs.Places.{Place, in_method, at_start, place_of, node_is}
use Rattle.coverage.proofs.Advancing.{start_leads_not}
use Rattle.coverage.proofs.Calls.{same_method}
use Rattle.coverage.proofs.KeptFields.{fields_kept, none_changed, more_changed, one_changed, field_changed, changed_on, changed_more}
use Rattle.coverage.proofs.Executions.{step_covers, covers_all}
use Rattle.coverage.proofs.Within.{fields_elements}

abbrev new_frame : ℕ → List Value → Frame
new_frame number slots = record { method = Some number; offset = 0; slots = slots; waits = false }

-- a frame of the method stands at this depth
abbrev HasBase : List Frame → ℕ → MethodNo → Type 0
HasBase [] depth m = ⊥
HasBase (f ∷ below) depth m = ((length (f ∷ below) ≡ depth) × (f.method ≡ Some m.0)) ⊎ ((depth < length (f ∷ below)) × HasBase below depth m)

same_base : (f g : Frame) (below : List Frame) (depth : ℕ) (m : MethodNo) → g.method ≡ f.method → HasBase (f ∷ below) depth m → HasBase (g ∷ below) depth m
same_base f g below depth m e (inl here) = inl (here.0, e ∙ here.1)
same_base f g below depth m e (inr later) = inr (later.0, later.1)

more_base : (f : Frame) (below : List Frame) (depth : ℕ) (m : MethodNo) → HasBase below depth m → HasBase (f ∷ below) depth m
more_base f [] depth m base = absurd base
more_base f (g ∷ below) depth m (inl here) = let long = here.0 in inr (omega (arith, long), inl here)
more_base f (g ∷ below) depth m (inr later) = let less = later.0 in inr (omega (arith, less), inr later)

less_base : (f : Frame) (below : List Frame) (depth : ℕ) (m : MethodNo) → depth ≤ length below → HasBase (f ∷ below) depth m → HasBase below depth m
less_base f below depth m le (inl here) = let long = here.0 in absurd (omega (arith, long, le))
less_base f below depth m le (inr later) = later.1

base_at : (frames below : List Frame) (f : Frame) (depth : ℕ) (m : MethodNo) → frames ≡ f ∷ below → HasBase frames depth m → HasBase (f ∷ below) depth m
base_at frames below f depth m e base = subst (λ (fs : List Frame). HasBase fs depth m) e base

module _ (x : Subject) (given : Given) (gives : GivenAs) (S : Fact → Type 0) (map : IsMapOf given gives) (closed : IsClosedSet (Instance x.program gives (record { 0 = x.entry })) S)
    (writes : IsClosedSet (WriteInstance x.program gives) S) (whole : AreWholeMethods x.program gives) (unrefused : HasNoRefusedCall x.program gives S) where
  abbrev WrittenBy : MethodNo → FieldNo → Type 0
  WrittenBy m field = S (may_write m field)

  changed_as : (m : MethodNo) (heap : List Object) (w after : World) → after ≡ w → ChangesOnly (WrittenBy m) heap w.heap → ChangesOnly (WrittenBy m) heap after.heap
  changed_as m heap w after e c = subst (λ (u : World). ChangesOnly (WrittenBy m) heap u.heap) (sym e) c

  -- ---- one operation

  leads_changes : (op : Op) (m : MethodNo) (l : LoweredMethod) (n : Node) (before after : World) (old left : List Value) → IsNodeOf gives m l n → S (may_run m) → n.op ≡ op → Leads op x before old left after
      → ChangesOnly (WrittenBy m) before.heap after.heap
  leads_changes (Assign changes) m l n before after old left is runs is_op h = changed_as m before.heap before after h.1 (none_changed (WrittenBy m) before.heap)
  leads_changes (Load object field target) m l n before after old left is runs is_op h = changed_as m before.heap before after h.same (none_changed (WrittenBy m) before.heap)
  leads_changes (Store object field value) m l n before after old left is runs is_op h =
      let to = h.0.to in
      changed_as m before.heap _ after h.0.is
      (one_changed (WrittenBy m) before.heap to.place to.object _ to.held
      (λ values e. field_changed (WrittenBy m) h.0.values field _ _ refl (writes _ _ (write m l n object value field is is_op) (runs, tt)) values (sym h.0.holds ∙ e)))
  leads_changes (LoadElement array target) m l n before after old left is runs is_op h = changed_as m before.heap before after h.same (none_changed (WrittenBy m) before.heap)
  leads_changes (StoreElement array value) m l n before after old left is runs is_op h =
      let a = h.0.of.array in
      changed_as m before.heap _ after h.0.is
      (one_changed (WrittenBy m) before.heap a.to.place a.to.object _ a.to.held (λ values e. absurd (fields_elements values a.values (sym e ∙ a.holds))))
  leads_changes (LoadStatic field target) m l n before after old left is runs is_op h = changed_as m before.heap before after h.same (none_changed (WrittenBy m) before.heap)
  leads_changes (StoreStatic field value) m l n before after old left is runs is_op h = changed_as m before.heap _ after h.0 (none_changed (WrittenBy m) before.heap)
  leads_changes (New site target) m l n before after old left is runs is_op h = changed_as m before.heap _ after h.is_made.after_is (more_changed (WrittenBy m) before.heap _)
  leads_changes (NewArray sites target) m l n before after old left is runs is_op h = changed_as m before.heap _ after h.is_made.after_is (more_changed (WrittenBy m) before.heap _)
  leads_changes (Constant site target) m l n before after old left is runs is_op h = changed_as m before.heap before after h.same (none_changed (WrittenBy m) before.heap)
  leads_changes (Call call) m l n before after old left is runs is_op h = absurd h
  leads_changes (Return value) m l n before after old left is runs is_op h = absurd h
  leads_changes (Throw value) m l n before after old left is runs is_op h = absurd h
  leads_changes (Cast class slot) m l n before after old left is runs is_op h = changed_as m before.heap before after h.2 (none_changed (WrittenBy m) before.heap)
  leads_changes (Probe slot) m l n before after old left is runs is_op h = changed_as m before.heap before after h.0.1 (none_changed (WrittenBy m) before.heap)

  -- an event changes no field
  events_change : (m : MethodNo) (selects : Bool) (s : Signature) (units : List Value) (before after : World) → HasEvents x selects s units before after → ChangesOnly (WrittenBy m) before.heap after.heap
  events_change m selects s units before after (moved e is) =
      changed_as m before.heap _ after is
      (one_changed (WrittenBy m) before.heap e.receiver.place e.receiver.object _ e.receiver.held (λ values holds. fields_kept (WrittenBy m) values _ holds))
  events_change m selects s units before after (unmoved none is) = changed_as m before.heap before after is (none_changed (WrittenBy m) before.heap)

  -- nor does a described method
  gives_change : (m : MethodNo) (number : ℕ) (d : DescribedMethod x number) (caller : Frame) (units : List Value) (r : StubResult) (before after : World) (v : Value)
      → Gives x number d caller units r before v after → ChangesOnly (WrittenBy m) before.heap after.heap
  gives_change m number d caller units results.Primitive before after v g = changed_as m before.heap before after g.1 (none_changed (WrittenBy m) before.heap)
  gives_change m number d caller units results.Void before after v g = changed_as m before.heap before after g.1 (none_changed (WrittenBy m) before.heap)
  gives_change m number d caller units results.Null before after v g = changed_as m before.heap before after g.1 (none_changed (WrittenBy m) before.heap)
  gives_change m number d caller units (results.Given argument) before after v g = changed_as m before.heap before after g.1 (none_changed (WrittenBy m) before.heap)
  gives_change m number d caller units (results.New class) before after v g = changed_as m before.heap _ after g.after_is (more_changed (WrittenBy m) before.heap _)
  gives_change m number d caller units results.Kept before after v g = changed_as m before.heap before after g.1 (none_changed (WrittenBy m) before.heap)

  -- ---- down the frames

  no_base : (heap : List Object) (g : Frame) (below : List Frame) (depth : ℕ) (m : MethodNo) → g.method ≡ None → AreCoveredBelow x gives S heap below g.method → HasBase (g ∷ below) depth m → ⊥
  no_base heap g below depth m none c (inl here) = none-some m.0 (sym none ∙ here.1)
  no_base heap g [] depth m none c (inr later) = later.1
  no_base heap g (h ∷ below) depth m none c (inr later) = none-some c.0.called.0 (sym none ∙ c.0.is_called)

  -- what a method may write, each method below it may
  lifted : (heap : List Object) (f : Frame) (below : List Frame) (depth : ℕ) (m : MethodNo) → HasBase (f ∷ below) depth m → AreCoveredBelow x gives S heap below f.method → (k : MethodNo) → f.method ≡ Some k.0
      → (field : FieldNo) → S (may_write k field) → S (may_write m field)
  lifted heap f below depth m (inl here) c k is field written = subst (λ (j : MethodNo). S (may_write j field)) (same_method f.method k m is here.1) written
  lifted heap f [] depth m (inr later) c k is field written = absurd later.1
  lifted heap f (g ∷ below) depth m (inr later) c k is field written =
      by_method heap f g below depth m c k is field written later.1 (λ j at w. lifted heap g below depth m later.1 c.1 j at field w) g.method refl
    where
      by_method : (heap : List Object) (f g : Frame) (below : List Frame) (depth : ℕ) (m : MethodNo) (c : AreCoveredBelow x gives S heap (g ∷ below) f.method) (k : MethodNo) → f.method ≡ Some k.0 → (field : FieldNo)
          → S (may_write k field) → HasBase (g ∷ below) depth m → ((j : MethodNo) → g.method ≡ Some j.0 → S (may_write j field) → S (may_write m field)) → (o : Option ℕ) → g.method ≡ o → S (may_write m field)
      by_method heap f g below depth m c k is field written base on None e = absurd (no_base heap g below depth m e c.1 base)
      by_method heap f g below depth m c k is field written base on (Some number) e = on j e (by_wait g.waits refl)
        where
          j : MethodNo
          j = record { 0 = number }

          from : S (may_write c.0.called field)
          from = subst (λ (i : MethodNo). S (may_write i field)) (same_method f.method k c.0.called is c.0.is_called) written

          by_wait : (w : Bool) → g.waits ≡ w → S (may_write j field)
          by_wait true waits =
              let at = c.0.stands j e in
              let target : S (may_call (node_of j at.node) c.0.called) = subst (λ (r : NodeRef). S (may_call r c.0.called)) (node_is gives g j at.lowered at.node at.here) (c.0.for_call waits).target in
              writes _ _ (target_writes j at.lowered at.node c.0.called field at.here.node) (c.0.frame.runs j e, (target, (from, tt)))
          by_wait false waits =
              let at = c.0.stands j e in
              writes _ _ (initialiser_writes j at.lowered at.node c.0.called field at.here.node ((c.0.for_initialiser waits).starts j at.lowered at.node at.here)) (c.0.frame.runs j e, (from, tt))

  -- ---- steps

  -- after a step from a state with a frame of the method at the depth
  record IsStepKept (depth : ℕ) (m : MethodNo) (s t : State) : Type 0 where
    base : depth ≤ length t.frames → HasBase t.frames depth m
    kept : ChangesOnly (WrittenBy m) s.world.heap t.world.heap

  kept_as : (depth : ℕ) (m : MethodNo) (s t u : State) → t ≡ u → IsStepKept depth m s u → IsStepKept depth m s t
  kept_as depth m s t u e k = subst (λ (v : State). IsStepKept depth m s v) (sym e) k

  step_changes : (depth : ℕ) (m : MethodNo) (s t : State) → NodeStep x given s t → Covers x gives S s → HasBase s.frames depth m → IsStepKept depth m s t
  step_changes depth m s t (advances at h) c base =
      let frames = frames_are x gives S s.world.heap s.frames at.below at.frame at.frames c.frames in
      let here = base_at s.frames at.below at.frame depth m at.frames base in
      kept_as depth m s t _ h.after (record {
        base = λ le. same_base at.frame (moved_to at.frame h.next h.left) at.below depth m refl here;
        kept = by frames here (place_of x given gives map at.frame at.now);
      })
    where
      by : IsCoveredFrame gives S s.world.heap at.frame × (at.frame.waits ≡ false) × AreCoveredBelow x gives S s.world.heap at.below at.frame.method → HasBase (at.frame ∷ at.below) depth m
          → Place x gives at.frame at.now.locals at.now.node → ChangesOnly (WrittenBy m) s.world.heap h.world.heap
      by frames here (in_method k l stands count) =
          changed_more (WrittenBy k) (WrittenBy m) s.world.heap h.world.heap (λ field written. lifted s.world.heap at.frame at.below depth m here frames.2 k stands.in_method field written)
          (leads_changes at.now.node.op k l at.now.node s.world h.world at.frame.slots h.left stands.node (frames.0.runs k stands.in_method) refl h.leads)
      by frames here (at_start no_method offset is_start) =
          absurd (start_leads_not x given gives S map closed whole at.now.node s.world h.world at.frame.slots h.left is_start h.leads)
  step_changes depth m s t (enters at h) c base =
      let here = base_at s.frames at.below at.frame depth m at.frames base in
      kept_as depth m s t _ h.enters.after (record {
        base = λ le. more_base (new_frame h.calls.target h.enters.slots) (waiting at.frame h.left ∷ at.below) depth m (same_base at.frame (waiting at.frame h.left) at.below depth m refl here);
        kept = events_change m _ _ _ s.world h.calls.world h.calls.events;
      })
  step_changes depth m s t (gets_result at h) c base =
      let here = base_at s.frames at.below at.frame depth m at.frames base in
      kept_as depth m s t _ h.after (record {
        base = λ le. same_base at.frame (moved_to at.frame h.next h.left) at.below depth m refl here;
        kept = changed_on (WrittenBy m) s.world.heap h.calls.world.heap h.world.heap (events_change m _ _ _ s.world h.calls.world h.calls.events)
            (gives_change m h.calls.target h.gives.called at.frame _ h.gives.result _ h.world h.value h.gives.gives);
      })
  step_changes depth m s t (gets_exception at h) c base =
      let here = base_at s.frames at.below at.frame depth m at.frames base in
      kept_as depth m s t _ h.after (record {
        base = λ le. here;
        kept = changed_on (WrittenBy m) s.world.heap h.calls.world.heap h.world.heap (events_change m _ _ _ s.world h.calls.world h.calls.events)
            (changed_as m h.calls.world.heap _ h.world h.throws.makes.after_is (more_changed (WrittenBy m) h.calls.world.heap _));
      })
  step_changes depth m s t (enters_entry at h) c base =
      let here = base_at s.frames at.below at.frame depth m at.frames base in
      kept_as depth m s t _ h.enters.after (record {
        base = λ le. more_base (new_frame x.entry h.enters.slots) (waiting at.frame h.left ∷ at.below) depth m (same_base at.frame (waiting at.frame h.left) at.below depth m refl here);
        kept = none_changed (WrittenBy m) s.world.heap;
      })
  step_changes depth m s t (returns at h) c base =
      let here = base_at s.frames (h.caller ∷ h.rest) at.frame depth m (at.frames ∙ ap (λ (fs : List Frame). at.frame ∷ fs) h.below) base in
      kept_as depth m s t _ h.after (record {
        base = λ le. same_base h.caller (moved_to h.caller h.next h.left) h.rest depth m refl (less_base at.frame (h.caller ∷ h.rest) depth m le here);
        kept = none_changed (WrittenBy m) s.world.heap;
      })
  step_changes depth m s t (resumes at h) c base =
      let here = base_at s.frames (h.caller ∷ h.rest) at.frame depth m (at.frames ∙ ap (λ (fs : List Frame). at.frame ∷ fs) h.below) base in
      kept_as depth m s t _ h.after (record { base = λ le. less_base at.frame (h.caller ∷ h.rest) depth m le here; kept = none_changed (WrittenBy m) s.world.heap })
  step_changes depth m s t (ends at h) c base =
      kept_as depth m s t _ h.after (record { base = λ le. by_length s.frames base le; kept = none_changed (WrittenBy m) s.world.heap })
    where
      -- a depth is at least one
      by_length : (frames : List Frame) → HasBase frames depth m → depth ≤ 0 → ⊥
      by_length [] b le = b
      by_length (f ∷ below) (inl here) le = let long = here.0 in omega (arith, long, le)
      by_length (f ∷ below) (inr later) le = by_length below later.1 le
  step_changes depth m s t (raises at h) c base =
      let here = base_at s.frames at.below at.frame depth m at.frames base in
      kept_as depth m s t _ h.throws.after (record {
        base = λ le. here;
        kept = changed_as m s.world.heap _ h.throws.world h.throws.makes.after_is (more_changed (WrittenBy m) s.world.heap _);
      })
  step_changes depth m s t (throws at h) c base =
      let here = base_at s.frames at.below at.frame depth m at.frames base in
      kept_as depth m s t _ h.after (record { base = λ le. here; kept = none_changed (WrittenBy m) s.world.heap })
  step_changes depth m s t (catches at h) c base =
      let here = base_at s.frames at.below at.frame depth m at.frames base in
      kept_as depth m s t _ h.after (record {
        base = λ le. same_base at.frame (moved_to at.frame h.handler.target h.left) at.below depth m refl here;
        kept = none_changed (WrittenBy m) s.world.heap;
      })
  step_changes depth m s t (unwinds at h) c base =
      let here = base_at s.frames at.below at.frame depth m at.frames base in
      kept_as depth m s t _ h.after (by at.below here)
    where
      by : (below : List Frame) → HasBase (at.frame ∷ below) depth m → IsStepKept depth m s (unwound below s.world at.place)
      by [] here = record { base = λ le. less_base at.frame [] depth m le here; kept = none_changed (WrittenBy m) s.world.heap }
      by (f ∷ rest) here = record {
        base = λ le. same_base f (moved_to f f.offset f.slots) rest depth m refl (less_base at.frame (f ∷ rest) depth m le here);
        kept = none_changed (WrittenBy m) s.world.heap;
      }
  step_changes depth m s t (starts at h) c base =
      let here = base_at s.frames at.below at.frame depth m at.frames base in
      kept_as depth m s t _ h.after (record { base = λ le. more_base (new_frame h.number h.slots) (at.frame ∷ at.below) depth m here; kept = none_changed (WrittenBy m) s.world.heap })
  step_changes depth m s t (wraps at h) c base =
      let here = base_at s.frames (h.caller ∷ h.rest) at.frame depth m (at.frames ∙ ap (λ (fs : List Frame). at.frame ∷ fs) h.below) base in
      kept_as depth m s t _ h.throws.after (record {
        base = λ le. less_base at.frame (h.caller ∷ h.rest) depth m le here;
        kept = changed_as m s.world.heap _ h.throws.world h.throws.makes.after_is (more_changed (WrittenBy m) s.world.heap _);
      })

  -- ---- executions

  steps_change : (depth : ℕ) (m : MethodNo) (s : State) (states : List State) → AreNodeSteps x given s states → StayAbove depth states → Covers x gives S s → HasBase s.frames depth m
      → (t : State) → Contains (s ∷ states) t → ChangesOnly (WrittenBy m) s.world.heap t.world.heap
  steps_change depth m s [] steps above c base t there =
      elim (contains_cases s t [] there) [
        | inl e ↦ subst (λ (u : State). ChangesOnly (WrittenBy m) s.world.heap u.world.heap) e (none_changed (WrittenBy m) s.world.heap)
        | inr later ↦ absurd (contains_none t later)
      ]
  steps_change depth m s (u ∷ states) steps above c base t there =
      let first = step_changes depth m s u steps.0 c base in
      elim (contains_cases s t (u ∷ states) there) [
        | inl e ↦ subst (λ (v : State). ChangesOnly (WrittenBy m) s.world.heap v.world.heap) e (none_changed (WrittenBy m) s.world.heap)
        | inr later ↦ changed_on (WrittenBy m) s.world.heap u.world.heap t.world.heap first.kept
            (steps_change depth m u states steps.1 above.1 (step_covers x given gives S map closed whole unrefused s u steps.0 c) (first.base above.0) t later)
      ]

  pub changes_written : ChangesAreWritten x given S
  changes_written earlier run s there f below m frames is states steps above t later =
      let base : HasBase (f ∷ below) (length (f ∷ below)) m = inl (refl, is) in
      let at_state : HasBase s.frames (length s.frames) m = subst (λ (fs : List Frame). HasBase fs (length fs) m) (sym frames) base in
      steps_change (length s.frames) m s states steps above (covers_all x given gives S map closed whole unrefused earlier run s there) at_state t later
