-- Steps of a frame that runs: an operation that goes on, a call, and the answer of a described method.
use Rattle.std.proofs.Common.{◌≡◌, ℕ, zero, suc, ◌<◌, Bool, true, false, List, [], ◌∷◌, length, Option, Some, None, Ok, Contains, refl, sym, ap, ◌∙◌, subst}
use Rattle.std.specs.Prelude.{slice_get, slice_set}
use Rattle.std.specs.Option.{option_map_or, option_flatten}
use Rattle.std.proofs.lemmas.Bool.{false≢true}
use Rattle.std.proofs.lemmas.Option.{none-some}
use Rattle.list_laws.proofs.Members.{contains_first, contains_later}
use Rattle.jvm_model.specs.declared.number.FieldNo.{FieldNo}
use Rattle.jvm_model.specs.declared.number.MethodNo.{MethodNo}
use Rattle.jvm_model.specs.declared.site.Site.{Site}
use Rattle.jvm_model.specs.Lookups.{Signature}
use Rattle.jvm_model.specs.Programs.{Method, Program}
use Rattle.jvm_model.specs.Soundness.{is_array}
use Rattle.jvm_model.specs.Subtypes.{IsSubtype}
use Rattle.op_model.specs.declared.node.Node.{Node}
use Rattle.op_model.specs.declared.op.Call.{Call as NodeCall}
use Rattle.op_model.specs.declared.op.CallKind.{CallKind}
use Rattle.op_model.specs.declared.op.CallKind.TheVariants as call_kinds
use Rattle.op_model.specs.declared.op.Op.{Op}
use Rattle.op_model.specs.Supplies.{Given, GivenAs}
use Rattle.jvm_model.specs.declared.stub.StubResult.{StubResult}
use Rattle.jvm_model.specs.declared.stub.StubResult.TheVariants as results
use Rattle.machine_bytecode.specs.Described.{DescribedMethod, Gives, GivesResult}
use Rattle.machine_bytecode.specs.Events.{HasEvents, moved, unmoved}
use Rattle.machine_bytecode.specs.Objects.{Subject, Refers}
use Rattle.machine_bytecode.specs.States.{Value, primitive_value, null_value, reference_to, Contents, Frame, State, World, waiting, slot_at}
use Rattle.machine_nodes.specs.NodeSteps.{Advances, advances, AtNode, Calls, EntersTarget, GetsResult, is_selecting_kind, IsTargetOf, Leads}
use Rattle.machine_nodes.specs.Slots.{argument_values}
use Rattle.points_to_rules.specs.Facts.{Fact, Holder, may_call, may_hold, may_run, variable}
use Rattle.points_to_rules.specs.ReadSlots.{read_slots}
use Rattle.access_paths.specs.declared.root.Root.TheVariants.{Slot, Static, Returned, Thrown}
use Rattle.coverage.specs.Covering.{Covers, IsCoveredFrame, MayHold}
use Rattle.coverage.proofs.Advancing.{slots_here}
use Rattle.coverage.proofs.Calls.{of_file}
use Rattle.coverage.proofs.Frames.{frames_are}
use Rattle.coverage.proofs.Units.{argument_there}
use Rattle.coverage.proofs.Values.{among_from}
use Rattle.stage_facts.specs.Facts.{Says, SiteFact}
use Rattle.stage_facts.specs.Values.{Cell, cell_value, element_in, field_in, in_element, in_field, in_kept, in_root, of_slots, part_at}
use Rattle.stage_transfer.specs.Calls.{by_call, Entering}
use Rattle.stage_transfer.specs.Stages.{Transfer}
use Rattle.stage_edges.specs.Rules.{answers, called, Edge, Enters, goes_on, Instance, node_at}
use Rattle.stage_steps.specs.Said.{AreEqual, BeginsWith, ChangesFields, IsBounded, IsPassed, IsTracked, Results}
use Rattle.stage_steps.proofs.Described.{answer_says}
use Rattle.stage_steps.proofs.Entering.{enter_says}
use Rattle.stage_steps.proofs.Events.{event_says, IsObserved, IsReceiverHeld}
use Rattle.stage_steps.proofs.Kept.{unit_value}
use Rattle.stage_steps.proofs.Leaving.{Behind}
use Rattle.stage_steps.proofs.Operations.{next_says}
use Rattle.stage_steps.proofs.Paths.{default_field, part_push, part_set, Unchanged}
use Rattle.stage_soundness.specs.Describing.{IsRunning, method_of, waits_so}
use Rattle.stage_soundness.proofs.Bounded.{bounded_of}
use Rattle.stage_soundness.proofs.Known.{described_as, Described, IsKnown, method_as, method_is, no_arrays, no_constant, node_in, Premises, tracked_before, tracked_in}
use Rattle.stage_soundness.proofs.Placed.{number_as}
use Rattle.stage_soundness.proofs.Standing.{Stands, stands_at}
use Rattle.stage_soundness.proofs.Waiting.{more_changes, no_changes, operation_changes, waiting_on}

-- ---- worlds after events

set_length : {X : Type 0} (xs : List X) (k : ℕ) (y : X) → length (slice_set xs k y) ≡ length xs
set_length [] k y = refl
set_length (x ∷ xs) zero y = refl
set_length (x ∷ xs) (suc k) y = ap suc (set_length xs k y)

-- An event changes no part of an object but its automaton's state.
pub record IsQuiet (w after : World) : Type 0 where
  pub same : (part : Contents → Value) (place : ℕ) → part_at part after.heap place ≡ part_at part w.heap place
  pub long : length after.heap ≡ length w.heap
  pub statics : after.statics ≡ w.statics
  pub kept : after.kept ≡ w.kept

pub events_quiet : (x : Subject) (selects : Bool) (sig : Signature) (units : List Value) (w after : World) → HasEvents x selects sig units w after → IsQuiet w after
events_quiet x selects sig units w after (moved e is) =
    subst (λ (u : World). IsQuiet w u) (sym is) (record {
      same = λ part place. part_set part w.heap e.receiver.place place e.receiver.object _ e.receiver.held (λ _. refl);
      long = set_length w.heap e.receiver.place _;
      statics = refl;
      kept = refl;
    })
events_quiet x selects sig units w after (unmoved none is) = subst (λ (u : World). IsQuiet w u) (sym is) (record { same = λ part place. refl; long = refl; statics = refl; kept = refl })

quiet_bounded : (w after : World) (slots : List Value) → IsQuiet w after → IsBounded w slots → IsBounded after slots
quiet_bounded w after slots quiet b = record { each = λ c place is. subst (λ (k : ℕ). place < k) (sym quiet.long) (b.each c place (sym (by c) ∙ is)) }
  where
    by : (c : Cell) → cell_value after (of_slots slots) c ≡ cell_value w (of_slots slots) c
    by (in_root (Slot z)) = refl
    by (in_root (Static f)) = ap (λ (values : ℕ → Value). values f.0) quiet.statics
    by (in_root Returned) = refl
    by (in_root Thrown) = refl
    by (in_field p f) = quiet.same (field_in f) p
    by (in_element p index) = quiet.same (element_in index) p
    by (in_kept number) = ap (λ (places : List ℕ). option_map_or reference_to (slice_get places number) null_value) quiet.kept

-- ---- the receiver

-- what a call that selects by its object selects by
receives : (kind : CallKind) (p : Program) (c : NodeCall) (m : Method) (w : World) (units : List Value) (target : ℕ) → IsTargetOf kind p c m w units target → is_selecting_kind kind ≡ true
    → Refers w (slot_at units 0)
receives call_kinds.Virtual p c m w units target is selects = is.receiver.to
receives call_kinds.Special p c m w units target is selects = absurd (false≢true selects)
receives call_kinds.Static p c m w units target is selects = absurd (false≢true selects)
receives call_kinds.Interface p c m w units target is selects = is.receiver.to

-- the slots of the frame that is entered
begins_with : (c : NodeCall) (old locals : List Value) (place : ℕ) → ((z : ℕ) → slot_at locals z ≡ slot_at (argument_values c.arguments old) z) → BeginsWith (by_call c) old locals place
begins_with c old locals place same = record {
  given = λ other unit z e there. same unit ∙ unit_value c.arguments old unit ∙ value c.arguments unit z (subst (λ (d : NodeCall). slice_get d.arguments unit ≡ Some (Some z)) (sym (same_call c other e)) there);
  others = λ unit is. from unit (slice_get c.arguments unit) refl (sym (same unit ∙ unit_value c.arguments old unit) ∙ is);
}
  where
    same_call : (a b : NodeCall) → by_call a ≡ by_call b → a ≡ b
    same_call a b e = cc

    value : (arguments : List (Option ℕ)) (unit z : ℕ) → slice_get arguments unit ≡ Some (Some z)
        → option_map_or (slot_at old) (option_flatten (slice_get arguments unit)) primitive_value ≡ slot_at old z
    value arguments unit z e = ap (λ (o : Option (Option ℕ)). option_map_or (slot_at old) (option_flatten o) primitive_value) e

    from : (unit : ℕ) (o : Option (Option ℕ)) → slice_get c.arguments unit ≡ o
        → option_map_or (slot_at old) (option_flatten (slice_get c.arguments unit)) primitive_value ≡ reference_to place → IsPassed (by_call c) old unit place
    from unit None e is = absurd (let bad : primitive_value ≡ reference_to place = sym (ap (λ (o : Option (Option ℕ)). option_map_or (slot_at old) (option_flatten o) primitive_value) e) ∙ is in cc bad)
    from unit (Some None) e is = absurd (let bad : primitive_value ≡ reference_to place = sym (ap (λ (o : Option (Option ℕ)). option_map_or (slot_at old) (option_flatten o) primitive_value) e) ∙ is in cc bad)
    from unit (Some (Some z)) e is = record {
      call = c;
      by_is = refl;
      slot = z;
      argument = e;
      is = sym (ap (λ (o : Option (Option ℕ)). option_map_or (slot_at old) (option_flatten o) primitive_value) e) ∙ is;
    }

-- a described method changes no field
gives_fields : (x : Subject) (number : ℕ) (d : DescribedMethod x number) (caller : Frame) (units : List Value) (result : StubResult) (w after : World) (v : Value)
    → Gives x number d caller units result w v after → (f : FieldNo) → Unchanged w.heap after.heap f
gives_fields x number d caller units results.Primitive w after v g f place = ap (λ (u : World). part_at (field_in f) u.heap place) g.1
gives_fields x number d caller units results.Void w after v g f place = ap (λ (u : World). part_at (field_in f) u.heap place) g.1
gives_fields x number d caller units results.Null w after v g f place = ap (λ (u : World). part_at (field_in f) u.heap place) g.1
gives_fields x number d caller units (results.Given argument) w after v g f place = ap (λ (u : World). part_at (field_in f) u.heap place) g.1
gives_fields x number d caller units (results.New class) w after v g f place =
    ap (λ (u : World). part_at (field_in f) u.heap place) g.after_is ∙ part_push (field_in f) w.heap _ place (default_field x.program f)
gives_fields x number d caller units results.Kept w after v g f place = ap (λ (u : World). part_at (field_in f) u.heap place) g.1

result_fields : (x : Subject) (number : ℕ) (caller : Frame) (c : NodeCall) (slots : List Value) (w after : World) (v : Value) → GivesResult x number caller (argument_values c.arguments slots) w v after
    → (f : FieldNo) → Unchanged w.heap after.heap f
result_fields x number caller c slots w after v g f place = gives_fields x number g.called caller (argument_values c.arguments slots) g.result _ after v g.gives f place

module _ (x : Subject) (given : Given) (gives : GivenAs) (S : Fact → Type 0) (s : Site) (t : Transfer) (E : Edge → Type 0) (k : Premises x given gives S s t E) where
  -- the newest frame of a state
  pub record Newest (state : State) (f : Frame) (below : List Frame) : Type 0 where
    pub frame : IsCoveredFrame gives S state.world.heap f
    pub awake : f.waits ≡ false
    pub slots : (z place : ℕ) → slot_at f.slots z ≡ reference_to place → place < length state.world.heap
    pub bounded : IsBounded state.world f.slots
    pub runs : (m : MethodNo) → method_of f ≡ Some m → S (may_run m)

  pub newest : (state : State) (f : Frame) (below : List Frame) → state.frames ≡ f ∷ below → IsKnown x given gives S state → Newest state f below
  newest state f below frames known =
      let covered = frames_are x gives S state.world.heap state.frames below f frames known.covers.frames in
      let slots = known.bounded f (subst (λ (fs : List Frame). Contains fs f) (sym frames) (contains_first f below)) in
      record {
        frame = covered.0;
        awake = covered.1;
        slots = slots;
        bounded = bounded_of x gives S state f.slots known.covers slots;
        runs = λ m e. covered.0.runs m (method_is f m e);
      }

  pub observed : (state : State) (place : ℕ) → Covers x gives S state → IsObserved x s place state.world
  observed state place covers o held of_site =
      let class : o.class ≡ s.class = (covers.world.objects place o held).of_class ∙ ap (λ (r : Site). r.class) of_site in
      (ap is_array class ∙ k.trackable.no_array, subst (λ (c : List ℕ). IsSubtype x.program x.property.class_name c) (sym class) k.trackable.observed)

  -- ---- methods that are entered

  -- a method is entered from where a frame stands, which waits for it, maybe with other slots
  pub entered_good : (state : State) (place : ℕ) (f : Frame) (below : List Frame) (n : Node) (h : Stands x given gives S s t E k state.world place f below n) → Newest state f below
      → (by : Entering) (target : MethodNo) (sent : SiteFact) → Enters x S t (method_of f) h.lowered n target h.here.fact by sent → (now : World) (waits : Bool) (left : List Value) → waits ≡ waits_so by
      → (behind : Behind S s place now by target sent left) → AreEqual h.lowered n behind.slots → ((m : MethodNo) → ChangesFields S m state.world.heap now.heap)
      → (slots : List Value) → Says s (t.enter by sent) place now (of_slots slots)
      → IsRunning x gives S s t E now place (record { method = Some target.0; offset = 0; slots = slots; waits = false })
      (record { method = f.method; offset = f.offset; slots = left; waits = waits } ∷ below)
  entered_good state place f below n h new by target sent sends now waits left waits_is behind alike changes slots says = record {
    entry = t.enter by sent;
    fact = t.enter by sent;
    held = k.edges _ _ (Instance.enters (method_of f) h.lowered n h.here.entry h.here.fact sent target by h.is_node sends) (h.held, tt);
    says = says;
    waiting = record {
      called = target;
      is_called = refl;
      first = record {
        lowered = h.lowered;
        node = n;
        is_node = h.is_node;
        at = h.at;
        runs = new.runs;
        by = by;
        waits = waits_is;
        own = h.here.entry;
        fact = h.here.fact;
        sent = sent;
        held = h.held;
        enters = sends;
        entered = refl;
        slots = behind.slots;
        world = behind.world;
        says = behind.says;
        alike = alike;
        stays = behind.stays;
        cleared = behind.cleared;
        bounded = behind.bounded;
        changes = behind.changes;
      };
      rest = waiting_on x given gives S s t E k place state.world now below (method_of f) h.here.entry (λ m e. changes m) h.here.waiting;
    };
  }

  -- ---- operations

  pub advances_good : (state after : State) (at : AtNode x given state) → Advances x given state after at → IsKnown x given gives S state → (place : ℕ) → IsTracked s place after.world.heap
      → Described x given gives S s t E k place state → Described x given gives S s t E k place after
  advances_good state after at a known place tracked d =
      let f = at.frame in
      let n = at.now.node in
      let h = stands_at x given gives S s t E k state at place d in
      let new = newest state f at.below at.frames known in
      let before_tracked = tracked_before x given gives S s t E k state after place (advances at a) tracked in
      let r = next_says x S s t k.laws place h.lowered n h.here.fact state.world a.world f.slots a.left h.variables (h.equal (known.alike at.runs f at.below at.frames)) a.leads new.bounded
      (no_constant x given gives S s t E k state place known.covers before_tracked) (no_arrays x given gives S s t E k (method_of f) h.lowered n h.is_node)
      (tracked_in x given gives S s t E k after _ place a.after tracked) h.here.says in
      described_as x given gives S s t E k place after _ a.after (record {
        entry = h.here.entry;
        fact = r.fact;
        held = k.edges _ _ (goes_on (method_of f) h.lowered n h.here.entry h.here.fact r.fact a.next h.is_node
            (λ c e. subst (λ (op : Op). Leads op x state.world f.slots a.left a.world) e a.leads) a.goes r.listed) (h.held, tt);
        says = r.says;
        waiting = waiting_on x given gives S s t E k place state.world a.world at.below (method_of f) h.here.entry
            (λ m e. operation_changes x given gives S s t E k m h.lowered n state.world a.world f.slots a.left (node_in x gives h.lowered n (method_of f) m e h.is_node) (new.runs m e) a.leads) h.here.waiting;
      })

  -- ---- calls

  -- a call in a method: where it stands, what its event gives, and where it goes
  pub record IsCalling (state : State) (at : AtNode x given state) (calls : Calls x given state at) (place : ℕ) : Type 0 where
    pub stands : Stands x given gives S s t E k state.world place at.frame at.below at.now.node
    pub results : Results (t.event stands.lowered at.now.node calls.call stands.here.fact) (λ g. Says s g place calls.world (of_slots at.frame.slots))
    pub goes : S (may_call (node_at (method_of at.frame) at.now.node) (number_as calls.target))
    pub quiet : IsQuiet state.world calls.world

  pub call_says : (state : State) (at : AtNode x given state) (calls : Calls x given state at) (place : ℕ) (target : Method) → slice_get x.program.methods calls.target ≡ Some target
      → IsKnown x given gives S state → Described x given gives S s t E k place state → IsCalling state at calls place
  call_says state at calls place target there known d =
      let f = at.frame in
      let n = at.now.node in
      let i = stands_at x given gives S s t E k state at place d in
      let new = newest state f at.below at.frames known in
      let m = number_as calls.number in
      let node = node_in x gives i.lowered n (method_of f) m (method_as f calls.number calls.in_method) i.is_node in
      let whole = k.whole m.0 i.lowered node.given in
      let slots = slots_here x given gives S k.map k.points k.whole state.world.heap f m i.lowered n (record { in_method = calls.in_method; node = node; at = i.at }) new.frame in
      let held : IsReceiverHeld S i.lowered n calls.call state.world f.slots =
      λ z h q o argument slot is at_place. subst (λ (j : Holder). S (may_hold j o.site)) (sym slot.is)
      (among_from (MayHold S (variable slot.name)) state.world.heap (slot_at f.slots z) q o
      (slots z slot.name (whole.reads n z node.stands (subst (λ (op : Op). Contains (read_slots op) z) (sym calls.is_call) (argument_there calls.call.arguments 0 z argument))) slot.named) is at_place) in
      record {
        stands = i;
        results = event_says x S s t k.laws place i.lowered n calls.call i.here.fact state.world calls.world f.slots whole.reached node.stands (i.equal (known.alike at.runs f at.below at.frames)) calls.events
            (receives calls.call.kind x.program calls.call calls.resolved state.world (argument_values calls.call.arguments f.slots) calls.target calls.is_target) held (observed state place known.covers) i.here.says;
        goes = subst (λ (j : ℕ). S (may_call (record { method = method_of f; offset = j }) (number_as calls.target))) (sym i.at) (known.informs.called at calls target there);
        quiet = events_quiet x _ _ _ state.world calls.world calls.events;
      }

  pub quiet_changes : (w after : World) (m : MethodNo) → IsQuiet w after → ChangesFields S m w.heap after.heap
  quiet_changes w after m quiet = no_changes S m w.heap after.heap (λ f place. quiet.same (field_in f) place)

  pub enters_good : (state after : State) (at : AtNode x given state) → EntersTarget x given state after at → IsKnown x given gives S state → IsKnown x given gives S after → (place : ℕ)
      → Described x given gives S s t E k place state → Described x given gives S s t E k place after
  enters_good state after at a known later place d =
      let f = at.frame in
      let n = at.now.node in
      let calls = a.calls in
      let c = calls.call in
      let w = calls.world in
      let target = number_as calls.target in
      let given_as = (k.map.entries calls.target (Ok a.enters.method)).0 a.enters.is_given in
      let coded = (k.whole calls.target a.enters.method given_as).coded in
      let is = call_says state at calls place coded.method coded.stands known d in
      let h = is.stands in
      let r = is.results in
      described_as x given gives S s t E k place after _ a.enters.after
      (entered_good state place f at.below n h (newest state f at.below at.frames known) (by_call c) target r.fact
      (called c r.fact calls.is_call is.goes (of_file x given gives S k.map k.points k.whole target a.enters.method given_as) r.listed) w true a.left refl (record {
        slots = f.slots;
        world = w;
        says = r.says;
        stays = λ z aside. a.are_left.kept z aside (none-some z);
        cleared = λ z q is_place has. absurd (let bad : primitive_value ≡ reference_to q = sym (a.are_left.cleared z has (none-some z)) ∙ is_place in cc bad);
        bounded = λ z q is_place. subst (λ (u : State). q < length u.world.heap) a.enters.after
            (later.bounded (waiting f a.left) (subst (λ (u : State). Contains u.frames (waiting f a.left)) (sym a.enters.after) (contains_later _ (waiting f a.left) (waiting f a.left ∷ at.below) (contains_first (waiting f a.left) at.below))) z q is_place);
        changes = no_changes S target w.heap w.heap (λ g q. refl);
      }) (h.equal (known.alike at.runs f at.below at.frames)) (λ m. quiet_changes state.world w m is.quiet) a.enters.slots
      (enter_says x S s t k.laws place (by_call c) r.fact w f.slots a.enters.slots (begins_with c f.slots a.enters.slots place a.enters.arguments) r.says))

  -- ---- described methods

  pub gets_result_good : (state after : State) (at : AtNode x given state) → GetsResult x given state after at → IsKnown x given gives S state → (place : ℕ) → IsTracked s place after.world.heap
      → Described x given gives S s t E k place state → Described x given gives S s t E k place after
  gets_result_good state after at a known place tracked d =
      let f = at.frame in
      let n = at.now.node in
      let calls = a.calls in
      let c = calls.call in
      let new = newest state f at.below at.frames known in
      let is = call_says state at calls place a.gives.called.method a.gives.called.stands known d in
      let h = is.stands in
      let r = is.results in
      let answer = answer_says x S s t k.laws place (method_of f) h.lowered n c calls.target f r.fact calls.world a.world a.value f.slots a.left refl h.at h.variables
      (h.equal (known.alike at.runs f at.below at.frames)) (quiet_bounded state.world calls.world f.slots is.quiet new.bounded) a.gives a.are_left (tracked_in x given gives S s t E k after _ place a.after tracked) r.says in
      described_as x given gives S s t E k place after _ a.after (record {
        entry = h.here.entry;
        fact = answer.results.fact;
        held = k.edges _ _ (answers (method_of f) h.lowered n h.here.entry h.here.fact r.fact answer.results.fact c (number_as calls.target) answer.stub answer.parameters answer.result a.next
            h.is_node calls.is_call is.goes answer.is_stub answer.listed a.goes r.listed answer.results.listed) (h.held, tt);
        says = answer.results.says;
        waiting = waiting_on x given gives S s t E k place state.world a.world at.below (method_of f) h.here.entry
            (λ m e. more_changes S m state.world.heap calls.world.heap a.world.heap (quiet_changes state.world calls.world m is.quiet) (no_changes S m calls.world.heap a.world.heap (result_fields x calls.target f c f.slots calls.world a.world a.value a.gives))) h.here.waiting;
      })
