-- Steps of frames that throw: a new object or one of a slot is thrown, a handler takes it, or the frame goes.
use Rattle.std.proofs.Common.{codes, ◌≡◌, ◌≢◌, inl, inr, ℕ, false, List, [], ◌∷◌, ◌++◌, length, Option, Some, None, Contains, refl, sym, ap, ◌∙◌, subst}
use Rattle.std.specs.Prelude.{slice_get}
use Rattle.std.proofs.lemmas.Option.{same_Some, none-some}
use Rattle.list_laws.proofs.Members.{contains_first, contains_none}
use Rattle.list_laws.proofs.Places.{pushed_at}
use Rattle.jvm_model.specs.declared.number.ClassNo.{ClassNo}
use Rattle.jvm_model.specs.declared.number.FieldNo.{FieldNo}
use Rattle.jvm_model.specs.declared.number.MethodNo.{MethodNo}
use Rattle.jvm_model.specs.declared.site.Site.{Site}
use Rattle.jvm_model.specs.declared.site.SiteKind.TheVariants as kinds
use Rattle.jvm_model.specs.declared.stub.StubMethod.{StubMethod}
use Rattle.jvm_model.specs.Table.{null_pointer}
use Rattle.op_model.specs.declared.lowered.LoweredMethod.{LoweredMethod}
use Rattle.op_model.specs.declared.node.Node.{Node}
use Rattle.op_model.specs.declared.node.NodeHandler.{NodeHandler}
use Rattle.op_model.specs.declared.node.Spot.{Spot}
use Rattle.op_model.specs.declared.node.Spot.TheVariants as spots
use Rattle.op_model.specs.declared.op.Call.{Call as NodeCall}
use Rattle.op_model.specs.declared.op.Op.{Op}
use Rattle.op_model.specs.declared.op.Op.TheVariants.{Throw}
use Rattle.op_model.specs.Supplies.{Given, GivenAs}
use Rattle.machine_bytecode.specs.Described.{kept_by, ThrowsListed}
use Rattle.machine_bytecode.specs.Machine.{exception_class, Throwing, ThrowsNew, unwound}
use Rattle.machine_bytecode.specs.Objects.{Subject}
use Rattle.machine_bytecode.specs.States.{Value, null_value, reference_to, Object, Frame, throwing, State}
use Rattle.machine_bytecode.specs.States.{World, new_object, site_at, slot_at, with_kept, with_object}
use Rattle.machine_nodes.specs.Nodes.{IsClassNumber, StandsAt}
use Rattle.machine_nodes.specs.NodeSteps.{AtNode, Catches, GetsException, IsFirstTaking, Raises, Takes, Throws, Unwinds, Wraps}
use Rattle.machine_nodes.specs.Slots.{AreCaught}
use Rattle.points_to_rules.specs.Facts.{Fact, may_call, may_hold, thrown_by}
use Rattle.points_to_rules.specs.Rules.{Lands as LandsIn}
use Rattle.coverage.specs.Covering.{Covers, MayHold, StandsIn}
use Rattle.coverage.proofs.Advancing.{slots_here}
use Rattle.coverage.proofs.Calls.{inside_of, same_method}
use Rattle.coverage.proofs.Catches.{thrown_at}
use Rattle.coverage.proofs.Frames.{frames_are}
use Rattle.coverage.proofs.Slots.{operand_of}
use Rattle.coverage.proofs.Stubs.{fits_at}
use Rattle.coverage.proofs.Values.{among_from}
use Rattle.stage_facts.specs.Facts.{Says, SiteFact}
use Rattle.stage_facts.specs.Values.{field_in, of_slots, of_throw}
use Rattle.stage_transfer.specs.Calls.{by_trigger, Entering}
use Rattle.stage_transfer.specs.Exceptions.{thrown_slot}
use Rattle.stage_transfer.specs.Stages.{Transfer}
use Rattle.stage_relations.specs.Roots.{StaysIn}
use Rattle.stage_edges.specs.Rules.{before, Edge, edge, Enters, GoesTo, Instance, IsNode, IsStub, kept_slots, MayThrow, node_at, ThrowsClass}
use Rattle.stage_steps.specs.Said.{AreEqual, IsTracked, Results, SaysCaught}
use Rattle.stage_steps.proofs.Leaving.{left_exception_says, left_kept_says, waiting_agree}
use Rattle.stage_steps.proofs.Paths.{default_field, part_push, same_place, Unchanged}
use Rattle.stage_steps.proofs.Raising.{listed_says, raised_says, throw_says}
use Rattle.stage_soundness.specs.Describing.{AreWaiting, IsThrowing, Lands, method_of, Waits}
use Rattle.stage_soundness.proofs.Alike.{alike_node}
use Rattle.stage_soundness.proofs.Known.{Described, described_as, described_in, IsKnown, IsOfMethod, method_is}
use Rattle.stage_soundness.proofs.Known.{method_or_start, not_thrown, Premises, start_throws_not, tracked_in, variables_of}
use Rattle.stage_soundness.proofs.Placed.{number_as}
use Rattle.stage_soundness.proofs.Standing.{Stands, stands_at}
use Rattle.stage_soundness.proofs.Waiting.{behind_of, exit_edge, no_changes, triggered_by, triggered_of, waiting_on}

-- an operation that throws what a slot holds is a throw
throws_slot : (op : Op) (z : ℕ) → thrown_slot op ≡ Some z → op ≡ Throw z
throws_slot (Throw value) z e = ap Throw (same_Some _ _ e)
throws_slot _ z e = absurd (none-some z e)

-- the way of an object depends on its class and on the node's handlers alone
goes_as : (x : Subject) (n m : Node) (a b : List ℕ) (handler : Option ℕ) (spot : Spot) → m.handlers ≡ n.handlers → a ≡ b → GoesTo x m a handler spot
    → GoesTo x n b handler spot
goes_as x n m a b handler spot same class (GoesTo.caught h first) =
    GoesTo.caught h
    (subst (λ (hs : List NodeHandler). IsFirstTaking x.program b hs h) same (subst (λ (c : List ℕ). IsFirstTaking x.program c m.handlers h) class first))
goes_as x n m a b handler spot same class (GoesTo.uncaught none) =
    GoesTo.uncaught (λ h there takes.
    none h (subst (λ (hs : List NodeHandler). Contains hs h) (sym same) there) (subst (λ (c : List ℕ). Takes x.program h c) (sym class) takes))

module _ (x : Subject) (given : Given) (gives : GivenAs) (S : Fact → Type 0) (s : Site) (t : Transfer) (E : Edge → Type 0)
    (k : Premises x given gives S s t E) where
  -- ---- nodes that throw

  -- a throw raises for null alone, and starts no initialisation
  listed_plainly : (o : Option MethodNo) (l : LoweredMethod) (n : Node) → IsNode x gives o l n → (value : ℕ) (c : ClassNo) (class : List ℕ)
      → n.op ≡ Throw value → Contains n.throws c
      → IsClassNumber x.program c class → class ≡ exception_class null_pointer
  listed_plainly o l n is value c class op there is_class = elim (method_or_start x gives o l n is) [
    | inl m ↦ (k.plain m.method.0 l n m.given is.stands).listed value c class op there is_class
    | inr start ↦ absurd (start_throws_not x n value start op)
  ]

  throws_untriggered : (o : Option MethodNo) (l : LoweredMethod) (n : Node) → IsNode x gives o l n → (value : ℕ) (c : ClassNo) → n.op ≡ Throw value
      → n.trigger ≡ Some c → ⊥
  throws_untriggered o l n is value c op trigger = elim (method_or_start x gives o l n is) [
    | inl m ↦ none-some c (sym ((k.plain m.method.0 l n m.given is.stands).untriggered value op) ∙ trigger)
    | inr start ↦ start_throws_not x n value start op
  ]

  -- a node that a frame waits at throws no slot
  enters_slotless : (o : Option MethodNo) (l : LoweredMethod) (n : Node) (target : MethodNo) (fact sent : SiteFact) (by : Entering) → IsNode x gives o l n
      → Enters x S t o l n target fact by sent → thrown_slot n.op ≡ None
  enters_slotless o l n target fact sent by is (Enters.called c u op goes file listed) = ap thrown_slot op
  enters_slotless o l n target fact sent by is (Enters.triggered starts) = on (thrown_slot n.op) refl
    where
      on : (v : Option ℕ) → thrown_slot n.op ≡ v → thrown_slot n.op ≡ None
      on None e = e
      on (Some z) e = absurd (throws_untriggered o l n is z starts.trigger (throws_slot n.op z e) starts.is_trigger)

  -- ---- new objects that are thrown

  -- the object that is made
  abbrev made_by : Frame → List ℕ → Object
  made_by f class = new_object x.program (site_at kinds.Thrown f class) x.property.initial

  not_made : (f : Frame) (class : List ℕ) → site_at kinds.Thrown f class ≢ s
  not_made f class e = not_thrown x given gives S s t E k (sym (ap (λ (r : Site). r.kind) e))

  -- what a new object changes: no field
  push_unchanged : (w : World) (f : Frame) (class : List ℕ) (g : FieldNo) → Unchanged w.heap (with_object w (made_by f class)).heap g
  push_unchanged w f class g place = part_push (field_in g) w.heap (made_by f class) place (default_field x.program g)

  throws_new_good : (w : World) (f : Frame) (below : List Frame) (class : List ℕ) (after : State) (throws : ThrowsNew x w f below class after)
      (l : LoweredMethod) (n : Node)
      → IsNode x gives (method_of f) l n → n.offset ≡ f.offset → (entry fact : SiteFact) → E (edge (method_of f) entry (before n) fact)
      → AreEqual l n f.slots → (number : ClassNo)
      → Contains n.throws number → IsClassNumber x.program number class → ((z : ℕ) → n.op ≡ Throw z → slot_at f.slots z ≡ null_value) → (place : ℕ)
      → IsTracked s place after.world.heap
      → Says s fact place w (of_slots f.slots) → AreWaiting x gives S s t E w place below (method_of f) entry → Described x given gives S s t E k place after
  throws_new_good w f below class after throws l n is at entry fact held equal number there is_class of_null place tracked says waiting =
      let after_is : throws.world ≡ with_object w (made_by f class) = throws.makes.after_is in
      let thrown_is : throws.thrown ≡ length w.heap = same_place throws.thrown (length w.heap) throws.makes.made_is in
      described_as x given gives S s t E k place after _ throws.after (record {
        lowered = l;
        node = n;
        is_node = is;
        at = at;
        object = made_by f class;
        stands = ap (λ (y : World). slice_get y.heap throws.thrown) after_is ∙ ap (slice_get (w.heap ++ made_by f class ∷ [])) thrown_is ∙ pushed_at w.heap
            (made_by f class);
        entry = entry;
        lands = λ handler spot goes.
            let r = listed_says x S s t k.laws place l n handler throws.thrown fact w throws.world (made_by f class) f.slots (variables_of x gives k.whole
            (method_of f) l n is) equal after_is thrown_is
            (not_made f class) refl of_null (tracked_in x given gives S s t E k after _ place throws.after tracked) says in
            record {
              fact = r.fact;
              held = k.edges _ _ (Instance.raises (method_of f) l n entry fact r.fact class handler spot is (ThrowsClass.listed number there is_class) goes
                  r.listed) (held, tt);
              says = r.says;
            };
        waiting = waiting_on x given gives S s t E k place w throws.world below (method_of f) entry
            (λ m e. no_changes S m w.heap throws.world.heap (λ g. subst (λ (y : World). Unchanged w.heap y.heap g) (sym after_is) (push_unchanged w f class
            g))) waiting;
      })

  pub raises_good : (state after : State) (at : AtNode x given state) → Raises x given state after at → IsKnown x given gives S state → (place : ℕ)
      → IsTracked s place after.world.heap
      → Described x given gives S s t E k place state → Described x given gives S s t E k place after
  raises_good state after at a known place tracked d =
      let f = at.frame in
      let n = at.now.node in
      let h = stands_at x given gives S s t E k state at place d in
      throws_new_good state.world f at.below a.class after a.throws h.lowered n h.is_node h.at h.here.entry h.here.fact
      h.held (h.equal (known.alike at.runs f at.below at.frames)) a.number a.listed a.is_class
      (λ z op. a.of_null z op (listed_plainly (method_of f) h.lowered n h.is_node z a.number a.class op a.listed a.is_class)) place tracked h.here.says
      h.here.waiting

  -- ---- an object that a slot holds

  -- the class of the object, as the rules have it
  class_thrown : (state after : State) (at : AtNode x given state) (a : Throws x given state after at) → Covers x gives S state
      → (place : ℕ) (h : Stands x given gives S s t E k state.world place at.frame at.below at.now.node) → ThrowsClass x S h.lowered at.now.node a.thrown.to.object.class
  class_thrown state after at a covers place h = elim (method_or_start x gives (method_of f) h.lowered n h.is_node) [
    | inl m ↦ of_method m
    | inr start ↦ absurd (start_throws_not x n a.value start a.is_throw)
  ]
    where
      f : Frame
      f = at.frame

      n : Node
      n = at.now.node

      to_object : Object
      to_object = a.thrown.to.object

      of_method : IsOfMethod x gives (method_of f) h.lowered → ThrowsClass x S h.lowered n to_object.class
      of_method m =
          let heap = state.world.heap in
          let to = a.thrown.to in
          let here : StandsIn gives f m.method h.lowered n =
          record { in_method = method_is f m.method m.is; node = record { given = m.given; stands = h.is_node.stands }; at = h.at } in
          let frames = frames_are x gives S heap state.frames at.below f at.frames covers.frames in
          let o = operand_of x gives S k.points k.whole m.method h.lowered n (Throw a.value) a.value heap f.slots here.node a.is_throw
          (contains_first a.value [])
          (slots_here x given gives S k.map k.points k.whole heap f m.method h.lowered n here frames.0) in
          ThrowsClass.held a.value o.holder to.object.site a.is_throw o.slot (among_from (MayHold S o.holder) heap (slot_at f.slots a.value) to.place
          to.object o.covered to.is to.held)
          (fits_at x gives S state.world covers.world (codes "java/lang/Throwable") (slot_at f.slots a.value) a.thrown to.place to.object to.is to.held)
          (covers.world.objects to.place to.object to.held).of_class

  pub throws_good : (state after : State) (at : AtNode x given state) → Throws x given state after at → IsKnown x given gives S state → (place : ℕ)
      → IsTracked s place after.world.heap
      → Described x given gives S s t E k place state → Described x given gives S s t E k place after
  throws_good state after at a known place tracked d =
      let f = at.frame in
      let n = at.now.node in
      let to = a.thrown.to in
      let h = stands_at x given gives S s t E k state at place d in
      described_as x given gives S s t E k place after _ a.after (record {
        lowered = h.lowered;
        node = n;
        is_node = h.is_node;
        at = h.at;
        object = to.object;
        stands = to.held;
        entry = h.here.entry;
        lands = λ handler spot goes.
            let r = throw_says x S s t k.laws place h.lowered n a.value handler to.place h.here.fact state.world f.slots h.variables
            (h.equal (known.alike at.runs f at.below at.frames)) a.is_throw to.is
            h.here.says in
            record {
              fact = r.fact;
              held = k.edges _ _ (Instance.raises (method_of f) h.lowered n h.here.entry h.here.fact r.fact to.object.class handler spot h.is_node
                  (class_thrown state after at a known.covers place h) goes r.listed)
                  (h.held, tt);
              says = r.says;
            };
        waiting = h.here.waiting;
      })

  -- ---- where an object lands

  -- the object that a frame throws goes from the node at which a step finds the frame
  module _ (state : State) (at : Throwing state) (place : ℕ) (d : IsThrowing x gives S s t E state.world place at.place at.frame at.below) where
    landing : (now : StandsAt x given at.frame) (handler : Option ℕ) (spot : Spot) → GoesTo x now.node at.object.class handler spot
        → Lands s E state.world place at.place at.frame d.lowered.slots d.entry handler spot
    landing now handler spot goes =
        let alike = (alike_node x given gives S s t E k at.frame now d.lowered d.node d.is_node d.at).0 in
        let same : at.object ≡ d.object = same_Some at.object d.object (sym at.held ∙ d.stands) in
        d.lands handler spot (goes_as x d.node now.node at.object.class d.object.class handler spot alike.handlers (ap (λ (o : Object). o.class) same) goes)

    caught_here : (after : State) → Catches x given state after at → Described x given gives S s t E k place after
    caught_here after a =
        let f = at.frame in
        let lands = landing a.now (Some a.handler.target) (spots.Node a.handler.target) (GoesTo.caught a.handler a.first) in
        let locals : a.now.locals ≡ d.lowered.slots = (alike_node x given gives S s t E k f a.now d.lowered d.node d.is_node d.at).1 in
        described_as x given gives S s t E k place after _ a.after (record {
          entry = d.entry;
          fact = lands.fact;
          held = lands.held;
          says = lands.says a.left (subst (λ (count : ℕ). AreCaught count (reference_to at.place) f.slots a.left) locals a.are_caught);
          waiting = d.waiting;
        })

  -- what a state says that throws
  throwing_here : (state : State) (at : Throwing state) (place : ℕ) → Described x given gives S s t E k place state
      → IsThrowing x gives S s t E state.world place at.place at.frame at.below
  throwing_here state at place d = described_in x given gives S s t E k place state (throwing at.place) at.frame at.below at.throws at.frames d

  pub catches_good : (state after : State) (at : Throwing state) → Catches x given state after at → IsKnown x given gives S state → (place : ℕ)
      → IsTracked s place after.world.heap
      → Described x given gives S s t E k place state → Described x given gives S s t E k place after
  catches_good state after at a known place tracked d = caught_here state at place (throwing_here state at place d) after a

  -- ---- frames that go

  -- what leaves a method that has no handler for it
  may_throw : (state : State) (at : Throwing state) (now : StandsAt x given at.frame) → Covers x gives S state
      → ((h : NodeHandler) → Contains now.node.handlers h → Takes x.program h at.object.class → ⊥) → (called : MethodNo) → method_of at.frame ≡ Some called
      → MayThrow S called at.object.class
  may_throw state at now covers none called is =
      let in_method = method_is at.frame called is in
      let i = inside_of x given gives S k.map k.points k.whole at.frame now called.0 in_method in
      let held = thrown_at x given gives S k.map k.points k.whole state at covers i.method i.lowered now.node (thrown_by i.method) i.here
      (LandsIn.uncaught none refl) in (
        at.object.site,
        subst (λ (m : MethodNo). S (may_hold (thrown_by m) at.object.site)) (same_method at.frame.method i.method called i.here.in_method in_method) held,
        (covers.world.objects at.place at.object at.held).of_class,
      )

  module _ (now : World) (place thrown : ℕ) (class : List ℕ) (caller : Frame) (called : MethodNo) (entry out : SiteFact)
      (w : Waits x gives S s t E now place caller called entry)
      (held : E (edge (Some called) (t.enter w.by w.sent) spots.Thrown out)) (says : Says s out place now (of_throw thrown))
      (throws : MayThrow S called class) where
    caller_lands : (handler : Option ℕ) (spot : Spot) → GoesTo x w.node class handler spot
        → Lands s E now place thrown caller w.lowered.slots w.own handler spot
    caller_lands handler spot goes =
        let l = w.lowered in
        let n = w.node in
        let o = method_of caller in
        let behind = behind_of x given gives S s t E k now place caller called entry w in
        let left = left_exception_says x S s t k.laws place l n w.by called w.sent now caller.slots behind thrown out says in
        let r = raised_says x S s t k.laws place l n handler thrown (t.leave l n w.by called w.sent out) now caller.slots (variables_of x gives k.whole o l n
        w.is_node)
        (waiting_agree S s place now w.by called w.sent caller.slots l n behind w.alike) (enters_slotless o l n called w.fact w.sent w.by w.is_node w.enters)
        left in
        record {
          fact = r.fact;
          held = k.edges _ _ (Instance.unwinds o l n w.own w.fact w.sent out r.fact called w.by class handler spot w.is_node w.enters throws goes r.listed)
              (w.held, (held, tt));
          says = r.says;
        }

  unwound_good : (state : State) (at : Throwing state) (now : StandsAt x given at.frame) (place : ℕ) → Covers x gives S state
      → ((h : NodeHandler) → Contains now.node.handlers h → Takes x.program h at.object.class → ⊥) → (entry out : SiteFact)
      → E (edge (method_of at.frame) entry spots.Thrown out)
      → Says s out place state.world (of_throw at.place) → (below : List Frame) → AreWaiting x gives S s t E state.world place below (method_of at.frame) entry
      → Described x given gives S s t E k place (unwound below state.world at.place)
  unwound_good state at now place covers none entry out held says [] waiting = record {
    spot = spots.Thrown;
    exit = tt;
    fact = out;
    held = subst (λ (e : SiteFact). E (edge None e spots.Thrown out)) waiting.1 (subst (λ (m : Option MethodNo). E (edge m entry spots.Thrown out)) waiting.0
        held);
    says = inr (at.place, says);
  }
  unwound_good state at now place covers none entry out held says (caller ∷ rest) waiting =
      let w = waiting.first in
      record {
        lowered = w.lowered;
        node = w.node;
        is_node = w.is_node;
        at = w.at;
        object = at.object;
        stands = at.held;
        entry = w.own;
        lands = λ handler spot goes.
            let lands = caller_lands state.world place at.place at.object.class caller waiting.called entry out w (exit_edge x given gives S s t E k (method_of at.frame)
            waiting.called entry (t.enter w.by w.sent) out spots.Thrown waiting.is_called w.entered held)
            says (may_throw state at now covers none waiting.called waiting.is_called) handler spot goes in
            record { fact = lands.fact; held = lands.held; says = lands.says };
        waiting = waiting.rest;
      }

  pub unwinds_good : (state after : State) (at : Throwing state) → Unwinds x given state after at → IsKnown x given gives S state → (place : ℕ)
      → IsTracked s place after.world.heap
      → Described x given gives S s t E k place state → Described x given gives S s t E k place after
  unwinds_good state after at a known place tracked d =
      let h = throwing_here state at place d in
      let out = landing state at place h a.uncaught.now None spots.Thrown (GoesTo.uncaught a.uncaught.none) in
      described_as x given gives S s t E k place after _ a.after
      (unwound_good state at a.uncaught.now place known.covers a.uncaught.none h.entry out.fact out.held out.says at.below h.waiting)

  -- ---- initialisers that are left

  module _ (now : World) (place thrown : ℕ) (caller : Frame) (rest : List Frame) (called : MethodNo) (entry out : SiteFact)
      (w : Waits x gives S s t E now place caller called entry)
      (held : E (edge (Some called) (t.enter w.by w.sent) spots.Thrown out)) (says : Says s out place now (of_throw thrown)) where
    wrapped_good : (after : State) (caller_at : StandsAt x given caller) (number : ClassNo) (class : List ℕ) → caller.waits ≡ false
        → Contains caller_at.node.throws number
        → IsClassNumber x.program number class → ThrowsNew x (with_kept now (thrown ∷ [])) caller rest class after → IsTracked s place after.world.heap
        → AreWaiting x gives S s t E now place rest (method_of caller) w.own → Described x given gives S s t E k place after
    wrapped_good after caller_at number class awake listed is_class throws tracked waiting =
        let l = w.lowered in
        let n = w.node in
        let o = method_of caller in
        let kept = with_kept now (thrown ∷ []) in
        let by_is : w.by ≡ by_trigger = triggered_of w.by (sym awake ∙ w.waits) in
        let is = triggered_by x given gives S s t E k o l n called w.fact w.by w.sent w.enters by_is in
        let out_held = subst (λ (e : SiteFact). E (edge (Some called) e spots.Thrown out)) is.entered held in
        let alike = (alike_node x given gives S s t E k caller caller_at l n w.is_node w.at).0 in
        throws_new_good kept caller rest class after throws l n w.is_node w.at w.own (t.leave l n by_trigger called w.fact out)
        (k.edges _ _ (Instance.resumes o l n w.own w.fact out called spots.Thrown w.is_node is.starts tt) (w.held, (out_held, tt)))
        (λ y z same. w.stays y (stays_all y by_is) ∙ w.alike y z same ∙ sym (w.stays z (stays_all z by_is))) number (alike.throws number class listed
        is_class) is_class
        (λ z op. absurd (throws_untriggered o l n w.is_node z is.starts.trigger op is.starts.is_trigger)) place tracked
        (subst (λ (g : SiteFact). Says s g place kept (of_slots caller.slots)) (is.left out)
        (left_kept_says x S s t k.laws place l n w.by called w.sent now caller.slots (behind_of x given gives S s t E k now place caller called entry w) by_is thrown out says))
        (waiting_on x given gives S s t E k place now kept rest o w.own (λ m e. no_changes S m now.heap kept.heap (λ g p. refl)) waiting)
      where
        stays_all : (z : ℕ) → w.by ≡ by_trigger → StaysIn w.by z
        stays_all z e = subst (λ (b : Entering). StaysIn b z) (sym e) (contains_none z)

  pub wraps_good : (state after : State) (at : Throwing state) → Wraps x given state after at → IsKnown x given gives S state → (place : ℕ)
      → IsTracked s place after.world.heap
      → Described x given gives S s t E k place state → Described x given gives S s t E k place after
  wraps_good state after at a known place tracked d =
      let h = throwing_here state at place d in
      let f = at.frame in
      let out = landing state at place h a.uncaught.now None spots.Thrown (GoesTo.uncaught a.uncaught.none) in
      let b : AreWaiting x gives S s t E state.world place (a.caller ∷ a.rest) (method_of f) h.entry =
      subst (λ (fs : List Frame). AreWaiting x gives S s t E state.world place fs (method_of f) h.entry) a.below h.waiting in
      let w = b.first in
      wrapped_good state.world place at.place a.caller a.rest b.called h.entry out.fact w (exit_edge x given gives S s t E k (method_of f) b.called h.entry
      (t.enter w.by w.sent) out.fact spots.Thrown b.is_called w.entered out.held) out.says
      after a.caller_at a.number _ a.triggered a.listed a.is_class a.throws tracked b.rest

  -- ---- described methods that throw

  -- what a call of a described method throws, and what is said of it where it goes
  pub record IsThrownBy (frame : Frame) (l : LoweredMethod) (n : Node) (c : NodeCall) (target place thrown : ℕ) (sent : SiteFact) (after : World) : Type 0 where
    pub stub : StubMethod
    pub parameters : List (List ℕ)
    pub is_stub : IsStub x (number_as target) stub parameters
    pub class : List ℕ
    pub listed : Contains stub.throws class
    pub stands : slice_get after.heap thrown ≡ Some (made_by frame class)
    pub results : (handler : Option ℕ)
        → Results (t.exception l n (kept_slots c stub parameters) handler sent) (λ g. SaysCaught s g place after frame.slots l.slots thrown handler)

  -- what a described method keeps and throws changes no field
  exception_unchanged : (w after : World) (f : Frame) (target thrown : ℕ) (units : List Value) → ThrowsListed x target f units w thrown after → (g : FieldNo)
      → Unchanged w.heap after.heap g
  exception_unchanged w after f target thrown units throws g =
      subst (λ (y : World). Unchanged w.heap y.heap g) (sym throws.makes.after_is) (push_unchanged (kept_by x target throws.called units w) f throws.class g)

  pub gets_exception_good : (state after : State) (at : AtNode x given state) (a : GetsException x given state after at) (place : ℕ)
      → (h : Stands x given gives S s t E k state.world place at.frame at.below at.now.node)
      → (r : Results (t.event h.lowered at.now.node a.calls.call h.here.fact) (λ g. Says s g place a.calls.world (of_slots at.frame.slots)))
      → S (may_call (node_at (method_of at.frame) at.now.node) (number_as a.calls.target)) → ((g : FieldNo) → Unchanged state.world.heap a.calls.world.heap g)
      → IsThrownBy at.frame h.lowered at.now.node a.calls.call a.calls.target place a.thrown r.fact a.world → Described x given gives S s t E k place after
  gets_exception_good state after at a place h r goes quiet is =
      let f = at.frame in
      let n = at.now.node in
      let c = a.calls.call in
      described_as x given gives S s t E k place after _ a.after (record {
        lowered = h.lowered;
        node = n;
        is_node = h.is_node;
        at = h.at;
        object = made_by f is.class;
        stands = is.stands;
        entry = h.here.entry;
        lands = λ handler spot way.
            let g = is.results handler in
            record {
              fact = g.fact;
              held = k.edges _ _ (Instance.described_raises (method_of f) h.lowered n h.here.entry h.here.fact r.fact g.fact c (number_as a.calls.target) is.stub
                  is.parameters is.class handler spot h.is_node
                  a.calls.is_call goes is.is_stub is.listed way r.listed g.listed) (h.held, tt);
              says = g.says;
            };
        waiting = waiting_on x given gives S s t E k place state.world a.world at.below (method_of f) h.here.entry
            (λ m e. no_changes S m state.world.heap a.world.heap
            (λ g q. exception_unchanged a.calls.world a.world f a.calls.target a.thrown _ a.throws g q ∙ quiet g q)) h.here.waiting;
      })
