-- Objects in flight: handlers that take them, frames that go, initialisers that are left, and exceptions of described methods.
use Rattle.std.proofs.Common.{◌≡◌, ◌⊎◌, inl, inr, ℕ, ◌+◌, ◌<◌, Bool, true, false, List, [], ◌∷◌, Some, Ok, Contains, refl, sym, ap, ◌∙◌, subst}
use Rattle.std.proofs.Math.Nat.{eq-or-lt_of_le}
use Rattle.std.proofs.lemmas.Bool.{cases_lt}
use Rattle.std.proofs.lemmas.Option.{same_Some, none-some}
use Rattle.list_laws.proofs.Members.{contains_cases, contains_none}
use Rattle.list_laws.proofs.Places.{contains_at}
use Rattle.jvm_model.specs.declared.number.MethodNo.{MethodNo}
use Rattle.jvm_model.specs.declared.site.SiteKind.TheVariants as kinds
use Rattle.least_sets.specs.Rules.{IsClosedSet}
use Rattle.op_model.specs.declared.lowered.LoweredMethod.{LoweredMethod}
use Rattle.op_model.specs.declared.node.Node.{Node}
use Rattle.op_model.specs.declared.node.NodeRef.{NodeRef}
use Rattle.op_model.specs.Supplies.{Given, GivenAs, IsMapOf}
use Rattle.machine_bytecode.specs.Described.{DescribedMethod}
use Rattle.machine_bytecode.specs.Machine.{Throwing, unwound}
use Rattle.machine_bytecode.specs.Objects.{Subject}
use Rattle.machine_bytecode.specs.States.{primitive_value, reference_to, Object, Frame, Mode, throwing, State, World, moved_to, waiting_no_more, slot_at, with_kept}
use Rattle.machine_nodes.specs.Nodes.{HasNodes, of_start, of_method, StandsAt}
use Rattle.machine_nodes.specs.NodeSteps.{AtNode, GetsException, Catches, IsUncaught, Unwinds, Wraps}
use Rattle.slot_names.specs.declared.variable.Variable.{Variable}
use Rattle.slot_names.specs.Variables.{IsVariable}
use Rattle.points_to_rules.specs.Calls.{IsOfFile}
use Rattle.points_to_rules.specs.Facts.{Holder, variable, kept_objects, thrown_by, Fact, may_hold, may_call}
use Rattle.points_to_rules.specs.Rules.{IsSlotAt, Lands, caught, uncaught, node_of, site_of, Instance, handle, target_throws, described_throws, initialiser_throws, keep_thrown}
use Rattle.points_to_rules.specs.WholeMethods.{AreWholeMethods}
use Rattle.coverage.proofs.RefusedCalls.{HasNoRefusedCall}
use Rattle.coverage.specs.References.{LeadsTo, IsCovered}
use Rattle.coverage.specs.Sites.{of_node, of_thrown}
use Rattle.coverage.specs.Covering.{MayHold, StandsIn, IsCoveredFrame, IsCoveredCaller, AreCoveredBelow, IsCoveredThrow, IsCoveredMode, Covers}
use Rattle.coverage.proofs.Values.{covered_by, covered_as}
use Rattle.coverage.proofs.Worlds.{kept_later}
use Rattle.coverage.proofs.Frames.{frame_on, below_on, frames_are, caller_is}
use Rattle.coverage.proofs.Places.{stands_in, node_is}
use Rattle.coverage.proofs.Slots.{named}
use Rattle.coverage.proofs.Calls.{same_method, one_node, of_file, IsInside, inside_of, IsCalled, called_by}
use Rattle.coverage.proofs.Stubs.{site_is, described, kept_world, kept_covered}
use Rattle.slot_names.proofs.Frames.{among_handlers}
use Rattle.coverage.proofs.Throws.{LandsAll, throws_new_covers, raise_lands, thrown_site}

module _ (x : Subject) (given : Given) (gives : GivenAs) (S : Fact → Type 0) (map : IsMapOf given gives) (closed : IsClosedSet (Instance x.program gives (record { 0 = x.entry })) S)
    (whole : AreWholeMethods x.program gives) where
  -- how many slots of a frame are local variables
  locals_of : (f : Frame) (now : StandsAt x given f) (m : MethodNo) (l : LoweredMethod) → f.method ≡ Some m.0 → gives m.0 (Ok l) → now.locals ≡ l.slots
  locals_of f now m l is is_given = by now.of_method
    where
      same : (a b : ℕ) (k j : LoweredMethod) → a ≡ b → given a ≡ Some (Ok k) → given b ≡ Some (Ok j) → k ≡ j
      same a b k j e first second = let both : given a ≡ given b = ap given e in cc

      by : HasNodes x given f now.locals now.nodes → now.locals ≡ l.slots
      by (of_start no_method are e) = absurd (none-some m.0 (sym no_method ∙ is))
      by (of_method other k in_other is_other e count) =
          count ∙ ap (λ (j : LoweredMethod). j.slots) (same other m.0 k l (same_Some other m.0 (sym in_other ∙ is)) is_other ((map.entries m.0 (Ok l)).1 is_given))

  -- ---- the object that a state throws

  pub thrown_at : (s : State) (at : Throwing s) → Covers x gives S s → (m : MethodNo) (l : LoweredMethod) (n : Node) (to : Holder) → StandsIn gives at.frame m l n → Lands x.program m l n at.object.class to
      → S (may_hold to at.object.site)
  thrown_at s at c m l n to here landing =
      let in_mode : IsCoveredMode x.program gives S s.world.heap (throwing at.place) s.frames = subst (λ (mode : Mode). IsCoveredMode x.program gives S s.world.heap mode s.frames) at.throws c.mode in
      let t : IsCoveredThrow x.program gives S s.world.heap at.frame at.place = subst (λ (fs : List Frame). IsCoveredMode x.program gives S s.world.heap (throwing at.place) fs) at.frames in_mode in
      let same : t.object ≡ at.object = same_Some t.object at.object (sym t.held ∙ at.held) in
      subst (λ (o : Object). Lands x.program m l n o.class to → S (may_hold to o.site)) same (t.lands m l n to here) landing

  -- what leaves a method that has no handler for it
  left_with : (s : State) (at : Throwing s) → Covers x gives S s → (k : MethodNo) → at.frame.method ≡ Some k.0 → IsUncaught x given at.frame at.object.class → S (may_hold (thrown_by k) at.object.site)
  left_with s at c k is u =
      let i = inside_of x given gives S map closed whole at.frame u.now k.0 is in
      subst (λ (m : MethodNo). S (may_hold (thrown_by m) at.object.site)) (same_method at.frame.method i.method k i.here.in_method is)
      (thrown_at s at c i.method i.lowered u.now.node (thrown_by i.method) i.here (uncaught u.none refl))

  -- ---- handlers

  pub catches_cover : (s t : State) (at : Throwing s) → Catches x given s t at → Covers x gives S s → Covers x gives S t
  catches_cover s t at a c =
      subst (λ (u : State). Covers x gives S u) (sym a.after) (record {
        world = c.world;
        frames = (record { runs = frames.0.runs; slots = λ m l k z v there inside named. slots m l k z v there inside named (place_of z a.now.locals) }, refl, frames.2);
        mode = tt;
      })
    where
      frames : IsCoveredFrame gives S s.world.heap at.frame × (at.frame.waits ≡ false) × AreCoveredBelow x gives S s.world.heap at.below at.frame.method
      frames = frames_are x gives S s.world.heap s.frames at.below at.frame at.frames c.frames

      place_of : (z locals : ℕ) → (z < locals) ⊎ ((locals ≡ z) ⊎ (locals < z))
      place_of z locals = elim (cases_lt z locals) [ inl lt ↦ inl lt | inr le ↦ inr (eq-or-lt_of_le le) ]

      slots : (m : MethodNo) (l : LoweredMethod) (k : Node) (z : ℕ) (v : Variable) → StandsIn gives (moved_to at.frame a.handler.target a.left) m l k → z < l.slots + l.stack → IsVariable l k z v
          → (z < a.now.locals) ⊎ ((a.now.locals ≡ z) ⊎ (a.now.locals < z)) → IsCovered (MayHold S (variable v)) s.world.heap (slot_at a.left z)
      slots m l k z v there inside after (inl lt) =
          let here = stands_in x given gives map at.frame a.now m l there.in_method there.node.given in
          let w = named x gives S closed whole m l a.now.node z here.node in
          let local : z < l.slots = subst (λ (n : ℕ). z < n) (locals_of at.frame a.now m l there.in_method there.node.given) lt in
          let handles = among_handlers x.program at.object.class a.now.node.handlers a.handler a.first in
          covered_as (MayHold S (variable v)) s.world.heap (slot_at at.frame.slots z) _ (a.are_caught.kept z lt)
          (covered_by (MayHold S (variable w.0)) (MayHold S (variable v)) s.world.heap (slot_at at.frame.slots z)
          (λ site held. closed _ _ (handle m l a.now.node a.handler z (variable w.0) (variable v) site here.node handles local (record { name = w.0; named = w.1; is = refl })
          (record { node = k; stands = there.node.stands; at = there.at; slot = record { name = v; named = after; is = refl } })) (frames.0.runs m there.in_method, (held, tt)))
          (frames.0.slots m l a.now.node z w.0 here inside w.1))
      slots m l k z v there inside after (inr (inl e)) =
          let here = stands_in x given gives map at.frame a.now m l there.in_method there.node.given in
          let first : l.slots ≡ z = sym (locals_of at.frame a.now m l there.in_method there.node.given) ∙ e in
          let slot : IsSlotAt l a.handler.target l.slots (variable v) =
          subst (λ (y : ℕ). IsSlotAt l a.handler.target y (variable v)) (sym first) (record { node = k; stands = there.node.stands; at = there.at; slot = record { name = v; named = after; is = refl } }) in
          let leads : LeadsTo (MayHold S (variable v)) s.world.heap at.place = record {
            object = at.object;
            held = at.held;
            among = thrown_at s at c m l a.now.node (variable v) here (caught a.handler a.first slot);
          } in
          covered_as (MayHold S (variable v)) s.world.heap (reference_to at.place) _ (ap (slot_at a.left) (sym e) ∙ a.are_caught.given) leads
      slots m l k z v there inside after (inr (inr gt)) = covered_as (MayHold S (variable v)) s.world.heap primitive_value _ (a.are_caught.cleared z gt) tt

  -- ---- frames that go

  pub unwinds_cover : (s t : State) (at : Throwing s) → Unwinds x given s t at → Covers x gives S s → Covers x gives S t
  unwinds_cover s t at a c =
      subst (λ (u : State). Covers x gives S u) (sym a.after) (by at.below frames.2)
    where
      frames : IsCoveredFrame gives S s.world.heap at.frame × (at.frame.waits ≡ false) × AreCoveredBelow x gives S s.world.heap at.below at.frame.method
      frames = frames_are x gives S s.world.heap s.frames at.below at.frame at.frames c.frames

      own : at.object.class ≡ at.object.site.class
      own = (c.world.objects at.place at.object at.held).of_class

      lands : (f : Frame) (b : IsCoveredCaller x gives S s.world.heap f at.frame.method) (m : MethodNo) (l : LoweredMethod) (n : Node) (to : Holder) → StandsIn gives f m l n
          → Lands x.program m l n at.object.class to → (w : Bool) → f.waits ≡ w → S (may_hold to at.object.site)
      lands f b m l n to here landing true waits =
          let k = b.called in
          let call = b.for_call waits in
          let passed = call.passed m l n here in
          let i = inside_of x given gives S map closed whole at.frame a.uncaught.now k.0 b.is_called in
          let file : IsOfFile x.program k =
          subst (λ (j : MethodNo). IsOfFile x.program j) (same_method at.frame.method i.method k i.here.in_method b.is_called)
          (of_file x given gives S map closed whole i.method i.lowered i.here.node.given) in
          let target : S (may_call (node_of m n) k) = subst (λ (r : NodeRef). S (may_call r k)) (node_is gives f m l n here) call.target in
          closed _ _ (target_throws m l n passed.call k to at.object.site here.node passed.is_call file (subst (λ (d : List ℕ). Lands x.program m l n d to) own landing))
          (b.frame.runs m here.in_method, (target, (left_with s at c k b.is_called a.uncaught, tt)))
      lands f b m l n to here landing false waits =
          let k = b.called in
          closed _ _ (initialiser_throws m l n k to at.object.site here.node ((b.for_initialiser waits).starts m l n here) (subst (λ (d : List ℕ). Lands x.program m l n d to) own landing))
          (b.frame.runs m here.in_method, (left_with s at c k b.is_called a.uncaught, tt))

      stands_still : (f : Frame) (m : MethodNo) (l : LoweredMethod) (n : Node) → StandsIn gives (waiting_no_more f) m l n → StandsIn gives f m l n
      stands_still f m l n here = record { in_method = here.in_method; node = here.node; at = here.at }

      by : (below : List Frame) → AreCoveredBelow x gives S s.world.heap below at.frame.method → Covers x gives S (unwound below s.world at.place)
      by [] b = record { world = c.world; frames = tt; mode = tt }
      by (f ∷ rest) b = record {
        world = c.world;
        frames = (
          record { runs = b.0.frame.runs; slots = λ m l n z v here inside named. b.0.frame.slots m l n z v (stands_still f m l n here) inside named },
          refl,
          b.1,
        );
        mode = record { object = at.object; held = at.held; lands = λ m l n to here landing. lands f b.0 m l n to (stands_still f m l n here) landing f.waits refl };
      }

  -- ---- initialisers that are left

  pub wraps_cover : (s t : State) (at : Throwing s) → Wraps x given s t at → Covers x gives S s → Covers x gives S t
  wraps_cover s t at a c =
      let heap = s.world.heap in
      let frames = frames_are x gives S heap s.frames at.below at.frame at.frames c.frames in
      let below = caller_is x gives S heap at.below a.rest a.caller at.frame.method a.below frames.2 in
      let k = below.0.called in
      let waits = below.0.for_initialiser a.triggered in
      let out = left_with s at c k below.0.is_called a.uncaught in
      let keeps : S (may_hold kept_objects at.object.site) = closed _ _ (keep_thrown waits.premises k at.object.site waits.may_start) (out, waits.hold) in
      let later = kept_later x gives S s.world (at.place ∷ []) (λ place there. elim (contains_cases at.place place [] there) [
        | inl e ↦ subst (λ (p : ℕ). LeadsTo (MayHold S kept_objects) heap p) e (record { object = at.object; held = at.held; among = keeps })
        | inr none ↦ absurd (contains_none place none)
      ]) c.world in
      throws_new_covers x given gives S map closed whole (with_kept s.world (at.place ∷ [])) a.caller a.rest _ t a.throws later.covered
      (thrown_site x given gives S map closed whole heap a.caller a.caller_at a.number _ a.listed a.is_class below.0.frame) below.0.frame a.triggered below.1
      (raise_lands x given gives S map closed whole heap a.caller a.caller_at a.number _ a.listed a.is_class below.0.frame)

  -- ---- exceptions of described methods

  pub gets_exception_covers : HasNoRefusedCall x.program gives S → (s t : State) (at : AtNode x given s) → GetsException x given s t at → Covers x gives S s → Covers x gives S t
  gets_exception_covers unrefused s t at a c =
      throws_new_covers x given gives S map closed whole after at.frame at.below a.throws.class t
      (record { thrown = a.thrown; world = a.world; makes = a.throws.makes; after = a.after }) (kept_covered x given gives S map closed whole unrefused s at a.calls i first d).covered
      (of_node i.method i.lowered at.now.node (first.frame.runs i.method i.here.in_method) i.here.node
      (of_thrown a.calls.call (record { 0 = a.calls.target }) d.stub a.throws.class a.calls.is_call first.targeted.called (described x given gives S map closed whole unrefused s at a.calls i first d) listed
      (site_is kinds.Thrown gives at.frame i.method i.lowered at.now.node a.throws.class i.here)))
      (frame_on x gives S s.world.heap after.heap at.frame first.later.grows first.frame) first.runs_still (below_on x gives S s.world.heap after.heap at.below at.frame.method first.later.grows first.below)
      (λ m l n to there landing. lands m l n to there landing)
    where
      d : DescribedMethod x a.calls.target
      d = a.throws.called

      call : (i : IsInside x given gives S map closed whole at.frame at.now.node) → IsCalled x given gives S map closed whole unrefused s at a.calls i
      call i = called_by x given gives S map closed whole unrefused s at a.calls i d.method d.stands c

      i : IsInside x given gives S map closed whole at.frame at.now.node
      i = inside_of x given gives S map closed whole at.frame at.now a.calls.number a.calls.in_method

      first : IsCalled x given gives S map closed whole unrefused s at a.calls i
      first = call i

      after : World
      after = kept_world x given gives S map closed whole unrefused s at a.calls i first d

      listed : Contains d.stub.throws a.throws.class
      listed = contains_at d.stub.throws a.throws.place a.throws.class a.throws.listed

      lands : LandsAll x given gives S map closed whole at.frame a.throws.class
      lands m l n to there landing =
          let here = stands_in x given gives map at.frame at.now m l there.in_method there.node.given in
          let same = one_node x given gives S map closed whole at.frame m l at.now.node n here there in
          let j : IsInside x given gives S map closed whole at.frame at.now.node = record { method = m; lowered = l; here = here } in
          let is = call j in
          subst (λ (k : Node). Lands x.program m l k a.throws.class to → S (may_hold to (site_of kinds.Thrown m k a.throws.class))) same
          (λ landing_here. closed _ _ (described_throws m l at.now.node a.calls.call (record { 0 = a.calls.target }) d.stub a.throws.class to here.node a.calls.is_call
          (described x given gives S map closed whole unrefused s at a.calls j is d) listed landing_here) (is.frame.runs m there.in_method, (is.targeted.called, tt))) landing
