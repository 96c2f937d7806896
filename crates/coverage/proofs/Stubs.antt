-- Calls of methods that stubs describe: what they keep and give is covered.
use Rattle.std.proofs.Common.{◌≡◌, inl, inr, ℕ, false, List, [], Option, Some, Contains, refl, sym, ap, ◌∙◌, subst}
use Rattle.std.specs.Prelude.{slice_get}
use Rattle.std.specs.List.{flat_map}
use Rattle.std.proofs.lemmas.Option.{same_Some}
use Rattle.list_laws.proofs.Members.{contains_cases, contains_none}
use Rattle.list_laws.proofs.Places.{contains_at}
use Rattle.jvm_model.specs.declared.number.MethodNo.{MethodNo}
use Rattle.jvm_model.specs.declared.site.Site.{Site}
use Rattle.jvm_model.specs.declared.site.SiteKind.{SiteKind}
use Rattle.jvm_model.specs.declared.site.SiteKind.TheVariants as kinds
use Rattle.jvm_model.specs.declared.stub.StubArgument.{StubArgument}
use Rattle.jvm_model.specs.declared.stub.StubResult.{StubResult}
use Rattle.jvm_model.specs.declared.stub.StubResult.TheVariants as results
use Rattle.jvm_model.specs.Subtypes.{Fits}
use Rattle.least_sets.specs.Rules.{IsClosedSet}
use Rattle.op_model.specs.declared.lowered.LoweredMethod.{LoweredMethod}
use Rattle.op_model.specs.declared.node.Node.{Node}
use Rattle.op_model.specs.Supplies.{Given, GivenAs, IsMapOf}
use Rattle.machine_bytecode.specs.Described.{DescribedMethod, argument_unit, argument_value, places_of, kept_by, Gives}
use Rattle.machine_bytecode.specs.Objects.{Subject, IsOf}
use Rattle.machine_bytecode.specs.States.{Value, primitive_value, null_value, reference_to, Object, Frame, State, World, slot_at, site_at}
use Rattle.machine_nodes.specs.NodeSteps.{AtNode, Calls, GetsResult}
use Rattle.machine_nodes.specs.Slots.{argument_values, argument_slots}
use Rattle.slot_names.specs.Variables.{effect_on}
use Rattle.points_to_rules.specs.Calls.{IsDescribedBy}
use Rattle.points_to_rules.specs.Facts.{Holder, kept_objects, Fact, may_hold, may_run}
use Rattle.points_to_rules.specs.Rules.{IsSlotAfter, IsArgument, site_of, Instance, keep_argument, give_argument, give_new, give_kept}
use Rattle.points_to_rules.specs.WholeMethods.{AreWholeMethods}
use Rattle.points_to_rules.proofs.Flattened.{among_flat}
use Rattle.coverage.proofs.RefusedCalls.{HasNoRefusedCall}
use Rattle.coverage.specs.References.{LeadsTo, IsCovered}
use Rattle.coverage.specs.Sites.{of_node, of_result}
use Rattle.coverage.specs.Covering.{MayHold, StandsIn, IsCoveredWorld, Covers}
use Rattle.coverage.proofs.Values.{Grows, grows_on, covered_on, covered_by, covered_at, covered_as, leads_from, leads_by}
use Rattle.coverage.proofs.Worlds.{IsLater, kept_later, object_made}
use Rattle.coverage.proofs.Frames.{below_on}
use Rattle.coverage.proofs.Effects.{kept_before}
use Rattle.coverage.proofs.Within.{same_place}
use Rattle.coverage.proofs.Slots.{AreSlotsCovered, IsNext, left_slots}
use Rattle.coverage.proofs.Advancing.{slots_here, moved_frame}
use Rattle.coverage.proofs.Units.{IsUnit, of_slot, of_none, unit_is}
use Rattle.coverage.proofs.Calls.{IsInside, inside_of, IsCalled, called_by, argument_at}

-- what a frame allocates, its node does
pub site_is : (kind : SiteKind) (gives : GivenAs) (f : Frame) (m : MethodNo) (l : LoweredMethod) (n : Node) (class : List ℕ) → StandsIn gives f m l n → site_at kind f class ≡ site_of kind m n class
site_is kind gives f m l n class here =
    let method : (site_at kind f class).method ≡ Some m = ap (λ (o : Option ℕ). (site_at kind (record { method = o; offset = f.offset; slots = []; waits = false }) class).method) here.in_method in
    ap (λ (o : Option MethodNo). record { kind = kind; method = o; offset = f.offset; class = class }) method
    ∙ ap (λ (k : ℕ). record { kind = kind; method = Some m; offset = k; class = class }) (sym here.at)

-- the object of a value that fits a class does so by its site
pub fits_at : (x : Subject) (gives : GivenAs) (S : Fact → Type 0) (w : World) → IsCoveredWorld x gives S w → (class : List ℕ) (v : Value) → IsOf x.program class w v → (place : ℕ) (o : Object)
    → v ≡ reference_to place → slice_get w.heap place ≡ Some o → Fits x.program class o.site.class
fits_at x gives S w c class v f place o at held =
    let places : f.to.place ≡ place = same_place f.to.place place (sym f.to.is ∙ at) in
    let objects : f.to.object ≡ o = same_Some f.to.object o (sym f.to.held ∙ ap (slice_get w.heap) places ∙ held) in
    subst (λ (d : List ℕ). Fits x.program class d) (ap (λ (p : Object). p.class) objects ∙ (c.objects place o held).of_class) f.fits

-- the place that a value leads to
place_given : (v : Value) (place : ℕ) → Contains (places_of v) place → v ≡ reference_to place
place_given primitive_value place there = absurd (contains_none place there)
place_given null_value place there = absurd (contains_none place there)
place_given (reference_to other) place there = elim (contains_cases other place [] there) [ inl e ↦ ap reference_to e | inr none ↦ absurd (contains_none place none) ]

module _ (x : Subject) (given : Given) (gives : GivenAs) (S : Fact → Type 0) (map : IsMapOf given gives) (closed : IsClosedSet (Instance x.program gives (record { 0 = x.entry })) S)
    (whole : AreWholeMethods x.program gives) (unrefused : HasNoRefusedCall x.program gives S) where
  module _ (s : State) (at : AtNode x given s) (calls : Calls x given s at) (i : IsInside x given gives S map closed whole at.frame at.now.node)
      (is : IsCalled x given gives S map closed whole unrefused s at calls i) (d : DescribedMethod x calls.target) where
    abbrev called : MethodNo
    called = record { 0 = calls.target }

    abbrev units : List Value
    units = argument_values calls.call.arguments at.frame.slots

    runs : S (may_run i.method)
    runs = is.frame.runs i.method i.here.in_method

    pub described : IsDescribedBy x.program called d.stub
    described = record { method = d.method; stands = d.stands; of_stub = d.is_described; concrete = d.concrete }

    -- a site that the method may be given as an argument
    record IsGivenSite (argument : StubArgument) (site : Site) : Type 0 where
      holder : Holder
      held : S (may_hold holder site)
      is_argument : IsArgument x.program i.lowered at.now.node calls.call called d.stub argument holder site

    argument_covered : (argument : StubArgument) → IsCovered (IsGivenSite argument) s.world.heap (argument_value x calls.target d units argument)
    argument_covered argument = by (unit_is calls.call.arguments at.frame.slots unit)
      where
        unit : ℕ
        unit = argument_unit d.stub.is_static d.descriptor.parameters argument

        by : IsUnit calls.call.arguments at.frame.slots unit → IsCovered (IsGivenSite argument) s.world.heap (argument_value x calls.target d units argument)
        by (of_none none) = covered_as (IsGivenSite argument) s.world.heap primitive_value _ none tt
        by (of_slot z there e) =
            let o = argument_at x given gives S map closed whole unrefused s at calls i is unit z there in
            covered_as (IsGivenSite argument) s.world.heap (slot_at at.frame.slots z) _ e
            (covered_at (MayHold S o.holder) (IsGivenSite argument) s.world.heap (slot_at at.frame.slots z)
            (λ place object is_place held among. record {
              holder = o.holder;
              held = among;
              is_argument = record {
                unit = unit;
                is_unit = record { descriptor = d.descriptor; is = refl };
                z = z;
                passed = there;
                slot = o.slot;
                suits = is.targeted.suits unit z place object there is_place held;
              };
            }) o.covered)

    abbrev pub kept_world : World
    kept_world = kept_by x calls.target d units calls.world

    pub kept_covered : IsLater x gives S calls.world kept_world
    kept_covered =
        kept_later x gives S calls.world (flat_map (λ (a : StubArgument). places_of (argument_value x calls.target d units a)) d.stub.keeps) new is.later.covered
      where
        new : (place : ℕ) → Contains (flat_map (λ (a : StubArgument). places_of (argument_value x calls.target d units a)) d.stub.keeps) place → LeadsTo (MayHold S kept_objects) calls.world.heap place
        new place there =
            let a = among_flat (λ (a : StubArgument). places_of (argument_value x calls.target d units a)) d.stub.keeps place there in
            let v = argument_value x calls.target d units a.of in
            let covered : IsCovered (IsGivenSite a.of) calls.world.heap v = covered_on (IsGivenSite a.of) s.world.heap calls.world.heap v is.later.grows (argument_covered a.of) in
            leads_by (IsGivenSite a.of) (MayHold S kept_objects) calls.world.heap place
            (λ site g. closed _ _ (keep_argument i.method i.lowered at.now.node calls.call called d.stub a.of g.holder site i.here.node calls.is_call described a.there g.is_argument)
            (runs, (is.targeted.called, (g.held, tt))))
            (leads_from (IsGivenSite a.of) calls.world.heap v place covered (place_given v place a.gives))

    -- what it gives
    pub record IsResult (v : Value) (after : World) : Type 0 where
      pub later : IsLater x gives S calls.world after
      pub covered : (z : ℕ) (to : Holder) → calls.call.result ≡ Some z → IsSlotAfter i.lowered at.now.node z to → IsCovered (MayHold S to) after.heap v

    result_as : (v u : Value) (after w : World) → v ≡ u → after ≡ w → IsResult u w → IsResult v after
    result_as v u after w is_value is_world r = subst (λ (y : Value). IsResult y after) (sym is_value) (subst (λ (y : World). IsResult u y) (sym is_world) r)

    pub result_covered : (r : StubResult) (v : Value) (after : World) → Contains d.stub.returns r → Gives x calls.target d at.frame units r kept_world v after → IsResult v after
    result_covered results.Primitive v after listed g = result_as v primitive_value after kept_world g.0 g.1 (record { later = kept_covered; covered = λ z to e after_slot. tt })
    result_covered results.Void v after listed g = result_as v primitive_value after kept_world g.0 g.1 (record { later = kept_covered; covered = λ z to e after_slot. tt })
    result_covered results.Null v after listed g = result_as v null_value after kept_world g.0 g.1 (record { later = kept_covered; covered = λ z to e after_slot. tt })
    result_covered (results.Given argument) v after listed g =
        result_as v (argument_value x calls.target d units argument) after kept_world g.0 g.1 (record {
          later = kept_covered;
          covered = λ z to e after_slot.
              covered_by (IsGivenSite argument) (MayHold S to) kept_world.heap (argument_value x calls.target d units argument)
              (λ site h. closed _ _ (give_argument i.method i.lowered at.now.node calls.call called d.stub argument h.holder site z to i.here.node calls.is_call described listed h.is_argument e after_slot)
              (runs, (is.targeted.called, (h.held, tt))))
              (covered_on (IsGivenSite argument) s.world.heap kept_world.heap (argument_value x calls.target d units argument) is.later.grows (argument_covered argument));
        })
    result_covered (results.New class) v after listed g =
        let site = site_at kinds.Result at.frame class in
        let same = site_is kinds.Result gives at.frame i.method i.lowered at.now.node class i.here in
        let made = object_made x gives S site kept_world v after g
        (of_node i.method i.lowered at.now.node runs i.here.node (of_result calls.call called d.stub class calls.is_call is.targeted.called described listed same)) kept_covered.covered in
        record {
          later = record { grows = grows_on calls.world.heap kept_world.heap after.heap kept_covered.grows made.later.grows; covered = made.later.covered };
          covered = λ z to e after_slot.
              covered_by (λ t. t ≡ site) (MayHold S to) after.heap v
              (λ t is_site. subst (λ (u : Site). S (may_hold to u)) (sym (is_site ∙ same))
              (closed _ _ (give_new i.method i.lowered at.now.node calls.call called d.stub class z to i.here.node calls.is_call described listed e after_slot) (runs, (is.targeted.called, tt)))) made.leads;
        }
    result_covered results.Kept v after listed g =
        let k = g.0 in
        let there : IsCovered (MayHold S kept_objects) kept_world.heap v =
        covered_as (MayHold S kept_objects) kept_world.heap (reference_to k.object.to.place) v k.object.to.is (kept_covered.covered.kept k.object.to.place k.kept) in
        result_as v v after kept_world refl g.1 (record {
          later = kept_covered;
          covered = λ z to e after_slot.
              covered_at (MayHold S kept_objects) (MayHold S to) kept_world.heap v
              (λ place o is_place held among. closed _ _ (give_kept i.method i.lowered at.now.node calls.call called d.stub k.class o.site z to i.here.node calls.is_call described listed k.of_result
              (fits_at x gives S kept_world kept_covered.covered k.class v k.object place o is_place held) e after_slot) (runs, (is.targeted.called, (among, tt)))) there;
        })

  pub gets_result_covers : (s t : State) (at : AtNode x given s) → GetsResult x given s t at → Covers x gives S s → Covers x gives S t
  gets_result_covers s t at a c =
      subst (λ (u : State). Covers x gives S u) (sym a.after) (record {
        world = here.later.covered;
        frames = (
          moved_frame x given gives S map closed whole s.world.heap a.world.heap at.frame at.now a.next a.left a.goes first.frame (λ m l k there to. slots m l k there to),
          refl,
          below_on x gives S s.world.heap a.world.heap at.below at.frame.method grows first.below,
        );
        mode = tt;
      })
    where
      d : DescribedMethod x a.calls.target
      d = a.gives.called

      call : (i : IsInside x given gives S map closed whole at.frame at.now.node) → IsCalled x given gives S map closed whole unrefused s at a.calls i
      call i = called_by x given gives S map closed whole unrefused s at a.calls i d.method d.stands c

      result : (i : IsInside x given gives S map closed whole at.frame at.now.node) → IsResult s at a.calls i (call i) d a.value a.world
      result i = result_covered s at a.calls i (call i) d a.gives.result a.value a.world (contains_at d.stub.returns a.gives.place a.gives.result a.gives.listed) a.gives.gives

      i : IsInside x given gives S map closed whole at.frame at.now.node
      i = inside_of x given gives S map closed whole at.frame at.now a.calls.number a.calls.in_method

      first : IsCalled x given gives S map closed whole unrefused s at a.calls i
      first = call i

      here : IsResult s at a.calls i first d a.value a.world
      here = result i

      grows : Grows s.world.heap a.world.heap
      grows = grows_on s.world.heap a.calls.world.heap a.world.heap first.later.grows here.later.grows

      slots : (m : MethodNo) (l : LoweredMethod) (k : Node) → StandsIn gives at.frame m l at.now.node → IsNext l at.now.node k → AreSlotsCovered S l k a.world.heap a.left
      slots m l k there to =
          let j : IsInside x given gives S map closed whole at.frame at.now.node = record { method = m; lowered = l; here = there } in
          let r = result j in
          left_slots x gives S closed whole m l at.now.node k there.node (first.frame.runs m there.in_method) to (argument_slots a.calls.call.arguments) a.calls.call.result a.value at.frame.slots a.left
          s.world.heap a.world.heap a.are_left (λ z free other. ap (effect_on z) a.calls.is_call ∙ kept_before (argument_slots a.calls.call.arguments) a.calls.call.result z free other) grows
          (λ z holder e after_slot. r.covered z holder e after_slot) (slots_here x given gives S map closed whole s.world.heap at.frame m l at.now.node there first.frame)
