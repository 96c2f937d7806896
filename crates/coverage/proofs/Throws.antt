-- Throws, handlers, and frames that go.
use Rattle.std.proofs.Common.{codes, ◌≡◌, inl, inr, ℕ, false, List, [], Option, Some, None, Contains, sym, ap, ◌∙◌, subst}
use Rattle.std.proofs.lemmas.Option.{same_Some}
use Rattle.list_laws.proofs.Members.{contains_first, contains_none}
use Rattle.jvm_model.specs.declared.number.ClassNo.{ClassNo}
use Rattle.jvm_model.specs.declared.number.MethodNo.{MethodNo}
use Rattle.jvm_model.specs.declared.site.Site.{Site}
use Rattle.jvm_model.specs.declared.site.SiteKind.TheVariants as kinds
use Rattle.jvm_model.specs.Programs.{Program, Class}
use Rattle.least_sets.specs.Rules.{IsClosedSet}
use Rattle.op_model.specs.declared.lowered.LoweredMethod.{LoweredMethod}
use Rattle.op_model.specs.declared.node.Node.{Node}
use Rattle.op_model.specs.declared.op.Op.TheVariants.{Throw}
use Rattle.op_model.specs.Supplies.{Given, GivenAs, IsMapOf}
use Rattle.machine_bytecode.specs.Machine.{ThrowsNew}
use Rattle.machine_bytecode.specs.Objects.{Subject}
use Rattle.machine_bytecode.specs.States.{reference_to, Object, Frame, State, World, slot_at, site_at}
use Rattle.machine_nodes.specs.Nodes.{IsClassNumber, IsThrownAt, raised, initialising, IsInitialisationError, StandsAt, IsStartCall}
use Rattle.machine_nodes.specs.NodeSteps.{AtNode, Raises, Throws}
use Rattle.points_to_rules.specs.Facts.{Holder, Fact, may_hold}
use Rattle.points_to_rules.specs.Rules.{Lands, site_of, Instance, throw, raise}
use Rattle.points_to_rules.specs.WholeMethods.{AreWholeMethods}
use Rattle.coverage.specs.References.{LeadsTo}
use Rattle.coverage.specs.Sites.{IsSite, of_node, of_raised, before_entry}
use Rattle.coverage.specs.Covering.{MayHold, StandsIn, IsCoveredFrame, AreCoveredBelow, IsCoveredWorld, Covers}
use Rattle.coverage.proofs.Values.{among_from}
use Rattle.coverage.proofs.Worlds.{object_made}
use Rattle.coverage.proofs.Frames.{frame_on, below_on, frames_are}
use Rattle.coverage.proofs.Places.{Place, in_method, at_start, place_of, stands_in}
use Rattle.coverage.proofs.Slots.{operand_of}
use Rattle.coverage.proofs.Advancing.{slots_here}
use Rattle.coverage.proofs.Calls.{one_node}
use Rattle.coverage.proofs.Stubs.{site_is, fits_at}

-- a number has one class
pub class_is : (p : Program) (number : ClassNo) (a b : List ℕ) → IsClassNumber p number a → IsClassNumber p number b → a ≡ b
class_is p number a b first second =
    let classes : first.class ≡ second.class = same_Some first.class second.class (sym first.stands ∙ second.stands) in
    sym first.named ∙ ap (λ (c : Class). c.name) classes ∙ second.named

module _ (x : Subject) (given : Given) (gives : GivenAs) (S : Fact → Type 0) (map : IsMapOf given gives) (closed : IsClosedSet (Instance x.program gives (record { 0 = x.entry })) S)
    (whole : AreWholeMethods x.program gives) where
  -- ---- new objects that are thrown

  abbrev pub LandsAll : Frame → List ℕ → Type 0
  LandsAll f class =
      (m : MethodNo) (l : LoweredMethod) (n : Node) (to : Holder) → StandsIn gives f m l n → Lands x.program m l n class to → S (may_hold to (site_of kinds.Thrown m n class))

  pub throws_new_covers : (w : World) (f : Frame) (below : List Frame) (class : List ℕ) (t : State) → ThrowsNew x w f below class t → IsCoveredWorld x gives S w
      → IsSite x.program gives S (site_at kinds.Thrown f class) → IsCoveredFrame gives S w.heap f → f.waits ≡ false → AreCoveredBelow x gives S w.heap below f.method → LandsAll f class → Covers x gives S t
  throws_new_covers w f below class t h c site frame still under lands =
      let made = object_made x gives S (site_at kinds.Thrown f class) w (reference_to h.thrown) h.world h.makes site c in
      let leads : LeadsTo (λ s. s ≡ site_at kinds.Thrown f class) h.world.heap h.thrown = made.leads in
      let class_same : leads.object.class ≡ class = (made.later.covered.objects h.thrown leads.object leads.held).of_class ∙ ap (λ (s : Site). s.class) leads.among in
      subst (λ (u : State). Covers x gives S u) (sym h.after) (record {
        world = made.later.covered;
        frames = (frame_on x gives S w.heap h.world.heap f made.later.grows frame, still, below_on x gives S w.heap h.world.heap below f.method made.later.grows under);
        mode = record {
          object = leads.object;
          held = leads.held;
          lands = λ m l n to here landing.
              subst (λ (s : Site). S (may_hold to s)) (sym (leads.among ∙ site_is kinds.Thrown gives f m l n class here))
              (lands m l n to here (subst (λ (d : List ℕ). Lands x.program m l n d to) class_same landing));
        };
      })

  pub raise_lands : (heap : List Object) (f : Frame) (now : StandsAt x given f) (number : ClassNo) (class : List ℕ) → Contains now.node.throws number → IsClassNumber x.program number class
      → IsCoveredFrame gives S heap f → LandsAll f class
  raise_lands heap f now number class listed is_class c m l n to there landing =
      let same = one_node x given gives S map closed whole f m l now.node n (stands_in x given gives map f now m l there.in_method there.node.given) there in
      closed _ _ (raise m l n number class to there.node (subst (λ (k : Node). Contains k.throws number) same listed) is_class landing) (c.runs m there.in_method, tt)

  -- where the object is made
  pub thrown_site : (heap : List Object) (f : Frame) (now : StandsAt x given f) (number : ClassNo) (class : List ℕ) → Contains now.node.throws number → IsClassNumber x.program number class
      → IsCoveredFrame gives S heap f → IsSite x.program gives S (site_at kinds.Thrown f class)
  thrown_site heap f now number class listed is_class c = by (place_of x given gives map f now)
    where
      error : IsStartCall x now.node → IsInitialisationError class
      error call =
          let only = call.throws.only number listed in
          subst IsInitialisationError (class_is x.program number only.0 class only.1 is_class) (of_name only.0 only.2)
        where
          of_name : (name : List ℕ) → IsThrownAt x.program [] (Some call.entry.class) name → IsInitialisationError name
          of_name name (raised kind there is) = absurd (contains_none kind there)
          of_name name (initialising concerned trigger has is) = is

      start_site : f.method ≡ None → f.offset ≡ 0 → site_at kinds.Thrown f class ≡ record { kind = kinds.Thrown; method = None; offset = 0; class = class }
      start_site no_method offset =
          ap (λ (o : Option ℕ). site_at kinds.Thrown (record { method = o; offset = f.offset; slots = []; waits = false }) class) no_method
          ∙ ap (λ (k : ℕ). site_at kinds.Thrown (record { method = None; offset = k; slots = []; waits = false }) class) offset

      by : Place x gives f now.locals now.node → IsSite x.program gives S (site_at kinds.Thrown f class)
      by (in_method m l here count) =
          of_node m l now.node (c.runs m here.in_method) here.node (of_raised number class listed is_class (site_is kinds.Thrown gives f m l now.node class here))
      by (at_start no_method offset (inl call)) = before_entry class (error call) (start_site no_method (sym offset ∙ call.offset))
      by (at_start no_method offset (inr return)) = absurd (contains_none number (subst (λ (cs : List ClassNo). Contains cs number) return.throws listed))

  pub raises_cover : (s t : State) (at : AtNode x given s) → Raises x given s t at → Covers x gives S s → Covers x gives S t
  raises_cover s t at a c =
      let frames = frames_are x gives S s.world.heap s.frames at.below at.frame at.frames c.frames in
      throws_new_covers s.world at.frame at.below a.class t a.throws c.world (thrown_site s.world.heap at.frame at.now a.number a.class a.listed a.is_class frames.0) frames.0 frames.1 frames.2
      (raise_lands s.world.heap at.frame at.now a.number a.class a.listed a.is_class frames.0)

  -- ---- an object that a slot holds

  pub throws_cover : (s t : State) (at : AtNode x given s) → Throws x given s t at → Covers x gives S s → Covers x gives S t
  throws_cover s t at a c =
      let frames = frames_are x gives S s.world.heap s.frames at.below at.frame at.frames c.frames in
      let to_object = a.thrown.to in
      subst (λ (u : State). Covers x gives S u) (sym a.after) (record {
        world = c.world;
        frames = frames;
        mode = record {
          object = to_object.object;
          held = to_object.held;
          lands = λ m l n to there landing.
              let same = one_node x given gives S map closed whole at.frame m l at.now.node n (stands_in x given gives map at.frame at.now m l there.in_method there.node.given) there in
              let is_throw = subst (λ (k : Node). k.op ≡ Throw a.value) same a.is_throw in
              let o = operand_of x gives S closed whole m l n (Throw a.value) a.value s.world.heap at.frame.slots there.node is_throw (contains_first a.value [])
              (slots_here x given gives S map closed whole s.world.heap at.frame m l n there frames.0) in
              let held : S (may_hold o.holder to_object.object.site) =
              among_from (MayHold S o.holder) s.world.heap (slot_at at.frame.slots a.value) to_object.place to_object.object o.covered to_object.is to_object.held in
              let own : to_object.object.class ≡ to_object.object.site.class = (c.world.objects to_object.place to_object.object to_object.held).of_class in
              closed _ _ (throw m l n a.value o.holder to to_object.object.site there.node is_throw o.slot
              (fits_at x gives S s.world c.world (codes "java/lang/Throwable") (slot_at at.frame.slots a.value) a.thrown to_object.place to_object.object to_object.is to_object.held)
              (subst (λ (d : List ℕ). Lands x.program m l n d to) own landing)) (frames.0.runs m there.in_method, (held, tt));
        };
      })
