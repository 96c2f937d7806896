-- What constraints make of objects, when the tables have grown: the numbers that were there stand for the same.
use Rattle.std.proofs.Common.{◌≡◌, ◌↔◌, ℕ, ◌+◌, ◌<◌, ◌≤◌, List, Option, Some, length, take, get_or, refl, sym, ◌∙◌, subst}
use Rattle.std.specs.List.{slice_get}
use Rattle.std.proofs.lemmas.List.{get_or_default, take_all}
use Rattle.std.proofs.lemmas.Option.{same_Some}
use Rattle.jvm_model.specs.declared.number.SiteNo.{SiteNo}
use Rattle.jvm_model.specs.declared.reason.Reason.{Reason}
use Rattle.jvm_model.specs.declared.site.Site.{Site}
use Rattle.jvm_model.specs.Programs.{Program}
use Rattle.points_to_constraints.specs.ItemRules.{Passed}
use Rattle.points_to_constraints.specs.Items.{Constraint as ItemConstraint, dispatch, Item as RuleItem}
use Rattle.points_to_calls.specs.KeptAnswers.{AreRight}
use Rattle.points_to_numbers.specs.declared.keys.ConstraintNo.{ConstraintNo}
use Rattle.points_to_numbers.specs.Numbered.{Numbered, Extends, Grows, IsNumbered}
use Rattle.points_to_numbers.specs.Steps.{Adds}
use Rattle.points_to_numbers.proofs.Adding.{adds_next, adds_same, adds_start, OfOne}
use Rattle.points_to_numbers.proofs.Growing.{grows_on, grows_same}
use Rattle.points_to.specs.declared.found.Found.{Found}
use Rattle.points_to.specs.declared.refusals.RefusedCall.{RefusedCall}
use Rattle.points_to.specs.Passing.{IsKnownConstraint, SelectsAt, IsPassed, IsLackOf, NotesReason, NotesCalls}
use Rattle.points_to.proofs.Noting.{calls_next, calls_same, calls_start, OfSome}

-- what stands at a number that was there before
stood_before : {X : Type 0} (old new : List X) → Extends old new → (k : ℕ) → IsNumbered old k → (x : X) → slice_get new k ≡ Some x → slice_get old k ≡ Some x
stood_before old new longer k (y, at) x e = at ∙ sym (longer k y at) ∙ e

module _ (n m : Numbered) (grows : Grows n m) (constraint : ConstraintNo) (known_constraint : IsNumbered n.constraints constraint.0) where
  selects_before : (c : RefusedCall) (call : _) → SelectsAt m constraint c call → SelectsAt n constraint c call
  selects_before c call h = record { selects = stood_before n.constraints m.constraints grows.constraints constraint.0 known_constraint _ h.selects; at = h.at }

  selects_still : (c : RefusedCall) (call : _) → SelectsAt n constraint c call → SelectsAt m constraint c call
  selects_still c call h = record { selects = grows.constraints constraint.0 _ h.selects; at = h.at }

  pub reason_before : (lacks : Option Reason) (c : RefusedCall) → NotesReason m constraint lacks c ↔ NotesReason n constraint lacks c
  reason_before lacks c = (
    (λ h. record { call = h.call; selects = selects_before c h.call h.selects; reason = h.reason }),
    (λ h. record { call = h.call; selects = selects_still c h.call h.selects; reason = h.reason }),
  )

  module _ (p : Program) (site : SiteNo) (known_site : IsNumbered n.sites site.0) where
    pub passed_before : (x : RuleItem) → IsPassed p m constraint site x ↔ IsPassed p n constraint site x
    passed_before x = (
      (λ h. record { u = h.u; stands = stood_before n.constraints m.constraints grows.constraints constraint.0 known_constraint h.u h.stands; s = h.s; is_site = stood_before n.sites m.sites grows.sites site.0 known_site h.s h.is_site; passed = h.passed }),
      (λ h. record { u = h.u; stands = grows.constraints constraint.0 h.u h.stands; s = h.s; is_site = grows.sites site.0 h.s h.is_site; passed = h.passed }),
    )

    pub lack_before : (c : RefusedCall) → IsLackOf p m constraint site c ↔ IsLackOf p n constraint site c
    lack_before c = (
      (λ h. record { call = h.call; selects = selects_before c h.call h.selects; s = h.s; is_site = stood_before n.sites m.sites grows.sites site.0 known_site h.s h.is_site; lacks = h.lacks }),
      (λ h. record { call = h.call; selects = selects_still c h.call h.selects; s = h.s; is_site = grows.sites site.0 h.s h.is_site; lacks = h.lacks }),
    )

-- what the constraint of a number makes of an object of the site of a number
pub passed_here : (p : Program) (n : Numbered) (constraint : ConstraintNo) (site : SiteNo) (known_constraint : IsNumbered n.constraints constraint.0) (known_site : IsNumbered n.sites site.0) (x : RuleItem)
    → Passed p known_constraint.0 known_site.0 x ↔ IsPassed p n constraint site x
passed_here p n constraint site known_constraint known_site x = (
  (λ h. record { u = known_constraint.0; stands = known_constraint.1; s = known_site.0; is_site = known_site.1; passed = h }),
  (λ h.
      let constraints = same_Some h.u known_constraint.0 (sym h.stands ∙ known_constraint.1) in
      let sites = same_Some h.s known_site.0 (sym h.is_site ∙ known_site.1) in
      subst (λ (s : Site). Passed p known_constraint.0 s x) sites (subst (λ (u : ItemConstraint). Passed p u h.s x) constraints h.passed)),
)

-- a constraint that is known is known when the tables have grown
pub still_known : (p : Program) (n m : Numbered) → Grows n m → (constraint : ConstraintNo) → IsKnownConstraint p n constraint → IsKnownConstraint p m constraint
still_known p n m grows constraint known = record {
  numbered = (known.numbered.0, grows.constraints constraint.0 known.numbered.0 known.numbered.1);
  resolved = λ call selects. known.resolved call (stood_before n.constraints m.constraints grows.constraints constraint.0 known.numbered (dispatch call) selects);
}

-- ---- several constraints, or several sites

-- The constraint got the object.
pub record IsPassedOn (p : Program) (constraint : ConstraintNo) (site : SiteNo) (old new : Found) : Type 0 where
  pub grows : Grows old.work.tables new.work.tables
  pub calls : length new.work.tables.calls ≡ length old.work.tables.calls
  pub answers : AreRight p new.work.tables new.answers
  pub adds : Adds new.work.tables (IsPassed p old.work.tables constraint site) old.work.steps.items new.work.steps.items
  pub lacks : NotesCalls (IsLackOf p old.work.tables constraint site) old.refusals.call new.refusals.call
  pub method : new.refusals.method ≡ old.refusals.method

-- The constraint of each got the object of its site.
pub record ArePassedOn {K : Type 0} (p : Program) (constraint : K → ConstraintNo) (site : K → SiteNo) (ks : List K) (old new : Found) : Type 0 where
  pub grows : Grows old.work.tables new.work.tables
  pub calls : length new.work.tables.calls ≡ length old.work.tables.calls
  pub answers : AreRight p new.work.tables new.answers
  pub adds : Adds new.work.tables (OfOne (λ (k : K) (x : RuleItem). IsPassed p old.work.tables (constraint k) (site k) x) ks) old.work.steps.items new.work.steps.items
  pub lacks : NotesCalls (OfSome (λ (k : K) (c : RefusedCall). IsLackOf p old.work.tables (constraint k) (site k) c) ks) old.refusals.call new.refusals.call
  pub method : new.refusals.method ≡ old.refusals.method

module _ {K : Type 0} (p : Program) (constraint : K → ConstraintNo) (site : K → SiteNo) (ks : List K) where
  pub passed_none : (old : Found) → AreRight p old.work.tables old.answers → ArePassedOn p constraint site (take 0 ks) old old
  passed_none old right = record {
    grows = grows_same old.work.tables;
    calls = refl;
    answers = right;
    adds = adds_start (λ (k : K) (x : RuleItem). IsPassed p old.work.tables (constraint k) (site k) x) old.work.tables ks old.work.steps.items;
    lacks = calls_start (λ (k : K) (c : RefusedCall). IsLackOf p old.work.tables (constraint k) (site k) c) ks old.refusals.call;
    method = refl;
  }

  -- one more
  pub passed_next : (i : ℕ) (d : K) (a b c : Found) → i < length ks → IsNumbered a.work.tables.constraints (constraint (get_or ks i d)).0 → IsNumbered a.work.tables.sites (site (get_or ks i d)).0
      → ArePassedOn p constraint site (take i ks) a b → IsPassedOn p (constraint (get_or ks i d)) (site (get_or ks i d)) b c → ArePassedOn p constraint site (take (i + 1) ks) a c
  passed_next i d a b c within known_constraint known_site before now =
      let k = get_or ks i d in
      let n = a.work.tables in
      let m = b.work.tables in
      let o = c.work.tables in
      let adds = adds_same o (IsPassed p m (constraint k) (site k)) (IsPassed p n (constraint k) (site k)) b.work.steps.items c.work.steps.items
      (passed_before n m before.grows (constraint k) known_constraint p (site k) known_site) now.adds in
      let lacks = calls_same (IsLackOf p m (constraint k) (site k)) (IsLackOf p n (constraint k) (site k)) b.refusals.call c.refusals.call
      (lack_before n m before.grows (constraint k) known_constraint p (site k) known_site) now.lacks in
      record {
        grows = grows_on n m o before.grows now.grows;
        calls = now.calls ∙ before.calls;
        answers = now.answers;
        adds = adds_next (λ (k : K) (x : RuleItem). IsPassed p n (constraint k) (site k) x) m o ks i k a.work.steps.items b.work.steps.items c.work.steps.items within (get_or_default ks i d k within) before.adds now.grows adds;
        lacks = calls_next (λ (k : K) (c : RefusedCall). IsLackOf p n (constraint k) (site k) c) ks i k a.refusals.call b.refusals.call c.refusals.call within (get_or_default ks i d k within) before.lacks lacks;
        method = now.method ∙ before.method;
      }

  pub passed_all : (i : ℕ) (a b : Found) → length ks ≤ i → ArePassedOn p constraint site (take i ks) a b → ArePassedOn p constraint site ks a b
  passed_all i a b past passed = subst (λ (all : List K). ArePassedOn p constraint site all a b) (take_all i ks past) passed
