-- What several constraints make of the objects of several sites, one constraint after another.
use Rattle.std.proofs.Common.{◌≡◌, ℕ, ◌+◌, ◌<◌, ◌≤◌, List, length, take, get_or, refl, ◌∙◌, subst}
use Rattle.std.specs.List.{All, Contains}
use Rattle.std.proofs.lemmas.List.{get_or_default, take_all}
use Rattle.std.proofs.lemmas.List.Elements.{All-contains}
use Rattle.jvm_model.specs.declared.number.SiteNo.{SiteNo}
use Rattle.jvm_model.specs.Programs.{Program}
use Rattle.points_to_constraints.specs.Items.{Item as RuleItem}
use Rattle.points_to_calls.specs.KeptAnswers.{AreRight}
use Rattle.points_to_numbers.specs.declared.keys.ConstraintNo.{ConstraintNo}
use Rattle.points_to_numbers.specs.Numbered.{Grows, IsNumbered}
use Rattle.points_to_numbers.specs.Steps.{Adds}
use Rattle.points_to_numbers.proofs.Adding.{adds_next, adds_same, adds_start, OfOne}
use Rattle.points_to_numbers.proofs.Growing.{grows_on, grows_same}
use Rattle.points_to.specs.declared.found.Found.{Found}
use Rattle.points_to.specs.declared.refusals.RefusedCall.{RefusedCall}
use Rattle.points_to.specs.Passing.{LacksSome, NotesCalls, PassesSome}
use Rattle.points_to.proofs.Noting.{calls_next, calls_same, calls_start, OfSome}
use Rattle.points_to.proofs.PassedOn.{lack_before, passed_before}

-- The constraint got the objects.
pub record GotObjects (p : Program) (constraint : ConstraintNo) (sites : List SiteNo) (old new : Found) : Type 0 where
  pub grows : Grows old.work.tables new.work.tables
  pub calls : length new.work.tables.calls ≡ length old.work.tables.calls
  pub answers : AreRight p new.work.tables new.answers
  pub adds : Adds new.work.tables (PassesSome p old.work.tables constraint sites) old.work.steps.items new.work.steps.items
  pub lacks : NotesCalls (LacksSome p old.work.tables constraint sites) old.refusals.call new.refusals.call
  pub method : new.refusals.method ≡ old.refusals.method

-- Each of the constraints did.
pub record EachGotObjects (p : Program) (sites : List SiteNo) (ks : List ConstraintNo) (old new : Found) : Type 0 where
  pub grows : Grows old.work.tables new.work.tables
  pub calls : length new.work.tables.calls ≡ length old.work.tables.calls
  pub answers : AreRight p new.work.tables new.answers
  pub adds : Adds new.work.tables (OfOne (λ (k : ConstraintNo) (x : RuleItem). PassesSome p old.work.tables k sites x) ks) old.work.steps.items new.work.steps.items
  pub lacks : NotesCalls (OfSome (λ (k : ConstraintNo) (c : RefusedCall). LacksSome p old.work.tables k sites c) ks) old.refusals.call new.refusals.call
  pub method : new.refusals.method ≡ old.refusals.method

module _ (p : Program) (sites : List SiteNo) (ks : List ConstraintNo) where
  pub any_none : (old : Found) → AreRight p old.work.tables old.answers → EachGotObjects p sites (take 0 ks) old old
  any_none old right = record {
    grows = grows_same old.work.tables;
    calls = refl;
    answers = right;
    adds = adds_start (λ (k : ConstraintNo) (x : RuleItem). PassesSome p old.work.tables k sites x) old.work.tables ks old.work.steps.items;
    lacks = calls_start (λ (k : ConstraintNo) (c : RefusedCall). LacksSome p old.work.tables k sites c) ks old.refusals.call;
    method = refl;
  }

  -- one more
  pub any_next : (i : ℕ) (d : ConstraintNo) (a b c : Found) → i < length ks → IsNumbered a.work.tables.constraints (get_or ks i d).0 → All (λ (site : SiteNo). IsNumbered a.work.tables.sites site.0) sites
      → EachGotObjects p sites (take i ks) a b → GotObjects p (get_or ks i d) sites b c → EachGotObjects p sites (take (i + 1) ks) a c
  any_next i d a b c within known_constraint known_sites before now =
      let k = get_or ks i d in
      let n = a.work.tables in
      let m = b.work.tables in
      let o = c.work.tables in
      let known = λ (site : SiteNo) (there : Contains sites site). All-contains (λ (s : SiteNo). IsNumbered n.sites s.0) sites site known_sites there in
      let adds = adds_same o (PassesSome p m k sites) (PassesSome p n k sites) b.work.steps.items c.work.steps.items (λ x. (
        (λ (site, there, is). (site, there, (passed_before n m before.grows k known_constraint p site (known site there) x).0 is)),
        (λ (site, there, is). (site, there, (passed_before n m before.grows k known_constraint p site (known site there) x).1 is)),
      )) now.adds in
      let lacks = calls_same (LacksSome p m k sites) (LacksSome p n k sites) b.refusals.call c.refusals.call (λ r. (
        (λ (site, there, is). (site, there, (lack_before n m before.grows k known_constraint p site (known site there) r).0 is)),
        (λ (site, there, is). (site, there, (lack_before n m before.grows k known_constraint p site (known site there) r).1 is)),
      )) now.lacks in
      record {
        grows = grows_on n m o before.grows now.grows;
        calls = now.calls ∙ before.calls;
        answers = now.answers;
        adds = adds_next (λ (j : ConstraintNo) (x : RuleItem). PassesSome p n j sites x) m o ks i k a.work.steps.items b.work.steps.items c.work.steps.items within (get_or_default ks i d k within) before.adds now.grows adds;
        lacks = calls_next (λ (j : ConstraintNo) (r : RefusedCall). LacksSome p n j sites r) ks i k a.refusals.call b.refusals.call c.refusals.call within (get_or_default ks i d k within) before.lacks lacks;
        method = now.method ∙ before.method;
      }

  pub any_all : (i : ℕ) (a b : Found) → length ks ≤ i → EachGotObjects p sites (take i ks) a b → EachGotObjects p sites ks a b
  any_all i a b past passed = subst (λ (all : List ConstraintNo). EachGotObjects p sites all a b) (take_all i ks past) passed
