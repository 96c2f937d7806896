-- Kept answers are right: none, one more, and while the tables grow.
use Rattle.std.proofs.Common.{◌≡◌, ◌↔◌, ℕ, Bool, true, false, cond, eqb, ◌&&◌, List, [], Option, Some, Result, refl, sym, ap, ◌∙◌, subst}
use Rattle.std.proofs.Math.Bool.{beq}
use Rattle.std.specs.Bool.{IsTrue}
use Rattle.std.specs.List.{slice_get}
use Rattle.std.specs.Map.{lookup}
use Rattle.std.proofs.lemmas.Bool.{and_parts}
use Rattle.std.proofs.lemmas.Map.Views.{exact_unsigned_eq}
use Rattle.std.proofs.lemmas.Option.{same_Some, none-some}
use Rattle.hierarchy.proofs.Resolving.{same_kind}
use Rattle.indexmap.specs.IndexMap.{IndexMap, get}
use Rattle.jvm_model.specs.declared.number.MethodNo.{MethodNo}
use Rattle.jvm_model.specs.declared.reason.Reason.{Reason}
use Rattle.jvm_model.specs.declared.site.Site.{Site}
use Rattle.jvm_model.specs.Programs.{Program}
use Rattle.jvm_model.specs.Subtypes.{Fits}
use Rattle.points_to_rules.specs.Calls.{SelectsAs}
use Rattle.points_to_numbers.specs.Numbered.{Numbered, Grows}
use Rattle.points_to_calls.specs.declared.answer_keys.FitKey.{FitKey}
use Rattle.points_to_calls.specs.declared.answer_keys.SelectKey.{SelectKey}
use Rattle.points_to_calls.specs.declared.kept.Answers.{Answers}
use Rattle.points_to_calls.specs.KeptAnswers.{same_fits, same_selects, IsFitAnswer, IsSelectAnswer, AreRight}
use Rattle.call_selection.specs.OnlyAnswers.{IsOnlyAnswer}

-- ---- `==` on the keys tells each two apart

pub exact_fits : (a b : FitKey) → same_fits a b ≡ true → a ≡ b
exact_fits a b h =
    let parts = and_parts (eqb a.upper.0 b.upper.0) (eqb a.lower.0 b.lower.0) h in
    let upper = exact_unsigned_eq a.upper.0 b.upper.0 parts.0 in
    let lower = exact_unsigned_eq a.lower.0 b.lower.0 parts.1 in
    (λ i. record { upper = record { 0 = upper i }; lower = record { 0 = lower i } })

pub exact_selects : (a b : SelectKey) → same_selects a b ≡ true → a ≡ b
exact_selects a b h =
    let first = and_parts (eqb a.resolved.0 b.resolved.0) (beq a.interface b.interface && eqb a.class.0 b.class.0) h in
    let second = and_parts (beq a.interface b.interface) (eqb a.class.0 b.class.0) first.1 in
    let resolved = exact_unsigned_eq a.resolved.0 b.resolved.0 first.0 in
    let interface = same_kind a.interface b.interface second.0 in
    let class = exact_unsigned_eq a.class.0 b.class.0 second.1 in
    (λ i. record { resolved = record { 0 = resolved i }; interface = interface i; class = record { 0 = class i } })

-- ---- what holds of each entry of a map

module _ {K V S : Type 0} (eq : K → K → Bool) (R : K → V → Type 0) where
  -- of none
  pub none_right : (m : IndexMap K V S) → m.entries ≡ [] → (q : K) (v : V) → get eq m q ≡ Some v → R q v
  none_right m empty q v at = absurd (none-some v (sym (ap (lookup (eq q)) empty) ∙ at))

  -- of the same ones
  pub same_right : (old new : IndexMap K V S) → new.entries ≡ old.entries
      → ((q : K) (v : V) → get eq old q ≡ Some v → R q v) → (q : K) (v : V) → get eq new q ≡ Some v → R q v
  same_right old new same right q v at = right q v (sym (ap (lookup (eq q)) same) ∙ at)

  -- of one more
  pub more_right : ((a b : K) → eq a b ≡ true → a ≡ b) → (old new : IndexMap K V S) (key : K) (value : V)
      → ((q : K) → get eq new q ≡ cond (eq key q) (Some value) (get eq old q))
      → ((q : K) (v : V) → get eq old q ≡ Some v → R q v) → R key value → (q : K) (v : V) → get eq new q ≡ Some v → R q v
  more_right exact old new key value updates right is q v at = by (eq key q) refl
    where
      by : (b : Bool) → eq key q ≡ b → R q v
      by true same =
          let kept : Some value ≡ Some v = sym (updates q ∙ ap (λ (b : Bool). cond b (Some value) (get eq old q)) same) ∙ at in
          subst (λ (k : K). R k v) (exact key q same) (subst (λ (w : V). R key w) (same_Some value v kept) is)
      by false other = right q v (sym (updates q ∙ ap (λ (b : Bool). cond b (Some value) (get eq old q)) other) ∙ at)

-- ---- the answers

-- they stay right while the tables grow
pub grown_right : (p : Program) (n m : Numbered) (answers : Answers) → Grows n m → AreRight p n answers → AreRight p m answers
grown_right p n m answers grows right = record {
  fits = λ key answer at.
      let is = right.fits key answer at in
      record {
        upper = is.upper;
        upper_is = grows.classes key.upper.0 is.upper is.upper_is;
        lower = is.lower;
        lower_is = grows.classes key.lower.0 is.lower is.lower_is;
        right = is.right;
      };
  selected = λ key answer at.
      let is = right.selected key answer at in
      record { class = is.class; class_is = grows.classes key.class.0 is.class is.class_is; right = is.right };
}

-- no answers
pub none_answered : (p : Program) (n : Numbered) (answers : Answers) → answers.fits.entries ≡ [] → answers.selected.entries ≡ [] → AreRight p n answers
none_answered p n answers fits selected = record {
  fits = none_right same_fits (IsFitAnswer p n) answers.fits fits;
  selected = none_right same_selects (IsSelectAnswer p n) answers.selected selected;
}

module _ (p : Program) (n : Numbered) where
  -- what a kept answer says of the names
  pub fit_answer : (key : FitKey) (answer : Bool) → IsFitAnswer p n key answer → (over under : List ℕ)
      → slice_get n.classes key.upper.0 ≡ Some over → slice_get n.classes key.lower.0 ≡ Some under
      → IsTrue answer ↔ Fits p over under
  fit_answer key answer is over under upper lower =
      let overs = same_Some is.upper over (sym is.upper_is ∙ upper) in
      let unders = same_Some is.lower under (sym is.lower_is ∙ lower) in
      subst (λ (k : List ℕ). IsTrue answer ↔ Fits p k under) overs (subst (λ (k : List ℕ). IsTrue answer ↔ Fits p is.upper k) unders is.right)

  pub select_answer : (key : SelectKey) (answer : Option (Result MethodNo Reason)) → IsSelectAnswer p n key answer
      → (s : Site) → slice_get n.classes key.class.0 ≡ Some s.class
      → IsOnlyAnswer (SelectsAs key.interface p key.resolved s) answer
  select_answer key answer is s class = is.right s (same_Some is.class s.class (sym is.class_is ∙ class))

  -- what is found of the names is an answer
  pub answers_fit : (key : FitKey) (answer : Bool) (upper lower : List ℕ) → slice_get n.classes key.upper.0 ≡ Some upper
      → slice_get n.classes key.lower.0 ≡ Some lower
      → (IsTrue answer ↔ Fits p upper lower) → IsFitAnswer p n key answer
  answers_fit key answer upper lower upper_is lower_is right = record { upper = upper; upper_is = upper_is; lower = lower; lower_is = lower_is; right = right }

  pub answers_select : (key : SelectKey) (answer : Option (Result MethodNo Reason)) (class : List ℕ) → slice_get n.classes key.class.0 ≡ Some class
      → ((s : Site) → class ≡ s.class → IsOnlyAnswer (SelectsAs key.interface p key.resolved s) answer) → IsSelectAnswer p n key answer
  answers_select key answer class class_is right = record { class = class; class_is = class_is; right = right }
