-- A program has one report: the tracked sites stand in one order, and each has one verdict.
use Rattle.std.proofs.Common.{◌≡◌, ◌↔◌, ◌∙◌, ℕ, Bool, true, false, List, [], ◌∷◌, map, All, IsTrue, refl, sym, ap, subst}
use Rattle.std.proofs.lemmas.List.Elements.{All-head, All-tail}
use Rattle.machine_bytecode.specs.Objects.{Subject}
use Rattle.op_model.specs.Supplies.{GivenAs}
use Rattle.points_to_rules.specs.Facts.{Fact}
use Rattle.site_report.specs.declared.tracked_site.TrackedSite.{TrackedSite}
use Rattle.site_report.specs.declared.verdict.Verdict.{Verdict}
use Rattle.site_report.specs.Sites.{site_in}
use Rattle.report_spec.specs.Reports.{IsReport, is_safe, report_lines}
use Rattle.report_spec.specs.Tracked.{AreTracked}
use Rattle.report_spec.specs.Verdicts.{Asked, AtLimitBy, IsVerdict, SafeBy}
use Rattle.report_spec.proofs.FirstStages.{verdict_is_one}
use Rattle.report_spec.proofs.ReportOrder.{order_same}
use Rattle.report_spec.proofs.SameFacts.{report_into}

-- ---- verdicts

-- sites with their verdicts are one list, where the sites are and each has one verdict
pub verdicts_same : (P Q : TrackedSite → Verdict → Type 0) → ((t : TrackedSite) (v w : Verdict) → P t v → Q t w → v ≡ w)
    → (xs ys : List (TrackedSite × Verdict)) → map (λ (f : TrackedSite × Verdict). f.0) xs ≡ map (λ (f : TrackedSite × Verdict). f.0) ys
    → All (λ (f : TrackedSite × Verdict). P f.0 f.1) xs → All (λ (f : TrackedSite × Verdict). Q f.0 f.1) ys → xs ≡ ys
verdicts_same P Q one [] [] e h k = refl
verdicts_same P Q one [] (y ∷ ys) e h k = absurd cc
verdicts_same P Q one (x ∷ xs) [] e h k = absurd cc
verdicts_same P Q one (x ∷ xs) (y ∷ ys) e h k =
    let site : x.0 ≡ y.0 = cc in
    let sites : map (λ (f : TrackedSite × Verdict). f.0) xs ≡ map (λ (f : TrackedSite × Verdict). f.0) ys = cc in
    let here = subst (λ (t : TrackedSite). P t x.1) site (All-head (λ (f : TrackedSite × Verdict). P f.0 f.1) x xs h) in
    let verdict = one y.0 x.1 y.1 here (All-head (λ (f : TrackedSite × Verdict). Q f.0 f.1) y ys k) in
    let left = All-tail (λ (f : TrackedSite × Verdict). P f.0 f.1) x xs h in
    let right = All-tail (λ (f : TrackedSite × Verdict). Q f.0 f.1) y ys k in
    let rest = verdicts_same P Q one xs ys sites left right in
    (λ i. (site i, verdict i) ∷ rest i)

answer_same : (a b : Bool) (P : Type 0) → (IsTrue a ↔ P) → (IsTrue b ↔ P) → a ≡ b
answer_same true true P x y = refl
answer_same true false P x y = sym (y.1 (x.0 refl))
answer_same false true P x y = x.1 (y.0 refl)
answer_same false false P x y = refl

-- ---- the report

module _ (x : Subject) (gives : GivenAs) (S : Fact → Type 0) where
  -- the tracked sites are one list
  pub sites_same : (upper : List ℕ) (xs ys : List TrackedSite) → AreTracked x.program gives S upper xs → AreTracked x.program gives S upper ys → xs ≡ ys
  sites_same upper xs ys a b =
      order_same xs ys a.order b.order (record { there = λ t h. (b.those t).1 ((a.those t).0 h) }) (record { there = λ t h. (a.those t).1 ((b.those t).0 h) })

  module _ (w : Asked) where
    verdict_same : (t : TrackedSite) (v u : Verdict) → IsVerdict x gives S w t v → IsVerdict x gives S w t u → v ≡ u
    verdict_same t v u a b = verdict_is_one (SafeBy x gives S w.depth w.fact_limit (site_in x.program t)) (AtLimitBy x gives S w.depth w.fact_limit (site_in x.program t)) w.stages v u a b

    same_report : (l m : List (List ℕ)) (a b : Bool) → IsReport x gives S w l a → IsReport x gives S w m b → (l ≡ m) × (a ≡ b)
    same_report l m a b r q =
        let site = λ (f : TrackedSite × Verdict). f.0 in
        let sites = sites_same x.property.class_name (map site r.found) (map site q.found) r.tracked q.tracked in
        let found = verdicts_same (IsVerdict x gives S w) (IsVerdict x gives S w) verdict_same r.found q.found sites r.verdicts q.verdicts in
        let safe = subst (λ (fs : List (TrackedSite × Verdict)). IsTrue a ↔ All (λ (f : TrackedSite × Verdict). IsTrue (is_safe f.1)) fs) found r.safe in (
          r.lines_are ∙ ap (report_lines x.program) found ∙ sym q.lines_are,
          answer_same a b (All (λ (f : TrackedSite × Verdict). IsTrue (is_safe f.1)) q.found) safe q.safe,
        )

-- by the same facts there is one report
pub report_same : (x : Subject) (gives : GivenAs) (w : Asked) (S T : Fact → Type 0) → ((fact : Fact) → S fact → T fact) → ((fact : Fact) → T fact → S fact)
    → (l m : List (List ℕ)) (a b : Bool) → IsReport x gives S w l a → IsReport x gives T w m b → (l ≡ m) × (a ≡ b)
report_same x gives w S T to back l m a b r q = same_report x gives T w l m a b (report_into x gives S T to back w l a r) q
