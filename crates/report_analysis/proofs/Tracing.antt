-- What is told of sites, beside their verdicts.
use Rattle.std.proofs.Common.{◌≡◌, ◌∙◌, ◌≤◌, ℕ, zero, suc, Bool, true, false, ◌&&◌, nat_le, List, [], ◌∷◌, length, get_or, map, Option, Some, None, refl, sym, ap, subst, arith, leb-true, le-leb}
use Rattle.std.specs.Prelude.{zip}
use Rattle.std.specs.List.{All, AllZip, Contains, slice_get}
use Rattle.std.specs.declared.vec.Vec.{Vec}
use Rattle.std.specs.declared.alloc.Global.{Global}
use Rattle.std.proofs.lemmas.Bool.{and_parts}
use Rattle.std.proofs.lemmas.List.Elements.{All-head, All-tail}
use Rattle.std.proofs.lemmas.Option.{get_or_from_slice_get, none-some, same_Some}
use Rattle.list_laws.proofs.Members.{contains_first, contains_later}
use Rattle.jvm_model.specs.declared.number.SiteNo.{SiteNo}
use Rattle.jvm_model.specs.declared.site.Site.{Site}
use Rattle.machine_bytecode.specs.Objects.{Subject}
use Rattle.op_model.specs.Supplies.{GivenAs}
use Rattle.points_to_rules.specs.Facts.{Fact}
use Rattle.ground.specs.Findings.{gives_listed}
use Rattle.prune_stage.specs.Pruning.{IsPruned}
use Rattle.site_report.specs.declared.tracked_site.TrackedSite.{TrackedSite}
use Rattle.site_report.specs.declared.verdict.Verdict.{Verdict}
use Rattle.site_report.specs.declared.verdict.Verdict.TheVariants.{Unproved}
use Rattle.site_report.specs.Sites.{site_in}
use Rattle.report_spec.specs.Reports.{is_unproved}
use Rattle.report_spec.specs.Traces.{IsTraceIf, are_told, has_trace}
use Rattle.report_spec.specs.Verdicts.{Asked}
use Rattle.report_spec.proofs.Traced.{and_false}
use Rattle.stage_verdicts.specs.declared.asked.LaterStages.{LaterStages}
use Rattle.stage_verdicts.specs.LaterVerdicts.{IsAsked, IsLeftBy, IsSubjectOf, IsTraceText}
use Rattle.report_analysis.specs.Judging.{AreEmpty, IsKnown, IsToldBelow, IsToldBelowBy, asked_in}
use Rattle.report_analysis.specs.Later.{IsVerdictOf, subject_in}
use Rattle.report_analysis.specs.Numbers.{IsNumberOf}
use Rattle.report_analysis.specs.Written.{verdict_of}
use Rattle.report_analysis.proofs.StageVerdicts.{pruned_is_safe}

-- ---- where nothing is told

module _ (x : Subject) (gives : GivenAs) (S : Fact → Type 0) (w : Asked) (trace : Bool) where
  nothing_below : (f : TrackedSite × Verdict) (t : Vec ℕ Global) → has_trace trace w.stages f.1 ≡ false → t.items ≡ [] → IsToldBelow x gives S w trace f t
  nothing_below f t none empty =
      record { edges = []; told = subst (λ (b : Bool). IsTraceIf x gives S w (site_in x.program f.0) b []) (sym none) refl; text_is = empty }

  -- derivations are not told of any site
  pub none_told : are_told trace w.stages ≡ false → (sites : List TrackedSite) (verdicts : List Verdict) (traces : List (Vec ℕ Global)) → length verdicts ≡ length sites
      → AreEmpty (length sites) traces → AllZip (IsToldBelow x gives S w trace) (zip sites verdicts) traces
  none_told none [] [] [] long empty = tt
  none_told none [] [] (t ∷ traces) long empty = absurd (let more = empty.long in omega (arith, more))
  none_told none [] (v ∷ verdicts) traces long empty = absurd (omega (arith, long))
  none_told none (s ∷ sites) [] traces long empty = absurd (omega (arith, long))
  none_told none (s ∷ sites) (v ∷ verdicts) [] long empty = absurd (let more = empty.long in omega (arith, more))
  none_told none (s ∷ sites) (v ∷ verdicts) (t ∷ traces) long empty = (
    nothing_below (s, v) t (ap (λ (b : Bool). is_unproved v && b) none ∙ and_false (is_unproved v)) (All-head (λ (u : Vec ℕ Global). u.items ≡ []) t traces empty.each),
    none_told none sites verdicts traces (omega (arith, long))
        (record { long = (let more = empty.long in omega (arith, more)); each = All-tail (λ (u : Vec ℕ Global). u.items ≡ []) t traces empty.each }),
  )

  -- nor where the first stage is enough
  pub none_by_first : (sites : List TrackedSite) (answers : List Bool) (traces : List (Vec ℕ Global)) → (Contains answers false → w.stages ≡ 1) → length answers ≡ length sites
      → AreEmpty (length sites) traces → AllZip (IsToldBelow x gives S w trace) (zip sites (map verdict_of answers)) traces
  none_by_first [] [] [] enough long empty = tt
  none_by_first [] [] (t ∷ traces) enough long empty = absurd (let more = empty.long in omega (arith, more))
  none_by_first [] (b ∷ answers) traces enough long empty = absurd (omega (arith, long))
  none_by_first (s ∷ sites) [] traces enough long empty = absurd (omega (arith, long))
  none_by_first (s ∷ sites) (b ∷ answers) [] enough long empty = absurd (let more = empty.long in omega (arith, more))
  none_by_first (s ∷ sites) (b ∷ answers) (t ∷ traces) enough long empty = (
    nothing_below (s, verdict_of b) t (by b (λ is. enough (subst (λ (c : Bool). Contains (b ∷ answers) c) is (contains_first b answers))))
        (All-head (λ (u : Vec ℕ Global). u.items ≡ []) t traces empty.each),
    none_by_first sites answers traces (λ later. enough (contains_later b false answers later)) (omega (arith, long))
        (record { long = (let more = empty.long in omega (arith, more)); each = All-tail (λ (u : Vec ℕ Global). u.items ≡ []) t traces empty.each }),
  )
    where
      one_stage : w.stages ≡ 1 → are_told trace w.stages ≡ false
      one_stage first = ap (λ (n : ℕ). trace && nat_le 2 n) first ∙ and_false trace

      by : (answer : Bool) → (answer ≡ false → w.stages ≡ 1) → has_trace trace w.stages (verdict_of answer) ≡ false
      by true one = refl
      by false one = one_stage (one refl)

-- ---- where derivations are told

pub told_parts : (trace : Bool) (stages : ℕ) → are_told trace stages ≡ true → (trace ≡ true) × (2 ≤ stages)
told_parts trace stages is = let both = and_parts trace (nat_le 2 stages) is in (both.0, leb-true 2 stages both.1)

-- a pair stands where its parts do
pub pair_stands : (sites : List TrackedSite) (verdicts : List Verdict) (i : ℕ) (t : TrackedSite) (v : Verdict) → slice_get sites i ≡ Some t → slice_get verdicts i ≡ Some v
    → slice_get (zip sites verdicts) i ≡ Some (t, v)
pair_stands [] verdicts i t v at given = absurd (none-some t at)
pair_stands (x ∷ sites) [] i t v at given = absurd (none-some v given)
pair_stands (x ∷ sites) (u ∷ verdicts) zero t v at given =
    let site = same_Some x t at in
    let verdict = same_Some u v given in
    (λ j. Some (site j, verdict j))
pair_stands (x ∷ sites) (u ∷ verdicts) (suc i) t v at given = pair_stands sites verdicts i t v at given

pub subject_of_own : (a : LaterStages) → IsSubjectOf a (subject_in a)
subject_of_own a = record { program = refl; entry = refl; property = refl }

-- what is asked of is one subject
pub subject_same : (a : LaterStages) (x : Subject) → IsSubjectOf a x → subject_in a ≡ x
subject_same a x is =
    let program = sym is.program in
    let property = sym is.property in
    let entry = sym is.entry in
    (λ i. record { program = program i; property = property i; entry = entry i })

module _ (a : LaterStages) (asked : IsAsked a) (two : 2 ≤ a.stages) (t : TrackedSite) where
  abbrev s : Site
  s = site_in a.ground.now.program t

  -- an unproved site is left open by the last stage
  pub left_open : IsVerdictOf a t Unproved → (number : SiteNo) → slice_get a.ground.now.sites number.0 ≡ Some s → (x : Subject) (other : Site) → IsSubjectOf a x
      → slice_get a.ground.now.sites number.0 ≡ Some other → IsLeftBy a x other a.stages
  left_open verdict number stands x other subject at =
      let one : 1 ≤ a.stages = (omega (arith, two)) in
      let last : a.stages ≤ a.stages = (omega arith) in
      let here : IsLeftBy a (subject_in a) s a.stages = (verdict.0.none a.stages one last, verdict.1.none a.stages one last) in
      subst (λ (y : Subject). IsLeftBy a y other a.stages) (subject_same a x subject)
      (subst (λ (o : Site). IsLeftBy a (subject_in a) o a.stages) (same_Some s other (sym stands ∙ at)) here)

  -- the lines of a derivation are what is told of it
  pub told_unproved : (text : Vec ℕ Global) → IsTraceText a (subject_in a) s text.items → IsToldBelowBy a true (t, Unproved) text
  told_unproved text is =
      let here : are_told true a.stages ≡ true = le-leb 2 a.stages two in
      record {
        edges = is.edges;
        told = subst (λ (b : Bool). IsTraceIf (subject_in a) (gives_listed a.ground.now.methods) (Contains a.ground.now.facts) (asked_in a) s b is.edges) (sym here) is.derivation;
        text_is = is.text_is;
      }

  -- a site that the first stage proves safe is not unproved
  pub never_unproved : IsPruned (gives_listed a.ground.now.methods) (Contains a.ground.now.facts) a.automaton.now s → IsVerdictOf a t Unproved → ⊥
  never_unproved pruned verdict =
      let safe = pruned_is_safe (subject_in a) (gives_listed a.ground.now.methods) (Contains a.ground.now.facts) (asked_in a) asked.some s pruned in
      verdict.0.none 1 (omega arith) asked.some safe.has

-- ---- at a place

module _ (a : LaterStages) (sites : List TrackedSite) (verdicts : List Verdict) (i : ℕ) (t : TrackedSite) (v : Verdict) (at : slice_get sites i ≡ Some t)
    (beside : slice_get verdicts i ≡ Some v) where
  -- what is found at the place is known
  pub known_at : (d : TrackedSite) (e : Verdict) (number : Option SiteNo) → IsVerdictOf a t v → IsNumberOf a.ground.now (site_in a.ground.now.program t) number
      → IsKnown a (record { site = get_or sites i d; verdict = get_or verdicts i e; number = number })
  known_at d e number verdict is =
      let site = sym (get_or_from_slice_get sites i t d at) in
      let same = sym (get_or_from_slice_get verdicts i v e beside) in
      record {
        verdict = subst (λ (u : TrackedSite). IsVerdictOf a u (get_or verdicts i e)) site (subst (λ (w : Verdict). IsVerdictOf a t w) same verdict);
        number = subst (λ (u : TrackedSite). IsNumberOf a.ground.now (site_in a.ground.now.program u) number) site is;
      }

  pub told_at : (d : TrackedSite) (e : Verdict) (text : Vec ℕ Global) → IsToldBelowBy a true (get_or sites i d, get_or verdicts i e) text → IsToldBelowBy a true (t, v) text
  told_at d e text told =
      let of_site = subst (λ (u : TrackedSite). IsToldBelowBy a true (u, get_or verdicts i e) text) (get_or_from_slice_get sites i t d at) told in
      subst (λ (w : Verdict). IsToldBelowBy a true (t, w) text) (get_or_from_slice_get verdicts i v e beside) of_site
