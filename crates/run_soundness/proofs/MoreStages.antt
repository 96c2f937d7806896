-- More stages take nothing back: a site that is safe by fewer is safe by more, by the same one, so its line is the same.
use Rattle.std.proofs.Common.{◌≡◌, ◌≤◌, ℕ, Bool, List, [], ◌∷◌, All, Contains, map, sym, ap, ◌∙◌, subst}
use Rattle.std.proofs.lemmas.List.Elements.{All-cons, All-head, All-nil, All-tail, All-weaker}
use Rattle.machine_bytecode.specs.Objects.{Subject}
use Rattle.least_sets.proofs.Places.{first, later}
use Rattle.op_model.specs.Supplies.{GivenAs}
use Rattle.points_to_rules.specs.Facts.{Fact}
use Rattle.site_report.specs.declared.tracked_site.TrackedSite.{TrackedSite}
use Rattle.site_report.specs.declared.verdict.Verdict.{Verdict}
use Rattle.site_report.specs.declared.verdict.Verdict.TheVariants.{Safe, Unproved, Limit}
use Rattle.site_report.specs.Lines.{verdict_line}
use Rattle.site_report.specs.Sites.{site_in}
use Rattle.report_spec.specs.Reports.{line_of, summary_of}
use Rattle.report_spec.specs.Traces.{IsTrace, IsTracedReport, trace_line, traced_lines}
use Rattle.report_spec.proofs.Traced.{all_traced, in_traced}
use Rattle.report_spec.specs.Verdicts.{Asked, AtLimitBy, IsVerdict, SafeBy, with_stages}
use Rattle.report_spec.proofs.FirstStages.{safe_stays}
use Rattle.report_spec.proofs.OneReport.{sites_same}
use Rattle.run_soundness.specs.Truth.{SaysSafe}
use Rattle.run_soundness.proofs.SafeLines.{says_a}

-- The lines that say that a site is safe are among the others.
abbrev pub AreKeptIn : List (List ℕ) → List (List ℕ) → Type 0
AreKeptIn others lines = All (λ (line : List ℕ). SaysSafe line → Contains others line) lines

module _ (others : List (List ℕ)) where
  abbrev IsKept : List ℕ → Type 0
  IsKept line = SaysSafe line → Contains others line

  pub kept_with : (lines : List (List ℕ)) (line : List ℕ) → (SaysSafe line → Contains others line) → AreKeptIn others lines → AreKeptIn others (line ∷ lines)
  kept_with lines line one rest = All-cons IsKept line lines one rest

  kept_in_more : (longer lines : List (List ℕ)) → ((line : List ℕ) → Contains others line → Contains longer line) → AreKeptIn others lines → AreKeptIn longer lines
  kept_in_more longer lines more all = All-weaker IsKept (λ (line : List ℕ). SaysSafe line → Contains longer line) (λ line kept says. more line (kept says)) lines all

module _ (run : Subject) (gives : GivenAs) (S : Fact → Type 0) (w : Asked) (more : ℕ) (le : w.stages ≤ more) where
  abbrev IsFirst : TrackedSite × Verdict → Type 0
  IsFirst f = IsVerdict run gives S w f.0 f.1

  abbrev IsSecond : TrackedSite × Verdict → Type 0
  IsSecond f = IsVerdict run gives S (with_stages w more) f.0 f.1

  -- of one site
  line_same : (t : TrackedSite) (v u : Verdict) → IsVerdict run gives S w t v → IsVerdict run gives S (with_stages w more) t u → SaysSafe (verdict_line run.program t v)
      → verdict_line run.program t u ≡ verdict_line run.program t v
  line_same t (Safe stage) u x y says =
      ap (verdict_line run.program t) (safe_stays (SafeBy run gives S w.depth w.fact_limit (site_in run.program t)) (AtLimitBy run gives S w.depth w.fact_limit (site_in run.program t)) w.stages more stage le u x y)
  line_same t Unproved u x y says = absurd (cc (says_a (verdict_line run.program t Unproved) says))
  line_same t (Limit stage) u x y says = absurd (cc (says_a (verdict_line run.program t (Limit stage)) says))

  -- of sites that are the same, one after another
  lines_kept : (xs ys : List (TrackedSite × Verdict)) → map (λ (f : TrackedSite × Verdict). f.0) xs ≡ map (λ (f : TrackedSite × Verdict). f.0) ys → All IsFirst xs
      → All IsSecond ys → AreKeptIn (map (line_of run.program) ys) (map (line_of run.program) xs)
  lines_kept [] ys e h k = All-nil (λ (line : List ℕ). SaysSafe line → Contains (map (line_of run.program) ys) line)
  lines_kept (x ∷ xs) [] e h k = absurd cc
  lines_kept (x ∷ xs) (y ∷ ys) e h k =
      let site : x.0 ≡ y.0 = cc in
      let sites : map (λ (f : TrackedSite × Verdict). f.0) xs ≡ map (λ (f : TrackedSite × Verdict). f.0) ys = cc in
      let here = subst (λ (t : TrackedSite). IsVerdict run gives S w t x.1) site (All-head IsFirst x xs h) in
      let lines = map (line_of run.program) ys in
      let same = ap (λ (t : TrackedSite). verdict_line run.program t x.1) site in
      kept_with (line_of run.program y ∷ lines) (map (line_of run.program) xs) (line_of run.program x)
      (λ says.
      let is = line_same y.0 x.1 y.1 here (All-head IsSecond y ys k) (subst SaysSafe same says) in
      subst (Contains (line_of run.program y ∷ lines)) (is ∙ sym same) (first (line_of run.program y) lines))
      (kept_in_more lines (line_of run.program y ∷ lines) (map (line_of run.program) xs) (λ line there. later (line_of run.program y) lines line there)
      (lines_kept xs ys sites (All-tail IsFirst x xs h) (All-tail IsSecond y ys k)))

  pub safe_lines_kept : (trace other : Bool) (lines others : List (List ℕ)) (all_safe all_of_others : Bool) → IsTracedReport run gives S w trace lines all_safe
      → IsTracedReport run gives S (with_stages w more) other others all_of_others → AreKeptIn others lines
  safe_lines_kept trace other lines others all_safe all_of_others r q =
      let site = λ (f : TrackedSite × Verdict). f.0 in
      let one = r.report in
      let two = q.report in
      let sites = sites_same run gives S run.property.class_name (map site one.found) (map site two.found) one.tracked two.tracked in
      let whole = traced_lines run.program more two.found q.traces in
      let front = kept_in_more (map (line_of run.program) two.found) whole (map (line_of run.program) one.found)
      (λ line there. in_traced (IsTrace run gives S (with_stages w more) other) run.program more two.found q.traces q.told line there)
      (lines_kept one.found two.found sites one.verdicts two.verdicts) in
      let all = all_traced (λ (line : List ℕ). SaysSafe line → Contains whole line) run.program w.stages
      (λ s e says. absurd (cc (says_a (trace_line w.stages s e) says))) one.found r.traces front
      (λ says. absurd (cc (says_a (summary_of one.found) says))) in
      subst (λ (ls : List (List ℕ)). AreKeptIn ls lines) (sym q.lines_are) (subst (AreKeptIn whole) (sym r.lines_are) all)
