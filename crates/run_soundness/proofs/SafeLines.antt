-- The lines of a report that say that a site is safe are true, and of sites that the report is about, where each verdict of that is.
use Rattle.std.proofs.Common.{◌≡◌, ℕ, Bool, true, List, [], ◌∷◌, map, All, IsTrue, refl, ap, nat_eq}
use Rattle.std.proofs.lemmas.List.Elements.{All-cons, All-head, All-nil, All-tail}
use Rattle.jvm_model.specs.declared.site.Site.{Site}
use Rattle.std.specs.Prelude.{slice_index_or}
use Rattle.machine_bytecode.specs.Executions.{Errs}
use Rattle.machine_bytecode.specs.Objects.{Subject}
use Rattle.site_report.specs.declared.tracked_site.TrackedSite.{TrackedSite}
use Rattle.site_report.specs.declared.verdict.Verdict.{Verdict}
use Rattle.site_report.specs.declared.verdict.Verdict.TheVariants.{Safe, Unproved, Limit}
use Rattle.site_report.specs.Lines.{summary_line, verdict_line}
use Rattle.site_report.specs.Sites.{site_in}
use Rattle.report_spec.specs.Reports.{is_safe, line_of}
use Rattle.report_spec.specs.Traces.{trace_line, traced_lines}
use Rattle.report_spec.proofs.Traced.{all_traced}
use Rattle.stage_edges.specs.Rules.{Edge}
use Rattle.run_soundness.specs.Truth.{IsTrueLine, SaysSafe}

-- the second letter of the word that says that a site is safe
abbrev pub has_a : List ℕ → Bool
has_a line = nat_eq (slice_index_or line 1 0) 97

pub says_a : (line : List ℕ) → SaysSafe line → has_a line ≡ true
says_a line (rest, e) = ap has_a e

module _ (x : Subject) (V : TrackedSite → Verdict → Type 0) (never : (t : TrackedSite) (stage : ℕ) → V t (Safe stage) → Errs x (site_in x.program t) → ⊥)
    (About : TrackedSite → Type 0) (about : (t : TrackedSite) (v : Verdict) → V t v → About t) where
  -- the line is true, and what is known of each site is known of its site
  abbrev pub IsTold : List ℕ → Type 0
  IsTold line = (told : IsTrueLine x line) × About told.site

  one : (t : TrackedSite) (v : Verdict) → V t v → SaysSafe (verdict_line x.program t v) → IsTold (verdict_line x.program t v)
  one t (Safe stage) is safe = (record { site = t; stage = stage; is = refl; never = never t stage is }, about t (Safe stage) is)
  one t Unproved is safe = absurd (cc (says_a (verdict_line x.program t Unproved) safe))
  one t (Limit stage) is safe = absurd (cc (says_a (verdict_line x.program t (Limit stage)) safe))

  abbrev pub Q : List ℕ → Type 0
  Q line = SaysSafe line → IsTold line

  abbrev pub W : TrackedSite × Verdict → Type 0
  W f = V f.0 f.1

  of_sites : (found : List (TrackedSite × Verdict)) → All W found → All Q (map (line_of x.program) found)
  of_sites [] all = All-nil Q
  of_sites (f ∷ found) all =
      All-cons Q (line_of x.program f) (map (line_of x.program) found) (one f.0 f.1 (All-head W f found all)) (of_sites found (All-tail W f found all))

  of_summary : (safe unproved limit : ℕ) → SaysSafe (summary_line safe unproved limit) → IsTold (summary_line safe unproved limit)
  of_summary safe unproved limit says = absurd (cc (says_a (summary_line safe unproved limit) says))

  of_edge : (n : ℕ) (s : Site) (e : Edge) → SaysSafe (trace_line n s e) → IsTold (trace_line n s e)
  of_edge n s e says = absurd (cc (says_a (trace_line n s e) says))

  -- of a whole report, with derivations
  pub of_report : (n : ℕ) (found : List (TrackedSite × Verdict)) (traces : List (List Edge)) → All W found → All Q (traced_lines x.program n found traces)
  of_report n found traces all = all_traced Q x.program n (of_edge n) found traces (of_sites found all) (of_summary _ _ _)

  -- a site that is found safe never errs
  one_safe : (t : TrackedSite) (v : Verdict) → V t v → IsTrue (is_safe v) → Errs x (site_in x.program t) → ⊥
  one_safe t (Safe stage) is safe = never t stage is
  one_safe t Unproved is safe = absurd (cc safe)
  one_safe t (Limit stage) is safe = absurd (cc safe)

  abbrev pub NeverErrs : TrackedSite → Type 0
  NeverErrs t = Errs x (site_in x.program t) → ⊥

  abbrev pub IsFoundSafe : TrackedSite × Verdict → Type 0
  IsFoundSafe f = IsTrue (is_safe f.1)

  pub each_safe : (found : List (TrackedSite × Verdict)) → All W found → All IsFoundSafe found → All NeverErrs (map (λ (f : TrackedSite × Verdict). f.0) found)
  each_safe [] all safe = All-nil NeverErrs
  each_safe (f ∷ found) all safe =
      All-cons NeverErrs f.0 (map (λ (g : TrackedSite × Verdict). g.0) found) (one_safe f.0 f.1 (All-head W f found all) (All-head IsFoundSafe f found safe))
      (each_safe found (All-tail W f found all) (All-tail IsFoundSafe f found safe))
