-- What a report says of safe sites is true.
use Rattle.std.proofs.Common.{◌≡◌, ℕ, Bool, true, List, [], ◌∷◌, All, Contains, map, sym, subst}
use Rattle.std.proofs.lemmas.List.Elements.{All-contains, All-cons, All-head, All-nil, All-tail, All-weaker}
use Rattle.jvm_model.specs.declared.site.Site.{Site}
use Rattle.jvm_model.specs.LinkedPrograms.{IsProgram}
use Rattle.machine_bytecode.specs.Executions.{Errs}
use Rattle.machine_bytecode.specs.Objects.{Subject}
use Rattle.lowering_supply.specs.Supplied.{IsSupplied}
use Rattle.program_laws.proofs.Orders.{first_there, more_there}
use Rattle.least_sets.specs.Rules.{IsClosedSet}
use Rattle.points_to_rules.specs.Facts.{Fact}
use Rattle.points_to_rules.specs.Refusals.{IsUnrefused}
use Rattle.points_to_rules.specs.Writes.{AnyInstance}
use Rattle.simulation.specs.Simulation.{HasEntry, HasExceptions}
use Rattle.site_report.specs.declared.tracked_site.TrackedSite.{TrackedSite}
use Rattle.site_report.specs.declared.verdict.Verdict.{Verdict}
use Rattle.site_report.specs.declared.verdict.Verdict.TheVariants.{Safe}
use Rattle.site_report.specs.Sites.{site_in}
use Rattle.report_spec.specs.Traces.{IsTracedReport}
use Rattle.report_spec.specs.Tracked.{IsTracked}
use Rattle.report_spec.specs.Verdicts.{Asked, IsVerdict, SafeBy, by_events, by_edges}
use Rattle.stage_transfer.specs.Settings.{Setting}
use Rattle.stage_edges.specs.Edges.{IsSafeBelow}
use Rattle.stage_soundness.specs.Describing.{IsOwnSite}
use Rattle.run_soundness.proofs.StageSites.{tracked_is_own}
use Rattle.run_soundness.proofs.SafeLines.{of_report, each_safe, IsTold, NeverErrs}
use Rattle.run_soundness.proofs.Verdicts.{closed_never_errs, least_are_closed}
use Rattle.run_soundness.specs.ClosedFacts.{AreClosedFacts}
use Rattle.run_soundness.specs.Reports.{IsReportOf, IsReportedLine, IsReportedSite}
use Rattle.run_soundness.specs.Truth.{IsTrueLine, SaysSafe}

-- what holds of each of some sites holds of each with its verdict
with_sites : (V : TrackedSite → Verdict → Type 0) (P : TrackedSite → Type 0) (found : List (TrackedSite × Verdict)) → All (λ (f : TrackedSite × Verdict). V f.0 f.1) found
    → ((t : TrackedSite) → Contains (map (λ (f : TrackedSite × Verdict). f.0) found) t → P t) → All (λ (f : TrackedSite × Verdict). V f.0 f.1 × P f.0) found
with_sites V P [] all each = All-nil (λ (f : TrackedSite × Verdict). V f.0 f.1 × P f.0)
with_sites V P (f ∷ found) all each =
    let sites = map (λ (g : TrackedSite × Verdict). g.0) found in
    let rest = with_sites V P found (All-tail (λ (g : TrackedSite × Verdict). V g.0 g.1) f found all) (λ t there. each t (more_there f.0 t sites there)) in
    All-cons (λ (g : TrackedSite × Verdict). V g.0 g.1 × P g.0) f found (All-head (λ (g : TrackedSite × Verdict). V g.0 g.1) f found all, each f.0 (first_there f.0 sites)) rest

-- Where a stage of path edges proves one of the program's own sites safe, the site never errs.
abbrev pub EdgesNeverErr : Type 0
EdgesNeverErr = (x : Subject) (facts : List Fact) (w : Setting) (limit : ℕ) → IsProgram x.program → HasExceptions x.program → HasEntry x
    → IsClosedSet (AnyInstance x.program (IsSupplied x.program) (record { 0 = x.entry })) (Contains facts) → IsUnrefused x.program (IsSupplied x.program) (Contains facts)
    → IsOwnSite x w.site → IsSafeBelow x (IsSupplied x.program) (Contains facts) w limit → Errs x w.site → ⊥

module _ (never_by_edges : EdgesNeverErr) (x : Subject) (facts : List Fact) (program : IsProgram x.program) (exceptions : HasExceptions x.program) (entry : HasEntry x)
    (are : AreClosedFacts x facts) where
  -- a site that a stage proves safe never errs
  pub safe_never_errs : (depth limit : ℕ) (s : Site) (stage : ℕ) → IsOwnSite x s → SafeBy x (IsSupplied x.program) (Contains facts) depth limit s stage → Errs x s → ⊥
  safe_never_errs depth limit s stage own (by_events first pruned) = closed_never_errs x facts program exceptions entry are s pruned
  safe_never_errs depth limit s stage own (by_edges setting of below) = λ e.
      never_by_edges x facts setting limit program exceptions entry are.closed are.unrefused (subst (IsOwnSite x) (sym of.site) own) below
      (subst (Errs x) (sym of.site) e)

-- the report on a program by some facts
abbrev pub IsReportBy : Subject → Asked → (trace : Bool) → List Fact → List (List ℕ) → Bool → Type 0
IsReportBy x w trace facts lines all_safe = IsTracedReport x (IsSupplied x.program) (Contains facts) w trace lines all_safe

module _ (never_by_edges : EdgesNeverErr) (x : Subject) (w : Asked) (trace : Bool) (facts : List Fact) (lines : List (List ℕ)) (all_safe : Bool) (program : IsProgram x.program)
    (exceptions : HasExceptions x.program) (entry : HasEntry x) (are : AreClosedFacts x facts) (report : IsReportBy x w trace facts lines all_safe) where
  abbrev pub IsFoundVerdict : TrackedSite → Verdict → Type 0
  IsFoundVerdict t v = IsVerdict x (IsSupplied x.program) (Contains facts) w t v

  abbrev pub IsFoundSite : TrackedSite → Type 0
  IsFoundSite t = IsTracked x.program (IsSupplied x.program) (Contains facts) x.property.class_name t

  module _ (About : TrackedSite → Type 0) (each : (t : TrackedSite) → IsFoundSite t → About t) where
    -- what is known of each site: it is tracked, and more
    abbrev pub Known : TrackedSite → Type 0
    Known t = IsFoundSite t × About t

    -- the verdict of a site, and what is known of it
    abbrev pub V : TrackedSite → Verdict → Type 0
    V t v = IsFoundVerdict t v × Known t

    pub never : (t : TrackedSite) (stage : ℕ) → V t (Safe stage) → Errs x (site_in x.program t) → ⊥
    never t stage is =
        safe_never_errs never_by_edges x facts program exceptions entry are w.depth w.fact_limit (site_in x.program t) stage (tracked_is_own x program (Contains facts) t is.1.0) is.0.has

    pub known : (t : TrackedSite) (v : Verdict) → V t v → About t
    known t v is = is.1.1

    verdicts : All (λ (f : TrackedSite × Verdict). V f.0 f.1) report.report.found
    verdicts =
        with_sites IsFoundVerdict Known report.report.found report.report.verdicts
        (λ t there. let tracked = (report.report.tracked.those t).0 there in (tracked, each t tracked))

    pub lines_told : All (λ (line : List ℕ). SaysSafe line → IsTold x V never About known line) lines
    lines_told =
        subst (λ (ls : List (List ℕ)). All (λ (line : List ℕ). SaysSafe line → IsTold x V never About known line) ls) (sym report.lines_are)
        (of_report x V never About known w.stages report.report.found report.traces verdicts)

    pub sites_never : all_safe ≡ true → (t : TrackedSite) → IsFoundSite t → Errs x (site_in x.program t) → ⊥
    sites_never safe t tracked =
        All-contains (NeverErrs x V never About known) (map (λ (f : TrackedSite × Verdict). f.0) report.report.found) t
        (each_safe x V never About known report.report.found verdicts (report.report.safe.0 safe)) ((report.report.tracked.those t).1 tracked)

  -- nothing more is known of a site
  abbrev Nothing : TrackedSite → Type 0
  Nothing t = Unit {0}

  pub lines_true : All (λ (line : List ℕ). SaysSafe line → IsTrueLine x line) lines
  lines_true =
      All-weaker (λ (line : List ℕ). SaysSafe line → (told : IsTrueLine x line) × Nothing told.site) (λ (line : List ℕ). SaysSafe line → IsTrueLine x line)
      (λ line told says. (told says).0) lines (lines_told Nothing (λ t tracked. tt))

  pub sites_true : all_safe ≡ true → (t : TrackedSite) → IsFoundSite t → Errs x (site_in x.program t) → ⊥
  sites_true = sites_never Nothing (λ t tracked. tt)

module _ (never_by_edges : EdgesNeverErr) (x : Subject) (w : Asked) (trace : Bool) (facts : List Fact) (lines : List (List ℕ)) (all_safe : Bool) (program : IsProgram x.program)
    (exceptions : HasExceptions x.program) (entry : HasEntry x) (told : IsReportOf x w trace facts lines all_safe) where
  pub lines_reported : All (λ (line : List ℕ). SaysSafe line → IsReportedLine x line) lines
  lines_reported =
      All-weaker (λ (line : List ℕ). SaysSafe line → (true_ : IsTrueLine x line) × IsReportedSite x true_.site) (λ (line : List ℕ). SaysSafe line → IsReportedLine x line)
      (λ line is says. record { told = (is says).0; about = (is says).1 }) lines
      (lines_told never_by_edges x w trace facts lines all_safe program exceptions entry (least_are_closed x facts told.of_all) told.report (IsReportedSite x)
      (λ t tracked. record { found = told.found; limit = told.limit; solution = told.solution; facts = facts; of_all = told.of_all; tracked = tracked }))
