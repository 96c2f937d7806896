-- This crate's own proofs alone rest on this module.
-- The report on sites of which the verdicts are known.
use Rattle.std.specs.Prelude.{◌≡◌, ◌↔◌, ◌+◌, ◌<◌, ◌^◌, ◌++◌, ℕ, Bool, true, false, List, zip, count_by, All, Contains, IsTrue}
use Rattle.std.specs.List.{flat_map}
use Rattle.std.specs.declared.vec.Vec.{Vec}
use Rattle.std.specs.declared.alloc.Global.{Global}
use Rattle.jvm_model.specs.Programs.{Program}
use Rattle.site_report.specs.declared.tracked_site.TrackedSite.{TrackedSite}
use Rattle.site_report.specs.declared.verdict.Verdict.{Verdict}
use Rattle.site_report.specs.declared.verdict.Verdict.TheVariants.{Safe, Unproved}
use Rattle.report_spec.specs.Reports.{is_safe, is_unproved, is_limit, line_of, summary_of}
use Rattle.report_analysis.specs.declared.writing.Counts.{Counts}

-- The verdict by the first stage alone: by whether it proves the site safe.
abbrev pub verdict_of : Bool → Verdict
verdict_of true = Safe 1
verdict_of false = Unproved

-- A site that the first stage does not prove safe is there only where no later one is asked for.
pub record FirstSuffices (stages : ℕ) (answers : List Bool) : Type 0 where
  pub each : Contains answers false → stages ≡ 1

-- The line of a site, with what is told below it.
abbrev pub site_text : Program → (TrackedSite × Verdict) × Vec ℕ Global → List ℕ
site_text p told = line_of p told.0 ++ told.1.items

-- The lines of the sites, with these texts.
abbrev pub text_of_sites : Program → List TrackedSite → List Verdict → List (Vec ℕ Global) → List ℕ
text_of_sites p sites verdicts traces = flat_map (site_text p) (zip (zip sites verdicts) traces)

-- So many sites have each verdict, and there are few enough of them.
pub record AreCounts (verdicts : List Verdict) (c : Counts) : Type 0 where
  pub safe : c.safe ≡ count_by is_safe verdicts
  pub unproved : c.unproved ≡ count_by is_unproved verdicts
  pub limit : c.limit ≡ count_by is_limit verdicts
  pub few : c.safe + c.unproved + c.limit < 2 ^ 32

-- The text has a line for each site, in their order, with what is told below it, and then the summary; and it is said whether all are safe.
pub record IsWritten (p : Program) (sites : List TrackedSite) (verdicts : List Verdict) (traces : List (Vec ℕ Global)) (text : List ℕ) (all_safe : Bool) : Type 0 where
  pub text_is : text ≡ text_of_sites p sites verdicts traces ++ summary_of (zip sites verdicts)
  pub safe : IsTrue all_safe ↔ All (λ (v : Verdict). IsTrue (is_safe v)) verdicts
