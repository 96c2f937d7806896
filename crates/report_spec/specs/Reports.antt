-- Public contracts rest on this module.
-- The report that tells the verdict of each tracked site.
use Rattle.std.specs.Prelude.{◌≡◌, ◌↔◌, ℕ, Bool, true, false, List, [], ◌∷◌, ◌++◌, map, count_by, All, IsTrue}
use Rattle.jvm_model.specs.Programs.{Program}
use Rattle.machine_bytecode.specs.Objects.{Subject}
use Rattle.op_model.specs.Supplies.{GivenAs}
use Rattle.points_to_rules.specs.Facts.{Fact}
use Rattle.site_report.specs.declared.tracked_site.TrackedSite.{TrackedSite}
use Rattle.site_report.specs.declared.verdict.Verdict.{Verdict}
use Rattle.site_report.specs.declared.verdict.Verdict.TheVariants.{Safe, Unproved, Limit}
use Rattle.site_report.specs.Lines.{verdict_line, summary_line}
use Rattle.report_spec.specs.Tracked.{AreTracked}
use Rattle.report_spec.specs.Verdicts.{Asked, IsVerdict}

-- What a verdict says.
abbrev pub is_safe : Verdict → Bool
is_safe (Safe stage) = true
is_safe Unproved = false
is_safe (Limit stage) = false

abbrev pub is_unproved : Verdict → Bool
is_unproved (Safe stage) = false
is_unproved Unproved = true
is_unproved (Limit stage) = false

abbrev pub is_limit : Verdict → Bool
is_limit (Safe stage) = false
is_limit Unproved = false
is_limit (Limit stage) = true

-- A site with its verdict.
abbrev pub line_of : Program → TrackedSite × Verdict → List ℕ
line_of p found = verdict_line p found.0 found.1

-- The summary of what is found.
abbrev pub summary_of : List (TrackedSite × Verdict) → List ℕ
summary_of found =
    summary_line (count_by (λ (f : TrackedSite × Verdict). is_safe f.1) found) (count_by (λ (f : TrackedSite × Verdict). is_unproved f.1) found)
    (count_by (λ (f : TrackedSite × Verdict). is_limit f.1) found)

-- The lines of a report: those of the sites, and the summary.
abbrev pub report_lines : Program → List (TrackedSite × Verdict) → List (List ℕ)
report_lines p found = map (line_of p) found ++ summary_of found ∷ []

-- The report on what is asked has one line for each tracked site, in the order of a report, with its verdict, and then the summary; and says whether all
-- are safe.
pub record IsReport (x : Subject) (gives : GivenAs) (S : Fact → Type 0) (w : Asked) (lines : List (List ℕ)) (all_safe : Bool) : Type 0 where
  pub found : List (TrackedSite × Verdict)
  pub tracked : AreTracked x.program gives S x.property.class_name (map (λ (f : TrackedSite × Verdict). f.0) found)
  pub verdicts : All (λ (f : TrackedSite × Verdict). IsVerdict x gives S w f.0 f.1) found
  pub lines_are : lines ≡ report_lines x.program found
  pub safe : IsTrue all_safe ↔ All (λ (f : TrackedSite × Verdict). IsTrue (is_safe f.1)) found
