-- Public contracts rest on this module.
-- The report on a program, and the sites that it is about.
use Rattle.std.specs.Prelude.{ℕ, Bool, List, Contains}
use Rattle.ts_outside.specs.Files.{File}
use Rattle.machine_bytecode.specs.Objects.{Subject}
use Rattle.lowering_supply.specs.Supplied.{IsSupplied}
use Rattle.points_to_rules.specs.Solutions.{IsSolution}
use Rattle.points_to_rules.specs.Facts.{Fact}
use Rattle.report_spec.specs.AllFacts.{AreAllFacts}
use Rattle.report_spec.specs.Traces.{IsTracedReport}
use Rattle.report_spec.specs.Tracked.{IsTracked}
use Rattle.report_spec.specs.Verdicts.{Asked}
use Rattle.run_spec.specs.RunSubjects.{IsRunOf}
use Rattle.site_report.specs.declared.tracked_site.TrackedSite.{TrackedSite}
use Rattle.run_soundness.specs.Truth.{IsTrueLine}

-- The lines are the report on the program, on what is asked and by the least facts of its analysis, which has a solution; with derivations if they are asked for.
pub record IsReportOf (x : Subject) (w : Asked) (trace : Bool) (facts : List Fact) (lines : List (List ℕ)) (all_safe : Bool) : Type 0 where
  pub found : List Fact
  pub limit : ℕ
  pub solution : IsSolution x.program (IsSupplied x.program) (record { 0 = x.entry }) limit found
  pub of_all : AreAllFacts x.program (IsSupplied x.program) (record { 0 = x.entry }) facts
  pub report : IsTracedReport x (IsSupplied x.program) (Contains facts) w trace lines all_safe

-- The report is about the site: methods that may run, by the least facts of the analysis, make objects of the property's class or of one below it there.
pub record IsReportedSite (x : Subject) (t : TrackedSite) : Type 0 where
  pub found : List Fact
  pub limit : ℕ
  pub solution : IsSolution x.program (IsSupplied x.program) (record { 0 = x.entry }) limit found
  pub facts : List Fact
  pub of_all : AreAllFacts x.program (IsSupplied x.program) (record { 0 = x.entry }) facts
  pub tracked : IsTracked x.program (IsSupplied x.program) (Contains facts) x.property.class_name t

-- The line is true, and of a site that the report is about.
pub record IsReportedLine (x : Subject) (line : List ℕ) : Type 0 where
  pub told : IsTrueLine x line
  pub about : IsReportedSite x told.site

-- So it is of the program, the property and the entry that words and files give.
pub record IsReportedOfRun (words : List (List ℕ)) (files : List File) (line : List ℕ) : Type 0 where
  pub x : Subject
  pub run : IsRunOf words files x
  pub reported : IsReportedLine x line
