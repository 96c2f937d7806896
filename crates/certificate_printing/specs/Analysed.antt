-- This crate's own proofs alone rest on this module.
-- What the lines of claims are made of.
use Rattle.std.specs.Prelude.{◌≡◌, ◌↔◌, ◌⊎◌, ℕ, List, Some, slice_get, Contains}
use Rattle.jvm_model.specs.Automata.{IsAutomaton}
use Rattle.jvm_model.specs.declared.site.Site.{Site}
use Rattle.machine_bytecode.specs.Objects.{Subject}
use Rattle.op_model.specs.Supplies.{GivenAs}
use Rattle.lowering_supply.specs.Supplied.{IsSupplied}
use Rattle.points_to_rules.specs.Facts.{Fact}
use Rattle.ground_views.specs.Views.{AreViewsOf}
use Rattle.site_report.specs.declared.tracked_site.TrackedSite.{TrackedSite}
use Rattle.site_report.specs.declared.verdict.Verdict.{Verdict}
use Rattle.site_report.specs.declared.verdict.Verdict.TheVariants.{Safe, Unproved, Limit}
use Rattle.site_report.specs.Sites.{site_in}
use Rattle.stage_edges.specs.Rules.{Edge}
use Rattle.report_spec.specs.Verdicts.{Asked, IsVerdict}
use Rattle.report_analysis.specs.Analyses.{IsAnalysis}
use Rattle.report_analysis.specs.Claims.{IsEdgeAt}
use Rattle.report_analysis.specs.Numbers.{IsNumberOf}
use Rattle.report_analysis.specs.Stages.{AreInRange, asked_of, subject_of}
use Rattle.report_analysis.specs.declared.claims.JudgedSites.{JudgedSites}
use Rattle.report_analysis.specs.declared.claims.SafeSite.{SafeSite}
use Rattle.certificate_lines.specs.declared.line.Line.{Line}
use Rattle.certificate_lines.specs.declared.line.Line.TheVariants as lines
use Rattle.certificate_spec.specs.Certificates.{DoAscend, IsTold}
use Rattle.certificate_printing.specs.Collected.{IsEdgeLine}
use Rattle.certificate_printing.specs.declared.claims.Analysed.{Analysed}

-- The program and its entry, with the property; the supplier of its methods; its facts; and what is asked.
abbrev pub subject_in : Analysed → Subject
subject_in a = subject_of a.ground.now.program a.automaton.now a.asked

abbrev pub gives_in : Analysed → GivenAs
gives_in a = IsSupplied a.ground.now.program

abbrev pub facts_in : Analysed → Fact → Type 0
facts_in a = Contains a.ground.now.facts

abbrev pub site_of : Analysed → TrackedSite → Site
site_of a t = site_in a.ground.now.program t

abbrev pub HasVerdict : Analysed → TrackedSite → Verdict → Type 0
HasVerdict a = IsVerdict (subject_in a) (gives_in a) (facts_in a) (asked_of a.asked)

-- It is an analysis of the program, with the views of its ground.
pub record IsAnalysed (a : Analysed) : Type 0 where
  pub automaton : IsAutomaton a.automaton.now
  pub asked : AreInRange (asked_of a.asked)
  pub analysis : (limit : ℕ) × IsAnalysis a.ground.now.program (IsSupplied a.ground.now.program) a.asked.entry limit a.ground.now
  pub views : AreViewsOf a.ground.now a.asked.entry a.views.now

-- The site is safe by the stage, and the number is that of the ground, if it has one.
pub record IsSafeSite (a : Analysed) (safe : SafeSite) : Type 0 where
  pub verdict : HasVerdict a safe.site (Safe safe.stage)
  pub number : IsNumberOf a.ground.now (site_of a safe.site) safe.number

-- It is a path edge of the site at the stage.
abbrev pub HasEdge : Analysed → TrackedSite → (stage : ℕ) → Edge → Type 0
HasEdge a t stage e = IsEdgeAt (subject_in a) (gives_in a) (facts_in a) a.asked.depth (site_of a t) stage e

-- It is the line of such an edge.
abbrev pub IsOwnEdgeLine : Analysed → TrackedSite → (stage : ℕ) → Line → Type 0
IsOwnEdgeLine a t stage line = (e : Edge) × HasEdge a t stage e × IsEdgeLine stage (site_of a t) e line

-- It is a line of a site that is safe by the stage: its claim, or one of a path edge.
abbrev pub IsSafeLine : Analysed → TrackedSite → (stage : ℕ) → Line → Type 0
IsSafeLine a t stage line = (lines.Claim stage (site_of a t) ≡ line) ⊎ IsOwnEdgeLine a t stage line

-- It is a line of a site with the verdict.
abbrev pub IsVerdictLine : Analysed → TrackedSite → Verdict → Line → Type 0
IsVerdictLine a t (Safe stage) line = IsSafeLine a t stage line
IsVerdictLine a t Unproved line = ⊥
IsVerdictLine a t (Limit stage) line = ⊥

-- It is a line of the site at the place, by its verdict.
pub record IsClaimLine (a : Analysed) (j : JudgedSites) (place : ℕ) (line : Line) : Type 0 where
  pub site : TrackedSite
  pub verdict : Verdict
  pub stands : slice_get j.sites.items place ≡ Some site
  pub beside : slice_get j.verdicts.items place ≡ Some verdict
  pub is : IsVerdictLine a site verdict line

-- They are the lines that are told, in order.
pub record IsBody (x : Subject) (gives : GivenAs) (S : Fact → Type 0) (w : Asked) (body : List Line) : Type 0 where
  pub told : (line : Line) → Contains body line ↔ IsTold x gives S w line
  pub ascend : DoAscend body
