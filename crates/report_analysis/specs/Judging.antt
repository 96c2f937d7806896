-- This crate's own proofs alone rest on this module.
-- What is found of sites: their verdicts, and the lines that tell why they are unproved.
use Rattle.std.specs.Prelude.{◌≡◌, ℕ, Bool, List, [], zip, length, All, Contains, Option, IfSome}
use Rattle.std.specs.List.{AllZip, flat_map}
use Rattle.std.specs.declared.vec.Vec.{Vec}
use Rattle.std.specs.declared.alloc.Global.{Global}
use Rattle.machine_bytecode.specs.Objects.{Subject}
use Rattle.op_model.specs.Supplies.{GivenAs}
use Rattle.points_to_rules.specs.Facts.{Fact}
use Rattle.ground.specs.Findings.{gives_listed}
use Rattle.site_report.specs.declared.tracked_site.TrackedSite.{TrackedSite}
use Rattle.site_report.specs.declared.verdict.Verdict.{Verdict}
use Rattle.site_report.specs.Sites.{site_in}
use Rattle.stage_edges.specs.Rules.{Edge}
use Rattle.stage_verdicts.specs.declared.asked.LaterStages.{LaterStages}
use Rattle.report_spec.specs.Traces.{IsTrace, trace_line}
use Rattle.report_spec.specs.Verdicts.{Asked, IsVerdict}
use Rattle.report_analysis.specs.declared.traces.KnownSite.{KnownSite}
use Rattle.report_analysis.specs.declared.verdicts.Judged.{Judged}
use Rattle.report_analysis.specs.Later.{IsVerdictOf, subject_in}
use Rattle.report_analysis.specs.Numbers.{IsNumberOf}

-- The text has the lines of what is told of a site with its verdict.
pub record IsToldBelow (x : Subject) (gives : GivenAs) (S : Fact → Type 0) (w : Asked) (trace : Bool) (found : TrackedSite × Verdict) (text : Vec ℕ Global) : Type 0 where
  pub edges : List Edge
  pub told : IsTrace x gives S w trace found edges
  pub text_is : text.items ≡ flat_map (trace_line w.stages (site_in x.program found.0)) edges

-- Each site has its verdict, and beside it what is told of it.
pub record AreJudged (x : Subject) (gives : GivenAs) (S : Fact → Type 0) (w : Asked) (trace : Bool) (sites : List TrackedSite) (j : Judged) : Type 0 where
  pub verdicts : AllZip (IsVerdict x gives S w) sites j.verdicts.items
  pub traces : AllZip (IsToldBelow x gives S w trace) (zip sites j.verdicts.items) j.traces.items

-- ---- as the later stages take what is asked

abbrev pub asked_in : LaterStages → Asked
asked_in a = record { stages = a.stages; depth = a.depth; fact_limit = a.limit }

abbrev pub IsToldBelowBy : LaterStages → Bool → TrackedSite × Verdict → Vec ℕ Global → Type 0
IsToldBelowBy a trace found text = IsToldBelow (subject_in a) (gives_listed a.ground.now.methods) (Contains a.ground.now.facts) (asked_in a) trace found text

abbrev pub AreJudgedBy : LaterStages → Bool → List TrackedSite → Judged → Type 0
AreJudgedBy a trace sites j = AreJudged (subject_in a) (gives_listed a.ground.now.methods) (Contains a.ground.now.facts) (asked_in a) trace sites j

-- The site has this verdict and this number.
pub record IsKnown (a : LaterStages) (k : KnownSite) : Type 0 where
  pub verdict : IsVerdictOf a k.site k.verdict
  pub number : IsNumberOf a.ground.now (site_in a.ground.now.program k.site) k.number

-- Nothing is told of this many sites.
pub record AreEmpty (count : ℕ) (traces : List (Vec ℕ Global)) : Type 0 where
  pub long : length traces ≡ count
  pub each : All (λ (t : Vec ℕ Global). t.items ≡ []) traces
