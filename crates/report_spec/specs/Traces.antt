-- Public contracts rest on this module.
-- Why a site is unproved: path edges of the last stage, from the start of the program to an object in the error state; and a report with these.
use Rattle.std.specs.Prelude.{codes, ◌≡◌, ℕ, nat_le, Bool, true, false, ◌&&◌, List, [], ◌∷◌, ◌++◌, map, zip, Option, Some, None, slice_get}
use Rattle.std.specs.List.{AllZip, flat_map}
use Rattle.jvm_model.specs.declared.site.Site.{Site}
use Rattle.jvm_model.specs.Programs.{Program}
use Rattle.machine_bytecode.specs.Objects.{Subject}
use Rattle.op_model.specs.declared.node.Spot.TheVariants as spots
use Rattle.op_model.specs.Supplies.{GivenAs}
use Rattle.least_sets.specs.Rules.{IsDerivation}
use Rattle.points_to_rules.specs.Facts.{Fact}
use Rattle.site_report.specs.declared.tracked_site.TrackedSite.{TrackedSite}
use Rattle.site_report.specs.declared.verdict.Verdict.{Verdict}
use Rattle.site_report.specs.Sites.{site_in}
use Rattle.stage_facts.specs.Facts.{none_yet}
use Rattle.stage_transfer.specs.Settings.{Setting}
use Rattle.stage_edges.specs.Edges.{IsError, IsSettingOf, StageInstance}
use Rattle.stage_edges.specs.Rules.{Edge, edge}
use Rattle.edge_lines.specs.EdgeLines.{edge_line}
use Rattle.report_spec.specs.Reports.{IsReport, is_unproved, line_of, summary_of}
use Rattle.report_spec.specs.Verdicts.{Asked, IsStageOf}

-- ---- derivations

-- The edge with which the program starts.
abbrev pub start_edge : Edge
start_edge = edge None none_yet (spots.Node 0) none_yet

-- The first edge is that of the start, each one follows by one rule from those before it, and in the last one an object is in the error state.
pub record IsErrorDerivation (x : Subject) (gives : GivenAs) (S : Fact → Type 0) (w : Setting) (edges : List Edge) : Type 0 where
  pub setting : IsSettingOf x S w
  pub starts : slice_get edges 0 ≡ Some start_edge
  pub derivation : IsDerivation (StageInstance x gives S w) edges
  pub error : Edge
  pub ends : (before : List Edge) × (edges ≡ before ++ error ∷ [])
  pub is_error : IsError x.property error.fact

-- So it is of a site, by the stage of a number.
pub record IsErrorDerivationAt (x : Subject) (gives : GivenAs) (S : Fact → Type 0) (depth : ℕ) (s : Site) (stage : ℕ) (edges : List Edge) : Type 0 where
  pub setting : Setting
  pub of_stage : IsStageOf depth s stage setting
  pub of_error : IsErrorDerivation x gives S setting edges

-- ---- what is told of a site

-- Derivations are told where they are asked for, and the last stage is one of path edges.
abbrev pub are_told : (trace : Bool) → (stages : ℕ) → Bool
are_told trace stages = trace && nat_le 2 stages

-- One is told of a site that is unproved.
abbrev pub has_trace : (trace : Bool) → (stages : ℕ) → Verdict → Bool
has_trace trace stages v = is_unproved v && are_told trace stages

-- There is one by the last stage, or none is told.
abbrev pub IsTraceIf : Subject → GivenAs → (Fact → Type 0) → Asked → Site → Bool → List Edge → Type 0
IsTraceIf x gives S w s true edges = IsErrorDerivationAt x gives S w.depth s w.stages edges
IsTraceIf x gives S w s false edges = edges ≡ []

-- What is told of a site with its verdict.
abbrev pub IsTrace : Subject → GivenAs → (Fact → Type 0) → Asked → (trace : Bool) → TrackedSite × Verdict → List Edge → Type 0
IsTrace x gives S w trace found edges = IsTraceIf x gives S w (site_in x.program found.0) (has_trace trace w.stages found.1) edges

-- ---- lines

-- An edge in a report: its line behind two spaces.
abbrev pub trace_line : (stage : ℕ) → Site → Edge → List ℕ
trace_line stage s e = codes "  " ++ edge_line stage s e

-- The line of a site, and below it those of its derivation.
abbrev pub site_lines : Program → (stages : ℕ) → (TrackedSite × Verdict) × List Edge → List (List ℕ)
site_lines p stages told = line_of p told.0 ∷ map (trace_line stages (site_in p told.0.0)) told.1

-- The lines of all sites, and the summary.
abbrev pub traced_lines : Program → (stages : ℕ) → List (TrackedSite × Verdict) → List (List Edge) → List (List ℕ)
traced_lines p stages found traces = flat_map (site_lines p stages) (zip found traces) ++ summary_of found ∷ []

-- The lines are those of the report on what is asked; and where derivations are asked for, one stands below each line that says that a site is unproved.
pub record IsTracedReport (x : Subject) (gives : GivenAs) (S : Fact → Type 0) (w : Asked) (trace : Bool) (lines : List (List ℕ)) (all_safe : Bool) : Type 0 where
  pub plain : List (List ℕ)
  pub report : IsReport x gives S w plain all_safe
  pub traces : List (List Edge)
  pub told : AllZip (IsTrace x gives S w trace) report.found traces
  pub lines_are : lines ≡ traced_lines x.program w.stages report.found traces
