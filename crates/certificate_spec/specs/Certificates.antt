-- Public contracts rest on this module.
-- The certificate of an analysis: what it claims, and the sets and the path edges by which a checker sees that it is true.
use Rattle.std.specs.Prelude.{◌≡◌, ◌↔◌, ◌<◌, ℕ, Bool, true, List, [], ◌∷◌, ◌++◌, map, Some, slice_get, Contains}
use Rattle.std.specs.Ordering.{is_lt}
use Rattle.jvm_model.specs.declared.number.FieldNo.{FieldNo}
use Rattle.jvm_model.specs.declared.number.MethodNo.{MethodNo}
use Rattle.jvm_model.specs.declared.site.Site.{Site}
use Rattle.machine_bytecode.specs.Objects.{Subject}
use Rattle.op_model.specs.Supplies.{GivenAs}
use Rattle.least_sets.specs.Rules.{IsDerivable}
use Rattle.points_to_rules.specs.Facts.{Fact, may_hold, may_run, may_write}
use Rattle.site_report.specs.declared.tracked_site.TrackedSite.{TrackedSite}
use Rattle.site_report.specs.declared.verdict.Verdict.TheVariants.{Safe}
use Rattle.site_report.specs.Sites.{site_in}
use Rattle.stage_transfer.specs.Settings.{Setting}
use Rattle.stage_edges.specs.Edges.{IsSettingOf, StageInstance}
use Rattle.report_spec.specs.Reports.{IsReport}
use Rattle.report_spec.specs.Tracked.{IsTracked}
use Rattle.report_spec.specs.Verdicts.{Asked, IsStageOf, IsVerdict}
use Rattle.certificate_lines.specs.declared.line.Holder.{Holder}
use Rattle.certificate_lines.specs.declared.line.ListedEdge.{ListedEdge}
use Rattle.certificate_lines.specs.declared.line.Line.{Line}
use Rattle.certificate_lines.specs.declared.line.Line.TheVariants as lines
use Rattle.certificate_lines.specs.LineOrder.{line_cmp}
use Rattle.certificate_lines.specs.LineTexts.{edge_of, holder_of}

-- The lines before the sets: the version, the automaton, the entry and the depth.
abbrev pub head_lines : Subject → (depth : ℕ) → List Line
head_lines x depth =
    lines.Version ∷ lines.Class x.property.class_name ∷ (map lines.State x.property.states ++ lines.Initial x.property.initial ∷ lines.Error x.property.error
    ∷ (map lines.Event x.property.events ++ lines.Entry (record { 0 = x.entry }) ∷ lines.Depth depth ∷ []))

-- The site is tracked, and the stage is the first that proves it safe.
pub record IsClaim (x : Subject) (gives : GivenAs) (S : Fact → Type 0) (w : Asked) (stage : ℕ) (s : Site) : Type 0 where
  pub site : TrackedSite
  pub tracked : IsTracked x.program gives S x.property.class_name site
  pub verdict : IsVerdict x gives S w site (Safe stage)
  pub is : s ≡ site_in x.program site

-- It is a path edge of its site at its stage.
pub record IsEdgeOf (x : Subject) (gives : GivenAs) (S : Fact → Type 0) (depth : ℕ) (e : ListedEdge) : Type 0 where
  pub setting : Setting
  pub of_stage : IsStageOf depth e.site e.stage setting
  pub of_facts : IsSettingOf x S setting
  pub derivable : IsDerivable (StageInstance x gives S setting) (edge_of e)

-- What is told: the methods that may run, the objects that holders may hold, the fields that methods may write, the sites that are safe, each with its
-- stage, and the path edges of those at that stage.
pub data IsTold (x : Subject) (gives : GivenAs) (S : Fact → Type 0) (w : Asked) : Line → Type 0 where
  runs : (m : MethodNo) → S (may_run m) → IsTold x gives S w (lines.Reached m)
  holds : (h : Holder) (s : Site) → S (may_hold (holder_of h) s) → IsTold x gives S w (lines.PointsTo h s)
  modifies : (m : MethodNo) (f : FieldNo) → S (may_write m f) → IsTold x gives S w (lines.Modifies m f)
  claims : (stage : ℕ) (s : Site) → IsClaim x gives S w stage s → IsTold x gives S w (lines.Claim stage s)
  follows : (e : ListedEdge) → IsClaim x gives S w e.stage e.site → IsEdgeOf x gives S w.depth e → IsTold x gives S w (lines.PathEdge e)

-- Each line comes before those behind it, in the order of lines.
pub record DoAscend (all : List Line) : Type 0 where
  pub each : (i j : ℕ) (k l : Line) → i < j → slice_get all i ≡ Some k → slice_get all j ≡ Some l → is_lt (line_cmp k l) ≡ true

-- The lines are the certificate: its head, then each line that is told, in order, and the end. All sites are safe just where the report says it.
pub record IsCertificateOf (x : Subject) (gives : GivenAs) (S : Fact → Type 0) (w : Asked) (all : List Line) (all_safe : Bool) : Type 0 where
  pub body : List Line
  pub is : all ≡ head_lines x w.depth ++ (body ++ lines.End ∷ [])
  pub told : (line : Line) → Contains body line ↔ IsTold x gives S w line
  pub ascend : DoAscend body
  pub report : (plain : List (List ℕ)) × IsReport x gives S w plain all_safe
