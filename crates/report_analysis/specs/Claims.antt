-- Public contracts rest on this module.
-- The tracked sites with what is found of each, and the path edges by which a later stage proves a site safe.
use Rattle.std.specs.Prelude.{◌↔◌, ℕ, List, Contains}
use Rattle.std.specs.List.{AllZip}
use Rattle.jvm_model.specs.declared.site.Site.{Site}
use Rattle.machine_bytecode.specs.Objects.{Subject}
use Rattle.op_model.specs.Supplies.{GivenAs}
use Rattle.least_sets.specs.Rules.{IsDerivable}
use Rattle.points_to_rules.specs.Facts.{Fact}
use Rattle.ground.specs.Findings.{Findings}
use Rattle.stage_transfer.specs.Settings.{Setting}
use Rattle.stage_edges.specs.Edges.{IsSettingOf, StageInstance}
use Rattle.stage_edges.specs.Rules.{Edge}
use Rattle.report_spec.specs.Tracked.{AreTracked}
use Rattle.report_spec.specs.Verdicts.{Asked, IsStageOf, IsVerdict}
use Rattle.report_analysis.specs.declared.claims.JudgedSites.{JudgedSites}
use Rattle.report_analysis.specs.Numbers.{AreNumbers}

-- These are the tracked sites, in the order of a report. Beside each stands its verdict, and its number in the ground, if it has one.
pub record AreJudgedSites (x : Subject) (gives : GivenAs) (g : Findings) (w : Asked) (j : JudgedSites) : Type 0 where
  pub tracked : AreTracked x.program gives (Contains g.facts) x.property.class_name j.sites.items
  pub verdicts : AllZip (IsVerdict x gives (Contains g.facts) w) j.sites.items j.verdicts.items
  pub numbers : AreNumbers g j.sites.items j.numbers.items

-- It is a path edge of the site at the stage.
pub record IsEdgeAt (x : Subject) (gives : GivenAs) (S : Fact → Type 0) (depth : ℕ) (s : Site) (stage : ℕ) (e : Edge) : Type 0 where
  pub setting : Setting
  pub of_stage : IsStageOf depth s stage setting
  pub of_facts : IsSettingOf x S setting
  pub derivable : IsDerivable (StageInstance x gives S setting) e

-- They are all of these.
pub record AreEdgesAt (x : Subject) (gives : GivenAs) (S : Fact → Type 0) (depth : ℕ) (s : Site) (stage : ℕ) (edges : List Edge) : Type 0 where
  pub each : (e : Edge) → Contains edges e ↔ IsEdgeAt x gives S depth s stage e
