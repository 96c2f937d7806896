-- Public contracts rest on this module.
-- What a run is asked for, and the verdict of a site, by the stages that are asked for.
use Rattle.std.specs.Prelude.{◌≡◌, ◌<◌, ◌≤◌, ℕ}
use Rattle.jvm_model.specs.declared.site.Site.{Site}
use Rattle.op_model.specs.Supplies.{GivenAs}
use Rattle.machine_bytecode.specs.Objects.{Subject}
use Rattle.points_to_rules.specs.Facts.{Fact}
use Rattle.site_report.specs.declared.tracked_site.TrackedSite.{TrackedSite}
use Rattle.site_report.specs.declared.verdict.Verdict.{Verdict}
use Rattle.site_report.specs.declared.verdict.Verdict.TheVariants.{Safe, Unproved, Limit}
use Rattle.site_report.specs.Sites.{site_in}
use Rattle.prune_stage.specs.Pruning.{IsPruned}
use Rattle.stage_transfer.specs.Settings.{Setting}
use Rattle.stage_edges.specs.Edges.{IsAtLimit, IsSafeBelow}

-- What is asked: by which stages, from the first up to this one, objects keep the property; how many fields a store may give a path; and how many
-- path edges are too many.
pub record Asked : Type 0 where
  pub stages : ℕ
  pub depth : ℕ
  pub fact_limit : ℕ

-- The same, up to another stage.
abbrev pub with_stages : Asked → ℕ → Asked
with_stages w stages = record { stages = stages; depth = w.depth; fact_limit = w.fact_limit }

-- ---- stages

-- The stage is the first that has what is said: it is one of those asked for, and no earlier one has it.
pub record IsFirstStage (P : ℕ → Type 0) (stages stage : ℕ) : Type 0 where
  pub from_one : 1 ≤ stage
  pub within : stage ≤ stages
  pub has : P stage
  pub none_earlier : (earlier : ℕ) → 1 ≤ earlier → earlier < stage → P earlier → ⊥

-- None of the stages that are asked for has it.
pub record HoldsOfNoStage (P : ℕ → Type 0) (stages : ℕ) : Type 0 where
  pub none : (stage : ℕ) → 1 ≤ stage → stage ≤ stages → P stage → ⊥

-- The verdict by what each stage finds: the first stage that proves the site safe; else the first one that comes to its limit; else that none proves it.
abbrev pub IsVerdictBy : (ℕ → Type 0) → (ℕ → Type 0) → ℕ → Verdict → Type 0
IsVerdictBy safe at_limit stages (Safe stage) = IsFirstStage safe stages stage
IsVerdictBy safe at_limit stages (Limit stage) = HoldsOfNoStage safe stages × IsFirstStage at_limit stages stage
IsVerdictBy safe at_limit stages Unproved = HoldsOfNoStage safe stages × HoldsOfNoStage at_limit stages

-- ---- sites

-- The setting is that of a stage of path edges at the site: of the second, the third or the fourth.
pub record IsStageOf (depth : ℕ) (s : Site) (stage : ℕ) (setting : Setting) : Type 0 where
  pub from_two : 2 ≤ stage
  pub up_to_four : stage ≤ 4
  pub number : setting.stage ≡ stage
  pub site : setting.site ≡ s
  pub fields : setting.depth ≡ depth

-- The stage proves the site safe.
pub data SafeBy (x : Subject) (gives : GivenAs) (S : Fact → Type 0) (depth limit : ℕ) (s : Site) (stage : ℕ) : Type 0 where
  -- The first one: no word over the events that may occur at its objects leads to the error state.
  by_events : stage ≡ 1 → IsPruned gives S x.property s → SafeBy x gives S depth limit s stage
  -- A later one: there are fewer path edges than the limit, and in none of them an object is in the error state.
  by_edges : (setting : Setting) → IsStageOf depth s stage setting → IsSafeBelow x gives S setting limit → SafeBy x gives S depth limit s stage

-- The stage comes to its limit at the site: there are at least so many path edges. The first one has no limit.
pub data AtLimitBy (x : Subject) (gives : GivenAs) (S : Fact → Type 0) (depth limit : ℕ) (s : Site) (stage : ℕ) : Type 0 where
  of_edges : (setting : Setting) → IsStageOf depth s stage setting → IsAtLimit x gives S setting limit → AtLimitBy x gives S depth limit s stage

-- The verdict of a tracked site.
abbrev pub IsVerdict : Subject → GivenAs → (Fact → Type 0) → Asked → TrackedSite → Verdict → Type 0
IsVerdict x gives S w t v = IsVerdictBy (SafeBy x gives S w.depth w.fact_limit (site_in x.program t)) (AtLimitBy x gives S w.depth w.fact_limit (site_in x.program t)) w.stages v
