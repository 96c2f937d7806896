-- Public contracts rest on this module.
-- The verdict of a site by the stages after the first.
use Rattle.std.specs.Prelude.{◌≡◌, ◌<◌, ◌≤◌, ℕ, List, Option, None, Some, length, slice_get, Contains}
use Rattle.std.specs.List.{flat_map}
use Rattle.jvm_model.specs.declared.automaton.Automaton.{Automaton}
use Rattle.jvm_model.specs.declared.number.SiteNo.{SiteNo}
use Rattle.jvm_model.specs.declared.site.Site.{Site}
use Rattle.machine_bytecode.specs.Objects.{Subject}
use Rattle.ground.specs.Findings.{gives_listed}
use Rattle.prune_stage.specs.Pruning.{IsPruned}
use Rattle.site_report.specs.declared.verdict.Verdict.{Verdict}
use Rattle.site_report.specs.declared.verdict.Verdict.TheVariants.{Safe, Unproved, Limit}
use Rattle.stage_edges.specs.Edges.{ArePathEdges, IsError, IsSettingOf}
use Rattle.stage_edges.specs.Rules.{Edge}
use Rattle.edge_numbers.specs.Premises.{AreReasons}
use Rattle.ground_views.specs.declared.question.Question.{Question}
use Rattle.ground_views.specs.Questions.{GroundInstance, IsAskedOf}
use Rattle.least_sets.specs.Parts.{HasAtLeast}
use Rattle.stage_transfer.specs.Settings.{Setting}
use Rattle.tabulation.specs.Found.{Found}
use Rattle.report_spec.specs.Traces.{IsErrorDerivationAt, trace_line}
use Rattle.report_spec.specs.Verdicts.{AtLimitBy, IsStageOf, IsVerdictBy, SafeBy}
use Rattle.stage_verdicts.specs.declared.asked.LaterStages.{LaterStages}
use Rattle.stage_verdicts.specs.declared.finding.Finding.{Finding}
use Rattle.stage_verdicts.specs.declared.finding.Finding.TheVariants as findings

-- There are one to four stages, a path has three fields at most, and the limit is not zero.
pub record IsAsked (a : LaterStages) : Type 0 where
  pub some : 1 ≤ a.stages
  pub stages : a.stages ≤ 4
  pub depth : a.depth ≤ 3
  pub limit : 0 < a.limit

-- It is asked of this subject.
pub record IsSubjectOf (a : LaterStages) (x : Subject) : Type 0 where
  pub program : x.program ≡ a.ground.now.program
  pub entry : x.entry ≡ a.entry.0
  pub property : x.property ≡ a.automaton.now

-- A stage proves the site safe, or comes to its limit at it, by the methods and the facts of the ground.
abbrev pub IsSafeBy : LaterStages → Subject → Site → ℕ → Type 0
IsSafeBy a x s = SafeBy x (gives_listed a.ground.now.methods) (Contains a.ground.now.facts) a.depth a.limit s

abbrev pub IsAtLimitBy : LaterStages → Subject → Site → ℕ → Type 0
IsAtLimitBy a x s = AtLimitBy x (gives_listed a.ground.now.methods) (Contains a.ground.now.facts) a.depth a.limit s

-- The verdict of a site that the first stage does not prove safe.
abbrev pub IsLaterVerdict : LaterStages → Subject → Site → Verdict → Type 0
IsLaterVerdict a x s v = (IsPruned (gives_listed a.ground.now.methods) (Contains a.ground.now.facts) x.property s → ⊥) → IsVerdictBy (IsSafeBy a x s) (IsAtLimitBy a x s) a.stages v

-- The stage leaves the site open: it does not prove it safe, nor does it come to its limit.
abbrev pub IsLeftBy : LaterStages → Subject → Site → ℕ → Type 0
IsLeftBy a x s stage = (IsSafeBy a x s stage → ⊥) × (IsAtLimitBy a x s stage → ⊥)

-- What a stage finds of a site.
abbrev pub IsFinding : LaterStages → Subject → Site → (stage : ℕ) → Finding → Type 0
IsFinding a x s stage findings.Safe = IsSafeBy a x s stage
IsFinding a x s stage findings.AtLimit = (IsSafeBy a x s stage → ⊥) × IsAtLimitBy a x s stage
IsFinding a x s stage findings.Unproved = IsLeftBy a x s stage

-- In no edge an object is in the error state.
abbrev pub HasNoError : Automaton → List Edge → Type 0
HasNoError a edges = (e : Edge) → Contains edges e → IsError a e.fact → ⊥

-- In the edge at the place one is.
abbrev pub HasErrorAt : Automaton → List Edge → ℕ → Type 0
HasErrorAt a edges place = (e : Edge) × (slice_get edges place ≡ Some e) × IsError a e.fact

-- A place of such an edge leaves the site open, and none proves it safe.
abbrev pub IsFoundBy : Option ℕ → Finding → Type 0
IsFoundBy (Some place) f = f ≡ findings.Unproved
IsFoundBy None f = f ≡ findings.Safe

-- The first limit stays, and a later one counts where there was none.
abbrev pub IsLimited : Verdict → (stage : ℕ) → Verdict → Type 0
IsLimited (Safe earlier) stage v = v ≡ Safe earlier
IsLimited (Limit earlier) stage v = v ≡ Limit earlier
IsLimited Unproved stage v = v ≡ Limit stage

-- ---- what is asked of path edges

-- They are those of the site of the number, at the stage.
pub record IsQuestionOf (a : LaterStages) (site : SiteNo) (stage : ℕ) (q : Question) : Type 0 where
  pub ground : q.ground ≡ a.ground
  pub entry : q.entry ≡ a.entry
  pub number : q.site ≡ site
  pub automaton : q.setting.automaton ≡ a.automaton
  pub stands : slice_get a.ground.now.sites site.0 ≡ Some q.setting.site.now
  pub at_stage : q.setting.stage ≡ stage
  pub depth : q.setting.depth ≡ a.depth
  pub limit : q.limit ≡ a.limit

-- These are the path edges that are asked for, fewer than the limit, and from which of them each follows.
pub record HasFound (q : Question) (found : Found) : Type 0 where
  pub edges : (x : Subject) (w : Setting) → IsAskedOf q x w → ArePathEdges x (gives_listed q.ground.now.methods) (Contains q.ground.now.facts) w found.edges
  pub reasons : (x : Subject) (w : Setting) → IsAskedOf q x w → AreReasons (GroundInstance q x w) found.edges found.reasons
  pub few : length found.edges < q.limit

-- There are as many as the limit.
abbrev pub HasAsMany : Question → Type 0
HasAsMany q = (x : Subject) (w : Setting) → IsAskedOf q x w → HasAtLeast (GroundInstance q x w) (λ (e : Edge). Some e) q.limit

-- They are the path edges of the site at the stage, whichever setting answers.
abbrev pub AreEdgesAt : LaterStages → Subject → Site → (stage : ℕ) → List Edge → Type 0
AreEdgesAt a x s stage edges = (w : Setting) → IsStageOf a.depth s stage w → IsSettingOf x (Contains a.ground.now.facts) w
    → ArePathEdges x (gives_listed a.ground.now.methods) (Contains a.ground.now.facts) w edges

-- ---- why a site is unproved

-- The lines are those of a derivation of the last stage, at whose end an object is in the error state.
pub record IsTraceText (a : LaterStages) (x : Subject) (s : Site) (text : List ℕ) : Type 0 where
  pub edges : List Edge
  pub derivation : IsErrorDerivationAt x (gives_listed a.ground.now.methods) (Contains a.ground.now.facts) a.depth s a.stages edges
  pub text_is : text ≡ flat_map (trace_line a.stages s) edges
