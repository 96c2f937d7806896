-- Public contracts rest on this module.
-- The path edges of a site at a stage: the least set; how many there are; and whether an object may be in the error state.
use Rattle.std.specs.Prelude.{◌≡◌, ℕ, ◌<◌, List, length, Some, Contains}
use Rattle.jvm_model.specs.declared.automaton.Automaton.{Automaton}
use Rattle.op_model.specs.Supplies.{GivenAs}
use Rattle.machine_bytecode.specs.Objects.{Subject}
use Rattle.least_sets.specs.Parts.{HasAtLeast}
use Rattle.least_sets.specs.Rules.{IsLeast, IsWithoutDoubles}
use Rattle.points_to_rules.specs.Facts.{Fact}
use Rattle.stage_facts.specs.Facts.{SiteFact, none_yet, some_yet, of_object}
use Rattle.stage_transfer.specs.Settings.{AreAnswersOf, Setting}
use Rattle.stage_transfer.specs.Stages.{transfer_of}
use Rattle.stage_edges.specs.Rules.{Edge, Instance}

-- The setting of a site's stage, by a set of facts of the points-to analysis.
pub record IsSettingOf (x : Subject) (S : Fact → Type 0) (w : Setting) : Type 0 where
  pub property : w.property ≡ x.property
  pub answers : AreAnswersOf S w.answers

-- The rules at a stage.
abbrev pub StageInstance : Subject → GivenAs → (Fact → Type 0) → Setting → List Edge → Edge → Type 0
StageInstance x gives S w = Instance x gives S (transfer_of w)

-- These are the path edges, each once.
pub record ArePathEdges (x : Subject) (gives : GivenAs) (S : Fact → Type 0) (w : Setting) (edges : List Edge) : Type 0 where
  pub least : IsLeast (StageInstance x gives S w) edges
  pub apart : IsWithoutDoubles edges

-- An object of the fact is in the error state.
abbrev pub IsError : Automaton → SiteFact → Type 0
IsError a none_yet = ⊥
IsError a some_yet = ⊥
IsError a (of_object t) = t.state ≡ a.error

-- There are fewer path edges than the limit, by answers of these facts, and in none of them an object is in the error state.
pub record IsSafeBelow (x : Subject) (gives : GivenAs) (S : Fact → Type 0) (w : Setting) (limit : ℕ) : Type 0 where
  pub setting : IsSettingOf x S w
  pub edges : List Edge
  pub are : ArePathEdges x gives S w edges
  pub few : length edges < limit
  pub no_error : (e : Edge) → Contains edges e → IsError x.property e.fact → ⊥

-- There are at least so many.
pub record IsAtLimit (x : Subject) (gives : GivenAs) (S : Fact → Type 0) (w : Setting) (limit : ℕ) : Type 0 where
  pub setting : IsSettingOf x S w
  pub many : HasAtLeast (StageInstance x gives S w) (λ (e : Edge). Some e) limit
