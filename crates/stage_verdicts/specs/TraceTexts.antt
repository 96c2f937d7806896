-- This crate's own proofs alone rest on this module.
-- The lines of the derivation of one path edge, by places.
use Rattle.std.specs.Prelude.{◌≡◌, ℕ, List, [], slice_get}
use Rattle.std.specs.List.{flat_map}
use Rattle.std.specs.Option.{option_map_or}
use Rattle.jvm_model.specs.declared.site.Site.{Site}
use Rattle.machine_bytecode.specs.Objects.{Subject}
use Rattle.least_sets.specs.Rules.{IsDerivation}
use Rattle.stage_transfer.specs.Settings.{Setting}
use Rattle.stage_edges.specs.Rules.{Edge}
use Rattle.report_spec.specs.Traces.{trace_line}
use Rattle.edge_derivations.specs.Derived.{IsCutFor}
use Rattle.edge_numbers.specs.Premises.{AreReasons, StandAt}
use Rattle.ground_views.specs.declared.question.Question.{Question}
use Rattle.ground_views.specs.Questions.{GroundInstance}
use Rattle.tabulation.specs.Found.{Found}

-- The line of the edge at a place, where there is one.
abbrev pub line_at : (stage : ℕ) → Site → List Edge → ℕ → List ℕ
line_at stage s edges place = option_map_or (trace_line stage s) (slice_get edges place) []

-- The text has the lines of the edges that the one at the last place needs, and no others, in their order. They are a derivation by whatever the reasons are right for.
pub record AreDerivationLines (stage : ℕ) (s : Site) (found : Found) (last : ℕ) (text : List ℕ) : Type 0 where
  pub places : List ℕ
  pub cut : IsCutFor found.reasons last places
  pub these : List Edge
  pub stand : StandAt found.edges places these
  pub derived : (q : Question) (x : Subject) (w : Setting) → AreReasons (GroundInstance q x w) found.edges found.reasons → IsDerivation (GroundInstance q x w) these
  pub text_is : text ≡ flat_map (trace_line stage s) these
