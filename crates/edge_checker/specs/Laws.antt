-- Public contracts rest on this module.
-- What is true of listed edges that meet the conditions, and of just the path edges.
use Rattle.std.specs.Prelude.{ℕ, List, Contains}
use Rattle.op_model.specs.Supplies.{GivenAs}
use Rattle.machine_bytecode.specs.Objects.{Subject}
use Rattle.least_sets.specs.Rules.{IsDerivable}
use Rattle.points_to_rules.specs.Facts.{Fact}
use Rattle.stage_transfer.specs.Settings.{Setting}
use Rattle.stage_edges.specs.Edges.{IsError, StageInstance}
use Rattle.stage_edges.specs.Rules.{Edge}
use Rattle.edge_checker.specs.declared.numbered_edge.NumberedEdge.{NumberedEdge}
use Rattle.edge_checker.specs.Conditions.{AreMet, Fails, HasEdge, edge_in}

-- Each path edge is listed, and in none is an object in the error state.
pub record AreAllListed (x : Subject) (gives : GivenAs) (S : Fact → Type 0) (w : Setting) (listed : List NumberedEdge) : Type 0 where
  pub within : (e : Edge) → IsDerivable (StageInstance x gives S w) e → HasEdge listed e
  pub calm : (e : Edge) → IsDerivable (StageInstance x gives S w) e → IsError x.property e.fact → ⊥

-- Just the path edges are listed, and in none is an object in the error state.
pub record AreJustListed (x : Subject) (gives : GivenAs) (S : Fact → Type 0) (w : Setting) (listed : List NumberedEdge) : Type 0 where
  pub all : (e : Edge) → IsDerivable (StageInstance x gives S w) e → HasEdge listed e
  pub only : (a : NumberedEdge) → Contains listed a → IsDerivable (StageInstance x gives S w) (edge_in a)
  pub calm : (a : NumberedEdge) → Contains listed a → IsError x.property (edge_in a).fact → ⊥

-- The conditions are met, and none of them fails.
pub record AreAccepted (x : Subject) (gives : GivenAs) (S : Fact → Type 0) (w : Setting) (claim : ℕ) (listed : List NumberedEdge) : Type 0 where
  pub met : AreMet x gives S w listed
  pub none : (k l : ℕ) → Fails x gives S w claim listed k l → ⊥
