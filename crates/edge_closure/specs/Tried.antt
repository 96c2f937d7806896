-- This crate's own proofs alone rest on this module.
-- What is done to the list of edges that were found: edges are taken in, and instances of rules are tried.
use Rattle.std.specs.Prelude.{◌≡◌, ◌<◌, ℕ, List, [], ◌∷◌, ◌++◌, Some, length, slice_get, All, Contains}
use Rattle.failure.specs.declared.Failure.{Failure}
use Rattle.failure.specs.declared.Failure.TheVariants.{Cause, OutOfMemory}
use Rattle.least_sets.specs.Rules.{IsClosed, IsDerivable, IsWithoutDoubles}
use Rattle.op_model.specs.declared.node.NodeRef.{NodeRef}
use Rattle.machine_bytecode.specs.Objects.{Subject}
use Rattle.ground.specs.Findings.{gives_listed}
use Rattle.stage_facts.specs.Facts.{SiteFact}
use Rattle.stage_transfer.specs.Settings.{Setting}
use Rattle.stage_transfer.specs.Stages.{transfer_of}
use Rattle.stage_edges.specs.Rules.{Edge, before, edge}
use Rattle.edge_steps.specs.declared.conclusions.Conclusion.{Conclusion}
use Rattle.edge_steps.specs.declared.conclusions.EnteredWith.{EnteredWith}
use Rattle.edge_steps.specs.Steps.{AreFollowing}
use Rattle.ground_views.specs.declared.fault.EdgesFault.{EdgesFault}
use Rattle.ground_views.specs.declared.fault.EdgesFault.TheVariants.{Limit, TooMany}
use Rattle.ground_views.specs.declared.question.Question.{Question}
use Rattle.ground_views.specs.declared.viewed_node.ViewedNode.{ViewedNode}
use Rattle.ground_views.specs.Questions.{GroundInstance, IsAskedOf}
use Rattle.ground_views.specs.Views.{IsSeen}

-- Each edge stands once, and there are fewer than the limit.
pub record IsOpen (limit : ℕ) (edges : List Edge) : Type 0 where
  pub apart : IsWithoutDoubles edges
  pub room : length edges < limit

-- Edges of some kind came behind the old ones, each of them once.
pub record Adds (IsNew : Edge → Type 0) (old new : List Edge) : Type 0 where
  pub more : List Edge
  pub is : new ≡ old ++ more
  pub only : All IsNew more
  pub apart : IsWithoutDoubles old → IsWithoutDoubles new

-- The old list stands in front of the new one, in which each edge stands once.
pub record Grows (old new : List Edge) : Type 0 where
  pub more : List Edge
  pub is : new ≡ old ++ more
  pub apart : IsWithoutDoubles old → IsWithoutDoubles new

-- All is derivable still.
pub record StaysSound (I : List Edge → Edge → Type 0) (old new : List Edge) : Type 0 where
  pub sound : All (IsDerivable I) old → All (IsDerivable I) new

-- For each subject and setting of which it is asked, all is derivable still.
pub record StaysSoundBy (q : Question) (old new : List Edge) : Type 0 where
  pub each : (x : Subject) (w : Setting) → IsAskedOf q x w → StaysSound (GroundInstance q x w) old new

-- ---- instances that are tried

-- The edge at the place leads to a node of the ground, or of the start, and this is how one looks at it.
pub record IsSeenAt (q : Question) (k : ViewedNode) (place : ℕ) (edges : List Edge) : Type 0 where
  pub node : NodeRef
  pub seen : IsSeen q node k
  pub method : (p : Edge) → slice_get edges place ≡ Some p → p.method ≡ k.method
  pub spot : (p : Edge) → slice_get edges place ≡ Some p → p.spot ≡ before k.node.now

-- What follows from two edges is in the list.
pub record IsTriedWith (I : List Edge → Edge → Type 0) (p q : Edge) (new : List Edge) : Type 0 where
  pub each : (to : Edge) → I (p ∷ q ∷ []) to → Contains new to

-- What follows from the edge alone, and from it with an edge of the old list, is in the new one.
pub record IsTried (I : List Edge → Edge → Type 0) (p : Edge) (old new : List Edge) : Type 0 where
  pub alone : (to : Edge) → I (p ∷ []) to → Contains new to
  pub beside : (q : Edge) → Contains old q → IsTriedWith I p q new

-- For each subject and setting of which it is asked, the edge at a place is tried.
pub record IsTriedAt (q : Question) (place : ℕ) (old new : List Edge) : Type 0 where
  pub each : (x : Subject) (w : Setting) (p : Edge) → IsAskedOf q x w → slice_get old place ≡ Some p → IsTried (GroundInstance q x w) p old new

-- It is tried with the edge at another place.
pub record IsExitTriedAt (q : Question) (place other : ℕ) (old new : List Edge) : Type 0 where
  pub each : (x : Subject) (w : Setting) (p r : Edge) → IsAskedOf q x w → slice_get old place ≡ Some p → slice_get old other ≡ Some r
      → IsTriedWith (GroundInstance q x w) p r new

-- It is tried with each edge.
pub record AreExitsTriedAt (q : Question) (place : ℕ) (old new : List Edge) : Type 0 where
  pub each : (x : Subject) (w : Setting) (p r : Edge) → IsAskedOf q x w → slice_get old place ≡ Some p → Contains old r → IsTriedWith (GroundInstance q x w) p r new

-- Each conclusion of edges of the list is in it.
pub record IsClosedBy (I : List Edge → Edge → Type 0) (edges : List Edge) : Type 0 where
  pub closed : IsClosed I edges

-- For each subject and setting of which it is asked, the list is closed.
pub record IsClosedFor (q : Question) (edges : List Edge) : Type 0 where
  pub each : (x : Subject) (w : Setting) → IsAskedOf q x w → IsClosedBy (GroundInstance q x w) edges

-- ---- why not all is tried

-- An edge was not taken in, since the limit is reached; or memory ran out.
abbrev pub IsFull : (limit : ℕ) → List Edge → Failure EdgesFault → Type 0
IsFull limit edges (Cause Limit) = length edges ≡ limit
IsFull limit edges (Cause TooMany) = ⊥
IsFull limit edges OutOfMemory = Unit {0}
