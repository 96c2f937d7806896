-- This crate's own proofs alone rest on this module.
-- Edges that are not the one that is looked for.
use Rattle.std.specs.Prelude.{◌≡◌}
use Rattle.ground_views.specs.declared.path_edge.PathEdge.{PathEdge}
use Rattle.ground_views.specs.Questions.{edge_of}

-- The value stands for another edge.
pub record IsOther (e other : PathEdge) : Type 0 where
  pub differs : edge_of other ≡ edge_of e → ⊥
