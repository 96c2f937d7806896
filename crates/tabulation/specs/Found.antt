-- Public contracts rest on this module.
-- What tabulation finds.
use Rattle.std.specs.Prelude.{ℕ, List}
use Rattle.stage_edges.specs.Rules.{Edge}

-- Path edges, and from which of them each follows, by their places.
pub record Found : Type 0 where
  pub edges : List Edge
  pub reasons : List (List ℕ)
