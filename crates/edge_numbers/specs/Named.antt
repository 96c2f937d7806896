-- Public contracts rest on this module.
-- Lists of reasons, and of edges that may be none; and the names by which they are kept. The name of an edge is one more than its number, and 0 names none.
use Rattle.std.specs.Prelude.{ℕ, zero, suc, List, Option, None, Some}
use Rattle.edge_numbers.specs.declared.because.Because.{Because}
use Rattle.edge_numbers.specs.declared.because.Because.TheVariants.{Start, One, Two}
use Rattle.edge_numbers.specs.declared.because.EdgeNo.{EdgeNo}

-- From which edges each edge follows.
pub record ListedReasons : Type 0 where
  pub items : List Because

-- Edges, or none.
pub record ListedEdges : Type 0 where
  pub items : List (Option EdgeNo)

-- The edge of a name, if it names one.
abbrev pub edge_named : ℕ → Option EdgeNo
edge_named zero = None
edge_named (suc n) = Some (record { 0 = n })

-- The reason with an edge to a node and one to an exit, if there are such.
abbrev pub because_with : (premise exit : Option EdgeNo) → Because
because_with None exit = Start
because_with (Some p) None = One p
because_with (Some p) (Some e) = Two p e

-- The reason with the edges of two names.
abbrev pub because_named : (premise exit : ℕ) → Because
because_named premise exit = because_with (edge_named premise) (edge_named exit)
