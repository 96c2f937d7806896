-- Proofs of this crate alone rest on this module.
-- Edges as rows of a pool.
use Rattle.std.specs.Prelude.{◌≡◌, ℕ, List, [], ◌∷◌, Some, get_or, map, slice_get}
use Rattle.edge_numbers.specs.declared.numbered.NumberedEdge.{NumberedEdge}

-- The words of an edge: the numbers of its ends.
abbrev pub edge_words : NumberedEdge → List ℕ
edge_words e = e.begin ∷ e.end ∷ []

-- The edge of a row.
abbrev pub row_edge : List ℕ → NumberedEdge
row_edge row = record { begin = get_or row 0 0; end = get_or row 1 0 }

-- The edges of rows, in their order.
unfoldable pub row_edges : List (List ℕ) → List NumberedEdge
row_edges rows = map row_edge rows

-- Each row has the words of an edge.
pub record AreEdgeRows (rows : List (List ℕ)) : Type 0 where
  pub each : (k : ℕ) (row : List ℕ) → slice_get rows k ≡ Some row → row ≡ edge_words (row_edge row)
