-- Edges that are rows of a pool: what stands at a number, and what a row more makes of them.
use Rattle.std.proofs.Common.{◌≡◌, ◌∙◌, inl, inr, ℕ, Bool, nat_lt, List, [], ◌∷◌, ◌++◌, length, Some, refl, sym, ap, subst, arith}
use Rattle.std.specs.List.{slice_get, Contains}
use Rattle.std.proofs.lemmas.Bool.{le-ltb, lt-ltb}
use Rattle.std.proofs.lemmas.Option.{none-some}
use Rattle.std.proofs.lemmas.List.{length-append, length-map, map_push}
use Rattle.list_laws.proofs.Places.{at_map, contains_at, map_at, place_of, push_cases}
use Rattle.least_sets.specs.Rules.{IsWithoutDoubles}
use Rattle.fact_pool.specs.Rows.{AreDistinct, IsInterned, PoolRows, is_added as row_is_added, was_held as row_was_held}
use Rattle.edge_numbers.specs.declared.numbered.NumberedEdge.{NumberedEdge}
use Rattle.edge_numbers.specs.EdgeRows.{AreEdgeRows, edge_words, row_edge, row_edges}
use Rattle.edge_numbers.specs.Inserted.{IsInserted, was_held, is_added}

-- ---- what stands at a number

pub length-row_edges : (rows : List (List ℕ)) → length (row_edges rows) ≡ length rows
unfolding row_edges
length-row_edges rows = length-map rows row_edge

pub edge_at : (rows : List (List ℕ)) (k : ℕ) (row : List ℕ) → slice_get rows k ≡ Some row → slice_get (row_edges rows) k ≡ Some (row_edge row)
unfolding row_edges
edge_at rows k row at = at_map row_edge rows k row at

-- the row of an edge
row_at : (rows : List (List ℕ)) → AreEdgeRows rows → (k : ℕ) (e : NumberedEdge) → slice_get (row_edges rows) k ≡ Some e → slice_get rows k ≡ Some (edge_words e)
unfolding row_edges
row_at rows are k e at =
    let (row, stands, is) = map_at row_edge rows k e at in
    stands ∙ ap (λ (words : List ℕ). Some words) (are.each k row stands ∙ ap edge_words is)

-- rows that differ are edges that differ
pub edges_apart : (rows : List (List ℕ)) → AreEdgeRows rows → AreDistinct rows → IsWithoutDoubles (row_edges rows)
edges_apart rows are distinct e i j at_i at_j = distinct.one_place i j (edge_words e) (row_at rows are i e at_i) (row_at rows are j e at_j)

-- ---- an edge is taken in

edge_there : (rows : List (List ℕ)) (e : NumberedEdge) → Contains rows (edge_words e) → Contains (row_edges rows) e
edge_there rows e there =
    let (k, at) = place_of rows (edge_words e) there in
    contains_at (row_edges rows) k e (edge_at rows k (edge_words e) at)

row_there : (rows : List (List ℕ)) → AreEdgeRows rows → (e : NumberedEdge) → Contains (row_edges rows) e → Contains rows (edge_words e)
row_there rows are e there =
    let (k, at) = place_of (row_edges rows) e there in
    contains_at rows k (edge_words e) (row_at rows are k e at)

edges_pushed : (rows : List (List ℕ)) (e : NumberedEdge) → row_edges (rows ++ edge_words e ∷ []) ≡ row_edges rows ++ e ∷ []
unfolding row_edges
edges_pushed rows e = map_push row_edge rows (edge_words e)

-- there is one row more exactly where the edge was new
pub edge_inserted : (old new : PoolRows) (e : NumberedEdge) → AreEdgeRows old.rows → IsInterned old new (edge_words e)
    → IsInserted (nat_lt (length old.rows) (length new.rows)) (row_edges old.rows) (row_edges new.rows) e
edge_inserted old new e are (row_was_held there same) =
    let rows = ap (λ (p : PoolRows). p.rows) same in
    subst (λ (added : Bool). IsInserted added (row_edges old.rows) (row_edges new.rows) e)
    (sym (le-ltb (length old.rows) (length new.rows) (omega (arith, ap (λ (rs : List (List ℕ)). length rs) rows))))
    (was_held (row_edges old.rows) (row_edges new.rows) e (edge_there old.rows e there) (ap row_edges rows))
edge_inserted old new e are (row_is_added absent more) =
    let longer = ap (λ (rs : List (List ℕ)). length rs) more ∙ length-append old.rows (edge_words e ∷ []) in
    subst (λ (added : Bool). IsInserted added (row_edges old.rows) (row_edges new.rows) e)
    (sym (lt-ltb (length old.rows) (length new.rows) (omega (arith, longer))))
    (is_added (row_edges old.rows) (row_edges new.rows) e (λ there. absent (row_there old.rows are e there)) (ap row_edges more ∙ edges_pushed old.rows e))

pub still_edges : (old new : PoolRows) (e : NumberedEdge) → AreEdgeRows old.rows → IsInterned old new (edge_words e) → AreEdgeRows new.rows
still_edges old new e are (row_was_held there same) = subst (λ (p : PoolRows). AreEdgeRows p.rows) (sym same) are
still_edges old new e are (row_is_added absent more) = subst AreEdgeRows (sym more) (record {
  each = λ k row at. elim (push_cases old.rows (edge_words e) k row at) [
    | inl stood ↦ are.each k row stood
    | inr last ↦ subst (λ (words : List ℕ). words ≡ edge_words (row_edge words)) (sym last.1) refl
  ];
})

pub no_edges : AreEdgeRows []
no_edges = record { each = λ k row at. absurd (none-some row at) }

-- ---- none

pub none_of : (rows : List (List ℕ)) → row_edges rows ≡ [] → rows ≡ []
none_of [] is = refl
none_of (row ∷ rows) is = absurd (omega (arith, ap (λ (es : List NumberedEdge). length es) is, length-row_edges (row ∷ rows)))

pub none_from : (rows : List (List ℕ)) → rows ≡ [] → row_edges rows ≡ []
unfolding row_edges
none_from rows is = ap row_edges is
