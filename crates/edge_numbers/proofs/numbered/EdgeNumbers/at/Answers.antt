use Rattle.std.proofs.Common.{◌∙◌, List, length, sym, ap, arith}
use Rattle.std.specs.List.{slice_get}
use Rattle.edge_numbers.specs.declared.numbered.NumberedEdge.{NumberedEdge}
use Rattle.edge_numbers.proofs.EdgeRows.{edge_at, length-row_edges}
use Rattle.edge_numbers.proofs.numbered.EdgeNumbers.at.Goals as goal

pub overflow_cast-place : goal.overflow_cast-place
overflow_cast-place c =
    let rows = c.self.inside.pool.rows in
    omega (arith, c.requires, c.well_formed-2.ensures.few, length-row_edges rows, ap (λ (es : List NumberedEdge). length es) c.self.view_is)

pub words-words-requires : goal.words-words-requires
words-words-requires c =
    let rows = c.self.inside.pool.rows in
    omega (arith, c.requires, length-row_edges rows, ap (λ (es : List NumberedEdge). length es) c.self.view_is)

pub returns : goal.returns
returns c =
    ap (λ (es : List NumberedEdge). slice_get es c.args.place) (sym c.self.view_is)
    ∙ edge_at c.self.inside.pool.rows c.args.place c.words-words.result.now c.words-words.ensures
