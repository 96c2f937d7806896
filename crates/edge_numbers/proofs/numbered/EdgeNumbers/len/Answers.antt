use Rattle.std.proofs.Common.{◌∙◌, List, length, sym, ap}
use Rattle.edge_numbers.specs.declared.numbered.NumberedEdge.{NumberedEdge}
use Rattle.edge_numbers.proofs.EdgeRows.{length-row_edges}
use Rattle.edge_numbers.proofs.numbered.EdgeNumbers.len.Goals as goal

pub returns : goal.returns
returns c = c.len.ensures ∙ sym (length-row_edges c.self.inside.pool.rows) ∙ ap (λ (es : List NumberedEdge). length es) c.self.view_is
