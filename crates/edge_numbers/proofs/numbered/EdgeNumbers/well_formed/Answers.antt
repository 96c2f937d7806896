use Rattle.std.proofs.Common.{List, length, ap, subst, arith}
use Rattle.least_sets.specs.Rules.{IsWithoutDoubles}
use Rattle.edge_numbers.specs.declared.numbered.NumberedEdge.{NumberedEdge}
use Rattle.edge_numbers.proofs.EdgeRows.{edges_apart, length-row_edges}
use Rattle.edge_numbers.proofs.numbered.EdgeNumbers.well_formed.Goals as goal

pub returns-clause-apart : goal.returns-clause-apart
returns-clause-apart c =
    subst (λ (es : List NumberedEdge). IsWithoutDoubles es) c.self.view_is (edges_apart c.self.inside.pool.rows c.self.invariant c.well_formed-2.ensures.distinct)

pub returns-clause-few : goal.returns-clause-few
returns-clause-few c =
    omega (arith, c.well_formed-2.ensures.few, length-row_edges c.self.inside.pool.rows, ap (λ (es : List NumberedEdge). length es) c.self.view_is)
