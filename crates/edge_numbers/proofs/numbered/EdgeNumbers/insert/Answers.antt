use Rattle.std.proofs.Common.{List, nat_lt, subst}
use Rattle.edge_numbers.specs.declared.numbered.NumberedEdge.{NumberedEdge}
use Rattle.edge_numbers.specs.EdgeRows.{row_edges}
use Rattle.edge_numbers.specs.Inserted.{IsInserted}
use Rattle.edge_numbers.proofs.EdgeRows.{edge_inserted, still_edges}
use Rattle.edge_numbers.proofs.numbered.EdgeNumbers.insert.Goals as goal

pub invariant_of-self-2 : goal.invariant_of-self-2
invariant_of-self-2 c = still_edges c.self.inside.pool c.intern.new.self c.args.edge c.self.invariant c.in_ok-intern.ensures.interned

pub returns-clause-inserted : goal.returns-clause-inserted
returns-clause-inserted c =
    subst (λ (es : List NumberedEdge). IsInserted (nat_lt c.len-held.result c.len.result) es (row_edges c.intern.new.self.rows) c.args.edge) c.self.view_is
    (rw (c.len-held.ensures, c.len.ensures) (edge_inserted c.self.inside.pool c.intern.new.self c.args.edge c.self.invariant c.in_ok-intern.ensures.interned))
