use Rattle.std.proofs.Common.{rules, of_calls}
use Rattle.std.proofs.lemmas.Fn.{always_returns_same}
use Rattle.std.specs.Ordering.{is_le}
use Rattle.edge_checker.specs.declared.numbered_edge.NumberedEdge.{NumberedEdge}
use Rattle.edge_checker.specs.Conditions.{edge_in}
use Rattle.edge_checker.specs.Spans.{edge_wanted, entry_cmp}
use Rattle.edge_checker.proofs.search.first_after.Goals as goal

pub returns-clause-partitioned : goal.returns-clause-partitioned
returns-clause-partitioned c =
    c.partition_point.ensures.partitioned (λ (one : NumberedEdge). is_le (entry_cmp (edge_in one) (edge_wanted c.args.wanted.now)))
    (always_returns_same _ _ _ (λ a r f k. search (rules, of_calls)))
