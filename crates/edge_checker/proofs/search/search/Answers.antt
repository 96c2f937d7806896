use Rattle.std.proofs.Common.{rules, of_calls}
use Rattle.std.proofs.lemmas.Fn.{always_returns_same}
use Rattle.certificate_lines.specs.LineOrder.{edge_cmp}
use Rattle.edge_checker.specs.declared.numbered_edge.NumberedEdge.{NumberedEdge}
use Rattle.edge_checker.specs.Conditions.{edge_in}
use Rattle.edge_checker.specs.Spans.{edge_wanted}
use Rattle.edge_checker.proofs.search.search.Goals as goal

pub returns-clause-position : goal.returns-clause-position
returns-clause-position c =
    c.binary_search_by.ensures.position (λ (one : NumberedEdge). edge_cmp (edge_in one) (edge_wanted c.args.wanted.now))
    (always_returns_same _ _ _ (λ a r f k. search (rules, of_calls)))
