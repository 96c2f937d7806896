use Rattle.std.proofs.Common.{◌≡◌, rules}
use Rattle.std.specs.Ordering.{is_lt}
use Rattle.std.proofs.lemmas.Fn.{always_returns_same, dedup_same}
use Rattle.std.proofs.lemmas.List.Sorted.{ranks_by}
use Rattle.certificate_lines.specs.LineOrder.{line_cmp}
use Rattle.certificate_lines.proofs.LineOrders.{line_total}
use Rattle.certificate_printing.proofs.InOrder.{ascending, have_same, same_line}
use Rattle.certificate_printing.proofs.order.in_order.Goals as goal

pub returns-clause-same : goal.returns-clause-same
returns-clause-same c =
    have_same c.args.lines.items c.sort_unstable_by.new.self.items c.dedup_by.new.self.items c.sort_unstable_by.ensures.permutation
    (c.sort_unstable_by.ensures.sorted (λ k l. is_lt (line_cmp k l)) (ranks_by line_total (λ k. k))
    (always_returns_same _ (λ a r. is_lt r ≡ is_lt (line_cmp a.0.now a.1.0.now)) _ (λ a r f' k. search rules)))
    (dedup_same _ same_line _ (λ x y b f' x' y' k. search rules) _ _ c.dedup_by.ensures.filtered)

pub returns-clause-ascend : goal.returns-clause-ascend
returns-clause-ascend c =
    ascending c.args.lines.items c.sort_unstable_by.new.self.items c.dedup_by.new.self.items c.sort_unstable_by.ensures.permutation
    (c.sort_unstable_by.ensures.sorted (λ k l. is_lt (line_cmp k l)) (ranks_by line_total (λ k. k))
    (always_returns_same _ (λ a r. is_lt r ≡ is_lt (line_cmp a.0.now a.1.0.now)) _ (λ a r f' k. search rules)))
    (dedup_same _ same_line _ (λ x y b f' x' y' k. search rules) _ _ c.dedup_by.ensures.filtered)
