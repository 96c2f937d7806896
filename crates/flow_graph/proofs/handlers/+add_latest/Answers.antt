use Rattle.std.proofs.Common.{◌<◌, ◌+◌, ◌-◌, ℕ, List, length, take, drop, subst}
use Rattle.std.proofs.lemmas.List.{take_rest}
use Rattle.std.proofs.lemmas.Result.{on_ok_weaker}
use Rattle.flow_graph.specs.declared.handlers.Span.{Span}
use Rattle.flow_graph.specs.HandlerSpans.{AddsTree, middle_of}
use Rattle.flow_graph.proofs.HandlerTrees.{none_there, some_there, half_below, adds_none, adds_halves}
use Rattle.flow_graph.proofs.handlers.+add_latest.Goals as goal

pub returns-then-is_empty : goal.returns-then-is_empty
returns-then-is_empty t c = adds_none c.args.spans.now c.args.latest.now.items (none_there (length c.args.spans.now) c.is_empty.result c.is_empty.ensures c.if-is_empty.true)

pub returns : goal.returns
returns t c =
    let spans = c.args.spans.now in
    let h : ℕ = middle_of spans in
    let some : h < length spans = half_below (length spans) (some_there (length spans) c.is_empty.result c.is_empty.ensures c.if-is_empty.false) in
    let old = c.args.latest.now.items in
    let front = c.add_latest.new.latest.items in
    let mid = c.push.new.self.items in
    let new = c.add_latest-2.new.latest.items in
    on_ok_weaker c.add_latest-2.result
    (λ (right : AddsTree (take (length spans - (h + 1)) (drop (h + 1) spans)) mid new).
    adds_halves spans old front mid new c.latest_of.result some c.latest_of.ensures c.in_ok-add_latest.ensures c.in_ok-push.ensures.items
    (subst (λ (xs : List Span). AddsTree xs mid new) (take_rest spans (h + 1)) right)) c.add_latest-2.ensures
