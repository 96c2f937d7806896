use Rattle.std.proofs.Common.{◌≡◌, ◌<◌, ◌+◌, ◌-◌, ◌++◌, ℕ, List, [], length, take, drop, get_or, rules, arith, subst, sym, ap, ◌∙◌, append-nil}
use Rattle.std.proofs.lemmas.List.{take_rest}
use Rattle.std.proofs.lemmas.List.Sorted.{IsNonDecreasingBy-take, IsNonDecreasingBy-drop}
use Rattle.std.proofs.lemmas.Option.{get_or_from_slice_get}
use Rattle.std.proofs.lemmas.Result.{on_ok_weaker}
use Rattle.std.specs.List.Sorted.{IsNonDecreasingBy}
use Rattle.flow_graph.specs.declared.handlers.Span.{Span}
use Rattle.flow_graph.specs.HandlerSpans.{IsTree, places_over, middle_of}
use Rattle.flow_graph.proofs.HandlerTrees.{some_there, half_below, halved, all_before, found_before, found_halves}
use Rattle.flow_graph.proofs.handlers.+add_covering.Goals as goal

nothing : (offset : ℕ) (spans : List Span) (old : List ℕ) → places_over offset spans ≡ [] → old ≡ old ++ places_over offset spans
nothing offset spans old none = sym (ap (λ (xs : List ℕ). old ++ xs) none ∙ append-nil old)

pub returns-then-latest-middle : goal.returns-then-latest-middle
returns-then-latest-middle t c =
    let spans = c.args.spans.now in
    let latest : List ℕ = c.args.latest.now in
    let h : ℕ = middle_of spans in
    let some = some_there (length spans) c.is_empty.result c.is_empty.ensures c.if-is_empty.false in
    let tree = halved spans latest some c.requires.tree in
    let most : get_or latest h 0 ≡ tree.most = get_or_from_slice_get latest h tree.most 0 tree.there in
    nothing c.args.offset spans c.args.places.now.items (all_before c.args.offset tree.most spans tree.all (omega (arith, most, c.if-latest-middle.true)))

pub add_covering-requires : goal.add_covering-requires
add_covering-requires t c =
    let spans = c.args.spans.now in
    let some = some_there (length spans) c.is_empty.result c.is_empty.ensures c.if-is_empty.false in
    let tree = halved spans c.args.latest.now some c.requires.tree in
    (search rules, (tree.left, IsNonDecreasingBy-take (λ (s : Span). s.start) (middle_of spans) spans c.requires.ordered))

pub returns-then-offset-spans : goal.returns-then-offset-spans
returns-then-offset-spans t c =
    let spans = c.args.spans.now in
    let h : ℕ = middle_of spans in
    let some : h < length spans = half_below (length spans) (some_there (length spans) c.is_empty.result c.is_empty.ensures c.if-is_empty.false) in
    let none : Span = record { start = 0; finish = 0; place = 0 } in
    found_before c.args.offset spans h none c.args.places.now.items c.add_covering.new.places.items c.requires.ordered some c.if-offset-spans.true c.in_ok-add_covering.ensures

pub add_covering-requires-2 : goal.add_covering-requires-2
add_covering-requires-2 t c =
    let spans = c.args.spans.now in
    let latest : List ℕ = c.args.latest.now in
    let h : ℕ = middle_of spans in
    let some = some_there (length spans) c.is_empty.result c.is_empty.ensures c.if-is_empty.false in
    let tree = halved spans latest some c.requires.tree in (
      search rules,
      (
        subst (λ (xs : List Span). IsTree xs (take (length latest - (h + 1)) (drop (h + 1) latest))) (sym (take_rest spans (h + 1))) (subst (IsTree (drop (h + 1) spans)) (sym (take_rest latest (h + 1))) tree.right),
        subst (λ (xs : List Span). IsNonDecreasingBy (λ (s : Span). s.start) xs) (sym (take_rest spans (h + 1))) (IsNonDecreasingBy-drop (λ (s : Span). s.start) (h + 1) spans c.requires.ordered),
      ),
    )

pub returns : goal.returns
returns t c =
    let spans = c.args.spans.now in
    let offset : ℕ = c.args.offset in
    let h : ℕ = middle_of spans in
    let some : h < length spans = half_below (length spans) (some_there (length spans) c.is_empty.result c.is_empty.ensures c.if-is_empty.false) in
    let none : Span = record { start = 0; finish = 0; place = 0 } in
    let old : List ℕ = c.args.places.now.items in
    let front : List ℕ = c.add_covering.new.places.items in
    let mid : List ℕ = c.add_place.new.places.items in
    let new : List ℕ = c.add_covering-2.new.places.items in
    on_ok_weaker c.add_covering-2.result
    (λ (right : new ≡ mid ++ places_over offset (take (length spans - (h + 1)) (drop (h + 1) spans))).
    found_halves offset spans h none old front mid new some c.in_ok-add_covering.ensures c.in_ok-add_place.ensures
    (right ∙ ap (λ (xs : List Span). mid ++ places_over offset xs) (take_rest spans (h + 1)))) c.add_covering-2.ensures
