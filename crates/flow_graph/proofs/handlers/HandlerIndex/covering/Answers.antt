use Rattle.std.proofs.Common.{◌≡◌, ℕ, ◌++◌, List, ap, ◌∙◌, subst}
use Rattle.std.specs.List.Sorted.{IsPermutation}
use Rattle.std.proofs.lemmas.List.Sorted.{IsNonDecreasingBy-from_sort}
use Rattle.jvm_model.specs.declared.code.Handler.{Handler}
use Rattle.flow_graph.specs.Flows.{covering}
use Rattle.flow_graph.specs.HandlerSpans.{places_over}
use Rattle.flow_graph.proofs.HandlerPlaces.{sorted_places}
use Rattle.flow_graph.proofs.handlers.HandlerIndex.covering.Goals as goal

pub returns : goal.returns
returns c =
    let offset : ℕ = c.args.offset in
    let spans = c.self.inside.spans.items in
    let sorted : List ℕ = c.sort_unstable.new.self.items in
    let found : c.add_covering.new.places.items ≡ places_over offset spans =
    c.in_ok-add_covering.ensures ∙ ap (λ (xs : List ℕ). xs ++ places_over offset c.deref.result.now) c.new-places.ensures.items ∙ ap (places_over offset) c.deref.ensures.value in
    sorted_places c.self.inside.handlers.now spans offset sorted c.self.invariant.all (subst (λ (xs : List ℕ). IsPermutation xs sorted) found c.sort_unstable.ensures.permutation)
    (IsNonDecreasingBy-from_sort (λ (x : ℕ). x) sorted c.sort_unstable.ensures.sorted) ∙ ap (λ (hs : List Handler). covering hs offset) c.self.view_is
