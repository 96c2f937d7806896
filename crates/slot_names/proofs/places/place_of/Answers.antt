use Rattle.std.proofs.Common.{rules}
use Rattle.std.proofs.lemmas.List.Sorted.{answers_always}
use Rattle.op_model.specs.declared.node.Node.{Node}
use Rattle.slot_names.specs.NodePlaces.{IsPlaceOf}
use Rattle.slot_names.proofs.FoundPlaces.{place_within, searched_in}
use Rattle.slot_names.proofs.places.place_of.Goals as goal

-- the closure gives a node's offset
found : (c : goal.After-ok) → IsPlaceOf c.args.method.now c.args.offset c.ok.result
found c =
    let facts = c.binary_search_by_key.ensures in
    let by_key = facts.position (λ (n : Node). n.offset) (answers_always _ _ _ (λ f a r g called. search rules)) in
    searched_in c.args.method.now c.as_slice-nodes.result.now c.args.offset c.binary_search_by_key.result c.ok.result c.as_slice-nodes.ensures c.requires facts.bound by_key
    c.ok.ensures.value

pub returns-clause-place : goal.returns-clause-place
returns-clause-place c = found c

pub returns-clause-within : goal.returns-clause-within
returns-clause-within c = place_within c.args.method.now c.args.offset c.ok.result (found c)
