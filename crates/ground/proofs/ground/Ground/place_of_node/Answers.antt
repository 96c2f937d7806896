use Rattle.std.proofs.Common.{◌≡◌, ℕ, refl, sym}
use Rattle.std.proofs.lemmas.Option.{none-some, same_Some, slice_get_within}
use Rattle.ground.specs.Findings.{IsPlaceOfMethod}
use Rattle.ground.proofs.NodePlaces.{in_method, no_method}
use Rattle.ground.proofs.ground.Ground.place_of_node.Goals as goal

pub returns-in_default-place_of_method : goal.returns-in_default-place_of_method
returns-in_default-place_of_method c =
    no_method c.args.self.now c.args.node c.in-Some.number c.in-Some.is (λ place there. none-some place ((c.in_default-place_of_method.ensures place).1 there))

pub place_in_method-requires : goal.place_in_method-requires
place_in_method-requires c =
    let there = (c.in-Some-place_of_method.ensures c.in-Some-place_of_method.method).0 refl in
    slice_get_within c.args.self.now.methods c.in-Some-place_of_method.method there.lowered there.stands

pub returns : goal.returns
returns c = λ at.
    let method = c.in-Some-place_of_method.method in
    let there = (c.in-Some-place_of_method.ensures method).0 refl in
    let only : (place : ℕ) → IsPlaceOfMethod c.args.self.now c.in-Some.number place → place ≡ method =
    λ place other. sym (same_Some method place ((c.in-Some-place_of_method.ensures place).1 other)) in
    let of_node = in_method c.args.self.now c.args.node c.in-Some.number c.in-Some.is method there only at in (
      λ e. of_node.0 ((c.place_in_method.ensures at).0 e),
      λ is. (c.place_in_method.ensures at).1 (of_node.1 is),
    )
