use Rattle.std.proofs.Common.{◌≡◌, ℕ, Option, Some, subst}
use Rattle.std.specs.List.{slice_get}
use Rattle.std.specs.Option.{IfSome}
use Rattle.ground.proofs.NodePlaces.{method_found, number_found}
use Rattle.ground.proofs.ground.Ground.place_of_method.Goals as goal

pub returns : goal.returns
returns c = λ place.
    let keys = c.self.inside.lists.numbers.keys in (
      λ e.
          let at = subst (λ (o : Option ℕ). IfSome o (λ k. slice_get keys k ≡ Some c.args.number)) e c.number_place.ensures.found in
          method_found c.self.inside.program.now c.self.inside.lists c.args.self.now c.self.view_is c.self.invariant.sound c.args.number place at,
      λ there. c.number_place.ensures.only place (number_found c.self.inside.program.now c.self.inside.lists c.args.self.now c.self.view_is c.self.invariant.sound c.args.number place there),
    )
