use Rattle.std.proofs.Common.{None, sym}
use Rattle.std.proofs.lemmas.Option.{none-some}
use Rattle.points_to_rules.specs.declared.place.Place.TheVariants.{Variable}
use Rattle.points_to_rules.specs.Facts.{variable}
use Rattle.points_to_rules.proofs.ExactPlaces.{same_places}
use Rattle.ground.proofs.KeySets.{only_at, stands_at}
use Rattle.ground.proofs.SlotPlaces.{place_there, tells_places, variable_at}
use Rattle.ground.proofs.Views.{none_listed}
use Rattle.ground.proofs.ground.Ground.place_with.Goals as goal

pub returns-in-Some-clause-found : goal.returns-in-Some-clause-found
returns-in-Some-clause-found c =
    let keys = c.self.inside.lists.places.keys in
    variable_at c.self.inside.program.now c.self.inside.lists c.args.self.now c.self.view_is c.self.invariant.sound c.in-Some.number c.args.variable (stands_at same_places tells_places keys (Variable c.args.variable) c.in-Some.number (sym c.in-Some.ensures.index))

pub returns-in-None-clause-none : goal.returns-in-None-clause-none
returns-in-None-clause-none c =
    let keys = c.self.inside.lists.places.keys in
    none_listed c.self.inside.program.now c.self.inside.lists c.args.self.now c.self.view_is c.self.invariant.sound (variable c.args.variable)
    (λ there.
    let (number, at) = place_there c.self.inside.program.now c.self.inside.lists c.args.self.now c.self.view_is c.self.invariant.sound c.args.variable there in
    none-some number (only_at same_places tells_places keys c.len-count.ensures.unique (Variable c.args.variable) None c.in-None.ensures.index c.in-None.ensures.found number at))
