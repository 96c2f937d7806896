use Rattle.std.proofs.Common.{refl}
use Rattle.points_to_rules.specs.Facts.{elements_of}
use Rattle.points_to_numbers.proofs.AddedItems.{adds_held}
use Rattle.points_to_numbers.proofs.Making.{makes_grown, makes_added}
use Rattle.points_to_rules.specs.declared.place.Place.TheVariants.{Elements}
use Rattle.points_to_methods.proofs.makes.nest_site.Goals as goal

pub add_holding-requires-clause-place : goal.add_holding-requires-clause-place
add_holding-requires-clause-place c = (elements_of c.args.outer.now, (c.args.outer.now, c.in_ok-element.ensures.grows.sites c.in_ok-array.array.0 c.args.outer.now c.in_ok-array.ensures.stands, refl))

pub returns : goal.returns
returns c =
    let one = c.args.work.now.tables in
    let two = c.number_site.new.tables in
    let three = c.number_site-2.new.tables in
    let four = c.add_holding.new.self.tables in
    let outer = c.args.outer.now in
    let before = c.args.work.now.steps.items in
    let after = c.add_holding.new.self.steps.items in
    let facts = c.in_ok-add_holding.ensures in
    makes_grown one two four _ before after c.in_ok-array.ensures.grows c.in_ok-array.ensures.calls
    (makes_grown two three four _ before after c.in_ok-element.ensures.grows c.in_ok-element.ensures.calls
    (makes_added three four _ before after facts.grows facts.calls
    (adds_held three four (Elements c.in_ok-array.array) (elements_of outer) c.args.inner.now before after
    (outer, c.in_ok-element.ensures.grows.sites c.in_ok-array.array.0 outer c.in_ok-array.ensures.stands, refl)
    (facts.adds c.args.inner.now c.in_ok-element.ensures.stands))))
