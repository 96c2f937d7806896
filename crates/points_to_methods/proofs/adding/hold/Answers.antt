use Rattle.points_to_numbers.proofs.AddedItems.{adds_held}
use Rattle.points_to_methods.specs.Fixed.{holder_of}
use Rattle.points_to_numbers.proofs.Making.{makes_added}
use Rattle.points_to_methods.proofs.adding.hold.Goals as goal

pub add_holding-requires-clause-place : goal.add_holding-requires-clause-place
add_holding-requires-clause-place c = (holder_of c.args.place, c.key_of.ensures c.args.work.now.tables)

pub returns : goal.returns
returns c = λ s there.
    let old = c.args.work.now.tables in
    let new = c.add_holding.new.self.tables in
    let facts = c.in_ok-add_holding.ensures in
    makes_added old new _ c.args.work.now.steps.items c.add_holding.new.self.steps.items facts.grows facts.calls
    (adds_held old new c.key_of.result (holder_of c.args.place) s c.args.work.now.steps.items c.add_holding.new.self.steps.items (c.key_of.ensures old) (facts.adds s there))
