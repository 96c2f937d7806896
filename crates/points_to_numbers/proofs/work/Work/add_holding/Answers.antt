use Rattle.points_to_numbers.proofs.AddedItems.{holding_added}
use Rattle.points_to_numbers.proofs.work.Work.add_holding.Goals as goal

pub returns-clause-adds : goal.returns-clause-adds
returns-clause-adds c = λ s there.
    holding_added c.args.self.now.tables c.place.new.self c.args.place c.args.site s c.in_ok-place.place c.args.self.now.steps.items c.push.new.self.items
    c.in_ok-place.ensures.grows c.in_ok-place.ensures.stands there c.requires.place c.in_ok-push.ensures.items
