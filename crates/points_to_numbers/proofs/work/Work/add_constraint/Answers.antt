use Rattle.points_to_numbers.proofs.AddedItems.{use_added}
use Rattle.points_to_numbers.proofs.work.Work.add_constraint.Goals as goal

pub returns-clause-adds : goal.returns-clause-adds
returns-clause-adds c =
    use_added c.args.self.now.tables c.place.new.self c.constraint.new.self c.args.place c.args.constraint c.in_ok-place.place c.in_ok-constraint.constraint c.args.self.now.steps.items c.push.new.self.items
    c.in_ok-place.ensures.grows c.in_ok-place.ensures.stands c.in_ok-constraint.ensures.grows c.in_ok-constraint.ensures.stands c.requires.place c.requires.constraint c.in_ok-push.ensures.items
