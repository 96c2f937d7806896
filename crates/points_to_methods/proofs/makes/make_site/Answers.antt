use Rattle.points_to_constraints.specs.NodeItems.{MakesItem}
use Rattle.points_to_numbers.proofs.Making.{makes_grown}
use Rattle.points_to_methods.proofs.makes.make_site.Goals as goal

pub returns : goal.returns
returns c = λ n at.
    let l = c.args.at.now.method.now in
    makes_grown c.args.work.now.tables c.number_site.new.tables c.hold_after.new.work.tables (MakesItem l n c.args.target c.args.site.now) c.args.work.now.steps.items c.hold_after.new.work.steps.items
    c.in_ok-number.ensures.grows c.in_ok-number.ensures.calls (c.in_ok-hold_after.ensures n c.args.site.now at c.in_ok-number.ensures.stands)
