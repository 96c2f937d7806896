use Rattle.entry_points.proofs.AddedMethods.{of_more}
use Rattle.entry_points.proofs.initialisers.add_each.Goals as goal

pub loop-number-preserved : goal.loop-number-preserved
loop-number-preserved c =
    of_more c.args.program.now c.args.classes.now c.loop-number.number-index c.args.found.now.items c.loop-number.found.items c.add_declared.new.found.items c.loop-number-test.true
    c.loop-number.invariant c.in_ok-add_declared.ensures
