use Rattle.program_index.proofs.Cycles.{none_from_below}
use Rattle.program_index.proofs.order.least_on_cycle.Goals as goal

pub returns-clause-none : goal.returns-clause-none
returns-clause-none c = none_from_below c.args.parents.now c.loop-class.class c.loop-class-test.false c.loop-class.invariant.none
