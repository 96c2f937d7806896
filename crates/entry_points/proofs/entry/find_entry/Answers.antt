use Rattle.entry_points.proofs.Starting.{none_starts}
use Rattle.entry_points.proofs.entry.find_entry.Goals as goal

pub returns-in-None-clause-none : goal.returns-in-None-clause-none
returns-in-None-clause-none c =
    none_starts c.args.program.now c.args.class.now c.args.method.now c.in-None.ensures.none c.starting-in-None.result c.starting-in-None.ensures.none
