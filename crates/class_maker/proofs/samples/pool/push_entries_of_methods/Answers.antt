use Rattle.class_maker.specs.Sample.{entries_of_method}
use Rattle.class_maker.proofs.Below.{flat_map_below_more}
use Rattle.class_maker.proofs.samples.pool.push_entries_of_methods.Goals as goal

pub loop-number-preserved : goal.loop-number-preserved
loop-number-preserved c =
    rw (c.in_ok-push_entries_of_method.ensures, c.loop-number.invariant)
    (flat_map_below_more entries_of_method c.args.entries.now.items c.loop-number.number)
