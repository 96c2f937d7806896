use Rattle.class_maker.specs.Sample.{numbered_method}
use Rattle.class_maker.proofs.Below.{map_below_more}
use Rattle.class_maker.proofs.samples.classes.push_numbered.Goals as goal

pub loop-number-preserved : goal.loop-number-preserved
loop-number-preserved c =
    rw (c.in_ok-push_method.ensures, c.name_of.ensures, c.code_of.ensures, c.loop-number.invariant)
    (map_below_more numbered_method c.args.methods.now.items c.loop-number.number)
