use Rattle.std.proofs.Common.{[]}
use Rattle.class_maker.specs.Sample.{call_of}
use Rattle.class_maker.proofs.Below.{flat_map_below_more}
use Rattle.class_maker.proofs.samples.code.main_code.Goals as goal

pub loop-number-preserved : goal.loop-number-preserved
loop-number-preserved c =
    rw (c.in_ok-push_call.ensures, c.loop-number.invariant) (flat_map_below_more call_of [] c.loop-number.number)
