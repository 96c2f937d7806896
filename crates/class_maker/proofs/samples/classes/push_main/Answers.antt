use Rattle.std.proofs.Common.{arith}
use Rattle.class_maker.proofs.Counted.{main_length}
use Rattle.class_maker.proofs.samples.classes.push_main.Goals as goal

pub push_method-requires : goal.push_method-requires
push_method-requires c =
    rw (c.as_slice.ensures.value, c.in_ok-code.ensures) (omega (arith, main_length c.args.count c.requires))
