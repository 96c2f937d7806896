use Rattle.std.proofs.Common.{◌<◌, ◌^◌, arith}
use Rattle.stage_calls.proofs.Passing.{gathers_passed}
use Rattle.stage_calls.proofs.enter.pass_units.Goals as goal

pub loop-unit-preserved : goal.loop-unit-preserved
loop-unit-preserved c before few initial =
    let within : c.loop-unit.unit < 2 ^ 32 = omega arith in
    gathers_passed c.pass_unit.new.gathering before c.args.set.now c.args.arguments.now c.loop-unit.unit _ c.loop-unit-test.true
    (c.pass_unit.ensures _ within (c.loop-unit.invariant before few initial))
