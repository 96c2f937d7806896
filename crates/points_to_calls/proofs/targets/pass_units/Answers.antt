use Rattle.std.proofs.Common.{arith}
use Rattle.points_to_calls.specs.Parts.{PassesUnit}
use Rattle.points_to_numbers.proofs.Making.{makes_below_next}
use Rattle.points_to_calls.proofs.PassedUnits.{units_passed}
use Rattle.points_to_calls.proofs.targets.pass_units.Goals as goal

pub pass_unit-requires : goal.pass_unit-requires
pass_unit-requires c = let (site, at) = c.requires in (site, (c.loop-unit.invariant site at).grows.calls c.args.call.0 site at)

pub loop-unit-preserved : goal.loop-unit-preserved
loop-unit-preserved c = λ site at.
    let before = c.loop-unit.invariant site at in
    makes_below_next (PassesUnit site c.args.target) c.args.work.now.tables c.loop-unit.work.tables c.pass_unit.new.work.tables c.loop-unit.unit c.args.work.now.steps.items c.loop-unit.work.steps.items c.pass_unit.new.work.steps.items
    before (c.in_ok-pass_unit.ensures site (before.grows.calls c.args.call.0 site at))

pub returns : goal.returns
returns c = λ site at.
    units_passed c.args.work.now.tables c.loop-unit.work.tables site c.args.target c.loop-unit.unit c.args.work.now.steps.items c.loop-unit.work.steps.items
    (let count = c.argument_count-unit-end.ensures site at in omega (arith, count))
    (c.loop-unit.invariant site at)
