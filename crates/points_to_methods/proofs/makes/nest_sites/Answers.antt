use Rattle.std.proofs.Common.{length, arith}
use Rattle.points_to_methods.specs.Arrays.{NestsAt}
use Rattle.points_to_numbers.proofs.Making.{makes_below_start, makes_below_next, makes_below_all}
use Rattle.points_to_methods.proofs.makes.nest_sites.Goals as goal

pub loop-place-init : goal.loop-place-init
loop-place-init c = makes_below_start (NestsAt c.args.sites.now) c.args.work.now.tables c.args.work.now.steps.items

pub loop-place-preserved : goal.loop-place-preserved
loop-place-preserved c =
    makes_below_next (NestsAt c.args.sites.now) c.args.work.now.tables c.loop-place.work.tables c.nest_at.new.work.tables c.loop-place.place
    c.args.work.now.steps.items c.loop-place.work.steps.items c.nest_at.new.work.steps.items c.loop-place.invariant c.in_ok-nest_at.ensures

pub returns : goal.returns
returns c =
    makes_below_all (NestsAt c.args.sites.now) c.args.work.now.tables c.loop-place.work.tables c.loop-place.place (length c.args.sites.now)
    c.args.work.now.steps.items c.loop-place.work.steps.items (omega arith) c.loop-place.invariant
