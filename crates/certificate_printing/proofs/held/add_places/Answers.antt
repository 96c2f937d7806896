use Rattle.std.proofs.Common.{length, arith}
use Rattle.certificate_printing.specs.Collected.{IsHeldLine}
use Rattle.certificate_printing.proofs.Collecting.{below_all, below_more, below_none}
use Rattle.certificate_printing.proofs.held.add_places.Goals as goal

pub loop-place-init : goal.loop-place-init
loop-place-init c = record { added = below_none (IsHeldLine c.args.ground.now) c.args.lines.now.items; within = omega arith }

pub loop-place-preserved : goal.loop-place-preserved
loop-place-preserved c =
    let short = c.loop-place-test.true in
    let count = c.requires in
    record {
      added = below_more (IsHeldLine c.args.ground.now) c.loop-place.place c.args.lines.now.items c.loop-place.lines.items c.add_place.new.lines.items
          c.loop-place.invariant.added c.in_ok-add_place.ensures;
      within = omega (arith, short, count);
    }

pub returns : goal.returns
returns c =
    let all = c.loop-place-test.false in
    let count = c.requires in
    below_all (IsHeldLine c.args.ground.now) c.loop-place.place (length c.args.ground.now.holders) c.loop-place.invariant.within (omega (arith, all, count))
    c.args.lines.now.items c.loop-place.lines.items c.loop-place.invariant.added
