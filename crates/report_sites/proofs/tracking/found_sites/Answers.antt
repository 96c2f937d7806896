use Rattle.std.proofs.Common.{◌≤◌, [], length, arith}
use Rattle.ground.specs.Added.{OfOne}
use Rattle.report_sites.specs.Found.{IsSiteOfMethod}
use Rattle.ground.proofs.Adding.{added_all, added_alone, added_more}
use Rattle.report_sites.proofs.tracking.found_sites.Goals as goal

pub method-requires : goal.method-requires
method-requires c = omega (arith, c.loop-place-test.true, c.method_count-place-end.ensures)

pub loop-place-preserved : goal.loop-place-preserved
loop-place-preserved c = record {
  added = added_more (IsSiteOfMethod c.args.wanted.now.program.now c.args.ground.now c.args.wanted.now.upper) c.args.ground.now.methods c.loop-place.place c.method.result.now
      c.method.ensures [] c.loop-place.sites.items c.add_method.new.sites.items c.loop-place.invariant.added c.in_ok-add_method.ensures;
}

pub returns : goal.returns
returns c =
    let methods = c.args.ground.now.methods in
    let of = IsSiteOfMethod c.args.wanted.now.program.now c.args.ground.now c.args.wanted.now.upper in
    let past : length methods ≤ c.loop-place.place = omega (arith, c.loop-place-test.false, c.method_count-place-end.ensures) in
    let sites = c.loop-place.sites.items in
    record { each = added_alone (OfOne of methods) sites (added_all of methods c.loop-place.place past [] sites c.loop-place.invariant.added) }
