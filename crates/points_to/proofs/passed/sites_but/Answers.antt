use Rattle.std.proofs.Common.{◌+◌, arith}
use Rattle.points_to.proofs.ListedSites.{all_listed, one_listed}
use Rattle.points_to.proofs.passed.sites_but.Goals as goal

pub loop-number-preserved : goal.loop-number-preserved
loop-number-preserved c = record {
  listed = one_listed c.args.set.now c.args.except.now c.loop-number.low c.in-Some.number c.loop-number.sites.items c.push_unless.new.sites.items c.in-Some.ensures c.loop-number.invariant.listed c.in_ok-push_unless.ensures;
}

pub returns-then-number : goal.returns-then-number
returns-then-number c =
    let set = c.args.set.now in
    let number = c.in-Some.number in
    all_listed set c.args.except.now (number + 1) c.push_unless.new.sites.items (λ n past is. (let l = c.well_formed-2.ensures n is in let most = c.if-number.true in omega arith))
    (one_listed set c.args.except.now c.loop-number.low number c.loop-number.sites.items c.push_unless.new.sites.items c.in-Some.ensures c.loop-number.invariant.listed c.in_ok-push_unless.ensures)

pub returns : goal.returns
returns c = all_listed c.args.set.now c.args.except.now c.loop-number.low c.loop-number.sites.items (λ n past is. c.in_default.ensures.none n past is) c.loop-number.invariant.listed
