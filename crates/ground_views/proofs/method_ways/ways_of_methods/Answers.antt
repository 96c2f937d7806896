use Rattle.std.proofs.Common.{◌≤◌, ◌<◌, ◌+◌, List, length, take, sym, subst, arith}
use Rattle.std.specs.declared.alloc.Global.{Global}
use Rattle.std.specs.declared.vec.Vec.{Vec}
use Rattle.list_laws.proofs.Places.{stands_below}
use Rattle.op_model.specs.declared.lowered.LoweredMethod.{LoweredMethod}
use Rattle.ground.specs.Findings.{Findings}
use Rattle.node_ways.specs.declared.ways.NodeWays.{NodeWays}
use Rattle.ground_views.specs.Views.{AreMethodWays, AreWaysOfMethods}
use Rattle.ground_views.proofs.OneForOne.{one_all, one_more, one_none}
use Rattle.ground_views.proofs.method_ways.ways_of_methods.Goals as goal

abbrev Row : Findings → LoweredMethod → Vec NodeWays Global → Type 0
Row g l row = AreMethodWays g l row.items

pub loop-place-init : goal.loop-place-init
loop-place-init c = record { rows = one_none (Row c.args.ground.now) c.args.ground.now.methods c.new-ways.result.items c.new-ways.ensures.items }

pub loop-place-preserved : goal.loop-place-preserved
loop-place-preserved c =
    let g = c.args.ground.now in
    let place = c.loop-place.place in
    let test = c.loop-place-test.true in
    let count = c.method_count-place-end.ensures in
    let short : place < length g.methods = omega (arith, test, count) in
    let l = stands_below g.methods place short in
    record {
      rows =
          subst (λ (all : List (Vec NodeWays Global)). AreWaysOfMethods g (take (place + 1) g.methods) all) (sym {A = List (Vec NodeWays Global)} c.in_ok-push.ensures.items)
          (one_more (Row g) g.methods c.loop-place.ways.items place l.0 c.in_ok-ways_of_method.field-0 l.1 c.loop-place.invariant.rows (c.in_ok-ways_of_method.ensures.are l.0 l.1));
    }

pub returns-clause-are : goal.returns-clause-are
returns-clause-are c =
    let g = c.args.ground.now in
    let test = c.loop-place-test.false in
    let count = c.method_count-place-end.ensures in
    let all : length g.methods ≤ c.loop-place.place = omega (arith, test, count) in
    one_all (Row g) g.methods c.loop-place.ways.items c.loop-place.place all c.loop-place.invariant.rows
