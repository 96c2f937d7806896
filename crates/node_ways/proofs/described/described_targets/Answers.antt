use Rattle.std.proofs.Common.{List, sym, subst}
use Rattle.std.proofs.lemmas.Result.{IfOk-weaker}
use Rattle.std.specs.List.{Contains}
use Rattle.node_ways.specs.declared.ways.DescribedTarget.{DescribedTarget}
use Rattle.node_ways.specs.Ways.{AreDescribed}
use Rattle.node_ways.proofs.Describing.{described_are, none_described}
use Rattle.node_ways.proofs.described.described_targets.Goals as goal

pub returns-in-Some : goal.returns-in-Some
returns-in-Some c =
    let n = c.args.node.now in
    IfOk-weaker c.described_of.result _ _
    (λ described found x same.
    described_are x c.args.ground.now same c.args.method n c.in-Some.call.now c.in-Some.ensures c.targets_at.result.now c.targets_at.ensures.targets described.items found)
    c.described_of.ensures

pub returns-in-None : goal.returns-in-None
returns-in-None c = λ x same.
    subst (λ (ds : List DescribedTarget). AreDescribed x (Contains c.args.ground.now.facts) c.args.method c.args.node.now ds) (sym c.new.ensures.items)
    (none_described x c.args.ground.now same c.args.method c.args.node.now c.in-None.ensures)
