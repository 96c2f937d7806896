use Rattle.std.proofs.Common.{List, sym, subst}
use Rattle.std.specs.List.{Contains}
use Rattle.std.proofs.lemmas.Result.{IfOk-weaker}
use Rattle.node_ways.specs.declared.ways.EnteredMethod.{EnteredMethod}
use Rattle.node_ways.specs.Ways.{AreEntered, IsCalled}
use Rattle.node_ways.proofs.Entering.{called_are, none_called}
use Rattle.node_ways.proofs.entered.called_methods.Goals as goal

pub returns-in-Some : goal.returns-in-Some
returns-in-Some c =
    let n = c.args.node.now in
    IfOk-weaker c.entered_of.result _ _
    (λ entered found x same.
    called_are x c.args.ground.now same n c.args.method c.in-Some.field-0.now c.in-Some.ensures c.targets_at.result.now c.targets_at.ensures.targets entered.items found)
    c.entered_of.ensures

pub returns-in-None : goal.returns-in-None
returns-in-None c = λ x same.
    let S = Contains c.args.ground.now.facts in
    let n = c.args.node.now in
    subst (λ (methods : List EnteredMethod). AreEntered x S n (IsCalled x S c.args.method n) methods) (sym c.new.ensures.items)
    (none_called x c.args.ground.now same n c.args.method c.in-None.ensures)
