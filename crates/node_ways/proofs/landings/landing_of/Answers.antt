use Rattle.std.proofs.Common.{List, subst}
use Rattle.op_model.specs.declared.node.NodeHandler.{NodeHandler}
use Rattle.std.specs.List.{Contains}
use Rattle.machine_nodes.specs.NodeSteps.{IsFirstTaking, Takes}
use Rattle.node_ways.proofs.Landing.{lands_caught, lands_nowhere}
use Rattle.node_ways.proofs.landings.landing_of.Goals as goal

pub returns-in-Some : goal.returns-in-Some
returns-in-Some c =
    let p = c.args.program.now in
    let class = c.args.class.now in
    let first = subst (λ (hs : List NodeHandler). IsFirstTaking p class hs c.in-Some.handler) c.as_slice.ensures c.in-Some.ensures.found in
    lands_caught p c.args.node.now class c.in-Some.handler first

pub returns-in-None : goal.returns-in-None
returns-in-None c =
    let p = c.args.program.now in
    let class = c.args.class.now in
    let none = subst (λ (hs : List NodeHandler). (h : NodeHandler) → Contains hs h → Takes p h class → ⊥) c.as_slice.ensures c.in-None.ensures.none in
    lands_nowhere p c.args.node.now class none
