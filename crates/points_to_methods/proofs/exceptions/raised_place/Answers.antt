use Rattle.std.proofs.Common.{List, refl, sym, ap, subst, ◌∙◌}
use Rattle.std.specs.List.{Contains}
use Rattle.op_model.specs.declared.node.Node.{Node}
use Rattle.op_model.specs.declared.node.NodeHandler.{NodeHandler}
use Rattle.machine_nodes.specs.NodeSteps.{IsFirstTaking}
use Rattle.points_to_rules.specs.Rules.{caught, uncaught}
use Rattle.slot_names.proofs.ListPlaces.{stands_below}
use Rattle.points_to_methods.proofs.RaisedObjects.{taking_stands}
use Rattle.points_to_methods.proofs.NamedSlots.{read_node}
use Rattle.points_to_methods.proofs.exceptions.raised_place.Goals as goal

pub handler_place-requires-clause-there : goal.handler_place-requires-clause-there
handler_place-requires-clause-there c =
    let p = c.args.at.now.program.now in
    let l = c.args.at.now.method.now in
    let class = c.args.class.now in
    let h = c.in-Some.handler in
    let (n, at) = stands_below l.nodes c.args.node c.requires.there in
    let same = read_node l.nodes c.as_slice.result.now c.args.node n c.index-as_slice-node.result c.as_slice.ensures c.requires.there c.index-as_slice-node.is at in
    let list = c.as_slice-handlers.ensures ∙ ap (λ (m : Node). m.handlers) (sym c.index-as_slice-node.is ∙ same) in
    taking_stands p l c.requires.known.in_program c.args.node n at class h (subst (λ (hs : List NodeHandler). IsFirstTaking p class hs h) list c.in-Some.ensures.found)

pub returns-in-Some : goal.returns-in-Some
returns-in-Some c = λ n at.
    let p = c.args.at.now.program.now in
    let l = c.args.at.now.method.now in
    let class = c.args.class.now in
    let h = c.in-Some.handler in
    let same = read_node l.nodes c.as_slice.result.now c.args.node n c.index-as_slice-node.result c.as_slice.ensures c.requires.there c.index-as_slice-node.is at in
    let list = c.as_slice-handlers.ensures ∙ ap (λ (m : Node). m.handlers) (sym c.index-as_slice-node.is ∙ same) in
    caught h (subst (λ (hs : List NodeHandler). IsFirstTaking p class hs h) list c.in-Some.ensures.found) c.handler_place.ensures

pub returns-in-None : goal.returns-in-None
returns-in-None c = λ n at.
    let l = c.args.at.now.method.now in
    let same = read_node l.nodes c.as_slice.result.now c.args.node n c.index-as_slice-node.result c.as_slice.ensures c.requires.there c.index-as_slice-node.is at in
    let list = c.as_slice-handlers.ensures ∙ ap (λ (m : Node). m.handlers) (sym c.index-as_slice-node.is ∙ same) in
    uncaught (λ handler there takes. c.in-None.ensures.none handler (subst (λ (hs : List NodeHandler). Contains hs handler) (sym list) there) takes) refl
