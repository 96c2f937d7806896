use Rattle.std.proofs.Common.{◌≡◌, List, sym, ap, subst, ◌∙◌, arith}
use Rattle.op_model.specs.declared.node.Node.{Node}
use Rattle.op_model.specs.declared.node.NodeHandler.{NodeHandler}
use Rattle.points_to_constraints.specs.Items.{Item}
use Rattle.points_to_constraints.specs.NodeItems.{HandleItem}
use Rattle.points_to_numbers.proofs.Adding.{OfOne}
use Rattle.points_to_numbers.specs.Steps.{Makes}
use Rattle.points_to_methods.specs.Known.{names_at}
use Rattle.points_to_methods.specs.Slots.{HandsTo}
use Rattle.points_to_numbers.proofs.Making.{makes_start, makes_next_read, makes_all, makes_same}
use Rattle.points_to_methods.proofs.NamedSlots.{read_node}
use Rattle.points_to_methods.proofs.EnteredSlots.{handled}
use Rattle.points_to_methods.proofs.handlers.handle_items.Goals as goal

pub loop-handler-init : goal.loop-handler-init
loop-handler-init c =
    let l = c.args.at.now.method.now in
    makes_start (λ (h : NodeHandler). HandsTo l (names_at c.args.at.now) c.args.node h.target) c.args.work.now.tables c.as_slice-handler-items.result.now c.args.work.now.steps.items

pub loop-handler-preserved : goal.loop-handler-preserved
loop-handler-preserved c =
    let l = c.args.at.now.method.now in
    let P : NodeHandler → Item → Type 0 = λ h. HandsTo l (names_at c.args.at.now) c.args.node h.target in
    makes_next_read P c.args.work.now.tables c.loop-handler.work.tables c.handle_at.new.work.tables c.as_slice-handler-items.result.now c.loop-handler.handler-index _
    c.args.work.now.steps.items c.loop-handler.work.steps.items c.handle_at.new.work.steps.items c.loop-handler-test.true c.loop-handler.invariant c.in_ok-handle_at.ensures

pub returns : goal.returns
returns c = λ n at.
    let l = c.args.at.now.method.now in
    let names = names_at c.args.at.now in
    let read = c.index-as_slice-node.result in
    let items = c.as_slice-handler-items.result.now in
    let same : read ≡ n = read_node l.nodes c.as_slice.result.now c.args.node n read c.as_slice.ensures c.requires.there c.index-as_slice-node.is at in
    let P : NodeHandler → Item → Type 0 = λ h. HandsTo l names c.args.node h.target in
    let all = makes_all P c.args.work.now.tables c.loop-handler.work.tables items c.loop-handler.handler-index c.args.work.now.steps.items c.loop-handler.work.steps.items
    (omega arith) c.loop-handler.invariant in
    let of_node = subst (λ (xs : List NodeHandler). Makes c.args.work.now.tables c.loop-handler.work.tables (OfOne P xs) c.args.work.now.steps.items c.loop-handler.work.steps.items)
    (c.as_slice-handler-items.ensures ∙ ap (λ (m : Node). m.handlers) (sym c.index-as_slice-node.is ∙ same)) all in
    makes_same c.args.work.now.tables c.loop-handler.work.tables _ (HandleItem l n) c.args.work.now.steps.items c.loop-handler.work.steps.items
    (handled c.args.at.now.program.now l names c.requires.known c.args.node n at) of_node
