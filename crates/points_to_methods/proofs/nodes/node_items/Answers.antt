use Rattle.points_to_constraints.specs.NodeItems.{FlowItem, EnterItem, HandleItem, OpItem, RaiseItem, TriggerItem, NodeItem}
use Rattle.points_to_numbers.proofs.Making.{makes_both}
use Rattle.points_to_methods.proofs.NodeSums.{PartItem, all_parts, node_after, node_before, node_same}
use Rattle.points_to_methods.proofs.nodes.node_items.Goals as goal

pub returns : goal.returns
returns c = λ n at.
    let p = c.args.at.now.program.now in
    let l = c.args.at.now.method.now in
    let old = c.args.work.now.tables in
    let before = c.args.work.now.steps.items in
    let flow = c.flow_items.new.work in
    let enter = c.enter_items.new.work in
    let handle = c.handle_items.new.work in
    let operation = c.operation_items.new.work in
    let raise = c.raise_items.new.work in
    let trigger = c.trigger_items.new.work in
    node_same l n old trigger.tables (PartItem p l n) (NodeItem p l.method l n) before trigger.steps.items (all_parts p l n)
    (node_before l n old raise.tables trigger.tables _ (TriggerItem p l.method l n) before raise.steps.items trigger.steps.items
    (node_before l n old operation.tables raise.tables _ (RaiseItem p l.method l n) before operation.steps.items raise.steps.items
    (node_after l n old handle.tables operation.tables _ (OpItem n.op p l.method l n) before handle.steps.items operation.steps.items
    (makes_both old enter.tables handle.tables _ (HandleItem l n) before enter.steps.items handle.steps.items
    (makes_both old flow.tables enter.tables (FlowItem l n) (EnterItem l.method l n) before flow.steps.items enter.steps.items
    (c.in_ok-flow_items.ensures n at) (c.in_ok-enter_items.ensures n at))
    (c.in_ok-handle_items.ensures n at))
    (c.in_ok-operation_items.ensures n at))
    (c.in_ok-raise_items.ensures n at))
    (c.in_ok-trigger_items.ensures n at))
