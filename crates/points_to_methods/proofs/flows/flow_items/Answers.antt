use Rattle.std.proofs.Common.{◌≡◌, ℕ, List, subst, arith}
use Rattle.op_model.specs.declared.node.Node.{Node}
use Rattle.points_to_constraints.specs.Items.{Item}
use Rattle.points_to_constraints.specs.NodeItems.{FlowItem}
use Rattle.points_to_numbers.proofs.Adding.{OfOne}
use Rattle.points_to_numbers.specs.Steps.{Makes}
use Rattle.points_to_methods.specs.Known.{names_at}
use Rattle.points_to_methods.specs.Slots.{FlowsTo}
use Rattle.points_to_numbers.proofs.Making.{makes_start, makes_next_read, makes_all, makes_same}
use Rattle.points_to_methods.proofs.NamedSlots.{read_node}
use Rattle.points_to_methods.proofs.EnteredSlots.{flowed}
use Rattle.points_to_methods.proofs.flows.flow_items.Goals as goal

pub loop-offset-init : goal.loop-offset-init
loop-offset-init c =
    let l = c.args.at.now.method.now in
    makes_start (λ offset. FlowsTo l (names_at c.args.at.now) c.index-as_slice-node.result.op c.args.node offset) c.args.work.now.tables c.as_slice-offset-items.result.now c.args.work.now.steps.items

pub loop-offset-preserved : goal.loop-offset-preserved
loop-offset-preserved c =
    let l = c.args.at.now.method.now in
    let P : ℕ → Item → Type 0 = λ offset. FlowsTo l (names_at c.args.at.now) c.index-as_slice-node.result.op c.args.node offset in
    makes_next_read P c.args.work.now.tables c.loop-offset.work.tables c.flow_to.new.work.tables c.as_slice-offset-items.result.now c.loop-offset.offset-index _
    c.args.work.now.steps.items c.loop-offset.work.steps.items c.flow_to.new.work.steps.items c.loop-offset-test.true c.loop-offset.invariant c.in_ok-flow_to.ensures

pub returns : goal.returns
returns c = λ n at.
    let l = c.args.at.now.method.now in
    let names = names_at c.args.at.now in
    let read = c.index-as_slice-node.result in
    let items = c.as_slice-offset-items.result.now in
    let same : read ≡ n = read_node l.nodes c.as_slice.result.now c.args.node n read c.as_slice.ensures c.requires.there c.index-as_slice-node.is at in
    let P : ℕ → Item → Type 0 = λ offset. FlowsTo l names read.op c.args.node offset in
    let all = makes_all P c.args.work.now.tables c.loop-offset.work.tables items c.loop-offset.offset-index c.args.work.now.steps.items c.loop-offset.work.steps.items
    (omega arith) c.loop-offset.invariant in
    let of_read = subst (λ (xs : List ℕ). Makes c.args.work.now.tables c.loop-offset.work.tables (OfOne P xs) c.args.work.now.steps.items c.loop-offset.work.steps.items) c.as_slice-offset-items.ensures all in
    let of_node = subst (λ (m : Node). Makes c.args.work.now.tables c.loop-offset.work.tables (OfOne (λ (offset : ℕ). FlowsTo l names m.op c.args.node offset) m.successors) c.args.work.now.steps.items c.loop-offset.work.steps.items) same of_read in
    makes_same c.args.work.now.tables c.loop-offset.work.tables _ (FlowItem l n) c.args.work.now.steps.items c.loop-offset.work.steps.items
    (flowed c.args.at.now.program.now l names c.requires.known c.args.node n at) of_node
