use Rattle.std.proofs.Common.{arith}
use Rattle.slot_names.proofs.ListPlaces.{stands_below}
use Rattle.points_to_methods.proofs.NodesTaken.{taken_all, taken_next, taken_start}
use Rattle.points_to_methods.proofs.NumberedCalls.{all_calls}
use Rattle.points_to_methods.proofs.methods.method_items.Goals as goal

pub names_of-requires : goal.names_of-requires
names_of-requires c = c.requires.reached

pub loop-node-init : goal.loop-node-init
loop-node-init c = taken_start c.args.program.now c.args.method.now c.args.work.now.tables c.args.work.now.steps.items

pub loop-node-preserved : goal.loop-node-preserved
loop-node-preserved c =
    let l = c.args.method.now in
    let (n, at) = stands_below l.nodes c.loop-node.node (omega arith) in
    taken_next c.args.program.now l (record { ascend = c.requires.reached.ascend }) c.loop-node.node n at
    c.args.work.now.tables c.loop-node.work.tables c.node_items.new.work.tables c.args.work.now.steps.items c.loop-node.work.steps.items c.node_items.new.work.steps.items
    c.loop-node.invariant (c.in_ok-node_items.ensures n at)

pub returns-clause-grows : goal.returns-clause-grows
returns-clause-grows c = c.loop-node.invariant.grows

pub returns-clause-calls : goal.returns-clause-calls
returns-clause-calls c =
    all_calls c.args.method.now c.loop-node.node c.args.work.now.tables.calls c.loop-node.work.tables.calls c.loop-node.invariant.grows.calls c.loop-node.invariant.calls

pub returns-clause-adds : goal.returns-clause-adds
returns-clause-adds c =
    taken_all c.args.program.now c.args.method.now c.loop-node.node c.args.work.now.tables c.loop-node.work.tables c.args.work.now.steps.items c.loop-node.work.steps.items (omega arith) c.loop-node.invariant

pub returns-clause-names : goal.returns-clause-names
returns-clause-names c = c.in_ok-names.ensures
