use Rattle.std.proofs.Common.{sym, ◌∙◌}
use Rattle.slot_names.proofs.ListPlaces.{stands_below}
use Rattle.points_to_methods.proofs.NodeSums.{node_numbers, operation_is, operation_read, simple_left, simple_made}
use Rattle.points_to_methods.proofs.nodes.operation_items.Goals as goal

pub load_static-requires-clause-field : goal.load_static-requires-clause-field
load_static-requires-clause-field c =
    let l = c.args.at.now.method.now in
    let (n, at) = stands_below l.nodes c.args.node c.requires.there in
    let read = operation_read l.nodes c.as_slice.result.now c.args.node n c.index-as_slice-node.result c.as_slice.ensures c.requires.there c.index-as_slice-node.is at in
    (node_numbers c.args.at.now.program.now l c.requires.known.in_program c.args.node n at).statics _ _ (sym read ∙ c.in-LoadStatic.is)

pub op_items-requires-clause-simple : goal.op_items-requires-clause-simple
op_items-requires-clause-simple c = simple_left _ c.in_default.not-Call c.in_default.not-LoadStatic

pub returns-in-Call : goal.returns-in-Call
returns-in-Call c = λ n at.
    let l = c.args.at.now.method.now in
    let read = operation_read l.nodes c.as_slice.result.now c.args.node n c.index-as_slice-node.result c.as_slice.ensures c.requires.there c.index-as_slice-node.is at in
    let is = sym read ∙ c.in-Call.is in
    operation_is c.call_items.result c.args.at.now.program.now l n c.args.work.now.tables c.call_items.new.work.tables c.args.work.now.steps.items c.call_items.new.work.steps.items _ is
    (c.call_items.ensures n at is)

pub returns-in-LoadStatic : goal.returns-in-LoadStatic
returns-in-LoadStatic c = λ n at.
    let l = c.args.at.now.method.now in
    let read = operation_read l.nodes c.as_slice.result.now c.args.node n c.index-as_slice-node.result c.as_slice.ensures c.requires.there c.index-as_slice-node.is at in
    simple_made c.load_static.result c.args.at.now.program.now l n c.args.work.now.tables c.load_static.new.work.tables c.args.work.now.steps.items c.load_static.new.work.steps.items _
    (sym c.in-LoadStatic.is ∙ read) (c.load_static.ensures n at)

pub returns-in_default : goal.returns-in_default
returns-in_default c = λ n at.
    let l = c.args.at.now.method.now in
    let read = operation_read l.nodes c.as_slice.result.now c.args.node n c.index-as_slice-node.result c.as_slice.ensures c.requires.there c.index-as_slice-node.is at in
    simple_made c.op_items.result c.args.at.now.program.now l n c.args.work.now.tables c.op_items.new.work.tables c.args.work.now.steps.items c.op_items.new.work.steps.items _
    read (c.op_items.ensures n at)
