use Rattle.std.proofs.Common.{◌≡◌, List, sym, ap, subst, ◌∙◌, arith}
use Rattle.jvm_model.specs.declared.number.ClassNo.{ClassNo}
use Rattle.op_model.specs.declared.node.Node.{Node}
use Rattle.points_to_constraints.specs.NodeItems.{RaiseItem}
use Rattle.points_to_numbers.proofs.Adding.{OfOne}
use Rattle.points_to_numbers.specs.Steps.{Makes}
use Rattle.points_to_methods.specs.Raises.{RaisesOf}
use Rattle.points_to_numbers.proofs.Making.{makes_start, makes_next_read, makes_all, makes_same}
use Rattle.points_to_methods.proofs.NamedSlots.{read_node}
use Rattle.slot_names.proofs.ListPlaces.{stands_below}
use Rattle.points_to_methods.proofs.RaisedObjects.{raises, throws_numbered}
use Rattle.points_to_methods.proofs.exceptions.raise_items.Goals as goal

pub loop-class-init : goal.loop-class-init
loop-class-init c = λ n at.
    let l = c.args.at.now.method.now in
    makes_start (RaisesOf c.args.at.now.program.now l n) c.args.work.now.tables c.as_slice-class-items.result.now c.args.work.now.steps.items

pub raise_class-requires-clause-class : goal.raise_class-requires-clause-class
raise_class-requires-clause-class c =
    let l = c.args.at.now.method.now in
    let (n, at) = stands_below l.nodes c.args.node c.requires.there in
    let read = c.index-as_slice-node.result in
    let same : read ≡ n = read_node l.nodes c.as_slice.result.now c.args.node n read c.as_slice.ensures c.requires.there c.index-as_slice-node.is at in
    let list : c.as_slice-class-items.result.now ≡ n.throws = c.as_slice-class-items.ensures ∙ ap (λ (m : Node). m.throws) (sym c.index-as_slice-node.is ∙ same) in
    throws_numbered c.args.at.now.program.now l c.requires.known.in_program c.args.node n at c.as_slice-class-items.result.now list c.loop-class.class-index _ c.loop-class-test.true

pub loop-class-preserved : goal.loop-class-preserved
loop-class-preserved c = λ n at.
    let l = c.args.at.now.method.now in
    makes_next_read (RaisesOf c.args.at.now.program.now l n) c.args.work.now.tables c.loop-class.work.tables c.raise_class.new.work.tables c.as_slice-class-items.result.now c.loop-class.class-index _
    c.args.work.now.steps.items c.loop-class.work.steps.items c.raise_class.new.work.steps.items c.loop-class-test.true (c.loop-class.invariant n at) (c.in_ok-raise_class.ensures n at)

pub returns : goal.returns
returns c = λ n at.
    let p = c.args.at.now.program.now in
    let l = c.args.at.now.method.now in
    let read = c.index-as_slice-node.result in
    let items = c.as_slice-class-items.result.now in
    let same : read ≡ n = read_node l.nodes c.as_slice.result.now c.args.node n read c.as_slice.ensures c.requires.there c.index-as_slice-node.is at in
    let all = makes_all (RaisesOf p l n) c.args.work.now.tables c.loop-class.work.tables items c.loop-class.class-index c.args.work.now.steps.items c.loop-class.work.steps.items (omega arith) (c.loop-class.invariant n at) in
    let of_node = subst (λ (cs : List ClassNo). Makes c.args.work.now.tables c.loop-class.work.tables (OfOne (RaisesOf p l n) cs) c.args.work.now.steps.items c.loop-class.work.steps.items)
    (c.as_slice-class-items.ensures ∙ ap (λ (m : Node). m.throws) (sym c.index-as_slice-node.is ∙ same)) all in
    makes_same c.args.work.now.tables c.loop-class.work.tables _ (RaiseItem p l.method l n) c.args.work.now.steps.items c.loop-class.work.steps.items (raises p l n) of_node
