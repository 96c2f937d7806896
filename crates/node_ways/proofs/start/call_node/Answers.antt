use Rattle.std.proofs.Common.{List, [], Some, ap, refl, sym, ◌∙◌, subst}
use Rattle.jvm_model.specs.declared.number.ClassNo.{ClassNo}
use Rattle.machine_nodes.specs.Nodes.{AreThrownAt}
use Rattle.op_model.specs.declared.node.Node.{Node}
use Rattle.op_model.specs.declared.op.Op.TheVariants.{Call}
use Rattle.hierarchy.proofs.ClassPlaces.{method_there}
use Rattle.node_ways.proofs.Starting.{start_call}
use Rattle.node_ways.proofs.start.call_node.Goals as goal

pub thrown_classes-requires : goal.thrown_classes-requires
thrown_classes-requires c = let (m, stands) = method_there c.args.program.now c.args.entry.0 c.requires in (c.method-view.ensures m stands).below

pub returns : goal.returns
returns c =
    let p = c.args.program.now in
    let view = c.method-view.result in
    let n : Node = record {
      offset = 0;
      op = Call c.in_ok-call.call;
      successors = c.from_vec.result;
      handlers = c.from_vec-2.result;
      trigger = Some view.class;
      throws = c.from_vec-3.result;
    } in
    start_call p c.args.entry c.requires view c.method-view.ensures n refl (ap Call c.in_ok-call.ensures) (c.from_vec.ensures ∙ c.in_ok-successors.ensures.items) (c.from_vec-2.ensures ∙ c.new.ensures.items) refl
    (λ name is. subst (λ (throws : List ClassNo). AreThrownAt p [] name throws) (sym c.from_vec-3.ensures) (c.in_ok-throws.ensures.thrown name is))
