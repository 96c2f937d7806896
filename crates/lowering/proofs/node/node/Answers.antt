use Rattle.std.proofs.Common.{◌≡◌, ℕ, List, sym, ◌∙◌, subst}
use Rattle.std.specs.List.{AllZip, Contains}
use Rattle.jvm_model.specs.declared.code.Handler.{Handler}
use Rattle.jvm_model.specs.declared.number.ClassNo.{ClassNo}
use Rattle.jvm_model.specs.declared.pool.PoolEntry.{PoolEntry}
use Rattle.jvm_model.specs.RowViews.{row_view}
use Rattle.lowering_spec.specs.LoweredMethods.{IsHandlerAt}
use Rattle.machine_nodes.specs.Nodes.{AreThrownAt}
use Rattle.lowering_handlers.specs.Catches.{IsUnknownEntry}
use Rattle.lowering_handlers.specs.Exceptions.{IsThrownList}
use Rattle.lowering.proofs.NodesMade.{ordered_node, same_handlers}
use Rattle.lowering.proofs.node.node.Goals as goal

pub node_handlers-requires-clause-known : goal.node_handlers-requires-clause-known
node_handlers-requires-clause-known c = λ place there unknown. c.requires.known place (subst (λ (places : List ℕ). Contains places place) c.as_slice-3.ensures there)
    (subst (λ (handlers : List Handler). IsUnknownEntry c.args.body.program.now c.args.body.class.now.pool handlers place) c.as_slice-2.ensures
    (subst (λ (pool : List PoolEntry). IsUnknownEntry c.args.body.program.now pool c.as_slice-2.result.now place) c.as_slice.ensures unknown))

pub returns : goal.returns
returns c =
    let b = c.args.body in
    let step = c.args.step.now in
    let successors : c.from_vec.result ≡ step.successors = c.from_vec.ensures ∙ c.in_ok-successors.ensures.items ∙ c.as_slice-4.ensures in
    let handlers : AllZip (IsHandlerAt b.program.now b.class.now.pool b.code.now.handlers) step.handlers c.from_vec-2.result =
    same_handlers b.program.now b.class.now.pool c.as_slice.result.now b.code.now.handlers c.as_slice-2.result.now step.handlers c.as_slice-3.result.now c.in_ok-handlers.handlers.items c.from_vec-2.result c.as_slice.ensures
    c.as_slice-2.ensures c.as_slice-3.ensures c.from_vec-2.ensures c.in_ok-handlers.ensures in
    ordered_node b c.requires.body step c.args.judged c.requires.judged c.in_ok-op.op c.in_ok-op.ensures.operation c.from_vec.result c.from_vec-2.result c.trigger_of-trigger.result c.from_vec-3.result successors handlers
    c.trigger_of-trigger.ensures.trigger
    (λ name of. subst (λ (throws : List ClassNo). AreThrownAt b.program.now (row_view c.args.judged.row.now).raises name throws) (sym c.from_vec-3.ensures) (c.in_ok-throws.ensures.thrown name of)) c.in_ok-op.ensures.order
    (λ name of. subst (λ (throws : List ClassNo). IsThrownList b.program.now (row_view c.args.judged.row.now).raises name throws) (sym c.from_vec-3.ensures) (c.in_ok-throws.ensures.order name of))
