use Rattle.std.proofs.Common.{◌≡◌, [], ◌∷◌, List, map, sym, ◌∙◌, ap, subst}
use Rattle.machine_nodes.specs.Slots.{argument_slots}
use Rattle.op_model.specs.declared.lowered.LoweredMethod.{LoweredMethod}
use Rattle.op_model.specs.declared.node.Node.{Node}
use Rattle.op_model.specs.declared.op.Move.{Move}
use Rattle.op_model.specs.declared.op.Op.{Op}
use Rattle.access_paths.specs.declared.root.Root.TheVariants.{Slot, Static}
use Rattle.stage_facts.specs.Facts.{SiteFact}
use Rattle.stage_facts.specs.Plain.{fact_of}
use Rattle.stage_transfer.specs.Changes.{copying, writing}
use Rattle.stage_transfer.specs.Operations.{after_operation, assigning, on_tuples, receiving, returning, storing_static}
use Rattle.stage_transfer.specs.Settings.{Setting}
use Rattle.stage_transfer.specs.Stages.{finished}
use Rattle.stage_flow.specs.declared.store.FieldStore.{FieldStore}
use Rattle.stage_flow.specs.Shapes.{root_copy, Makes}
use Rattle.stage_flow.specs.Stores.{after_field_store}
use Rattle.stage_flow.proofs.operations.after_operation.Goals as goal

-- what stands for the operation is what is found of it
found_op : (w : Setting) (l : LoweredMethod) (n : Node) (fact : SiteFact) (op known : Op) → op ≡ known
    → map (finished w) (after_operation w l n known fact) ≡ map (finished w) (after_operation w l n op fact)
found_op w l n fact op known is = ap (λ (o : Op). map (finished w) (after_operation w l n o fact)) (sym is)

pub returns-in-Assign : goal.returns-in-Assign
returns-in-Assign g c w l n is knows =
    c.changed_fact.ensures w l n (assigning w l n c.in-Assign.moves) is knows
    (subst (λ (moves : List Move). Makes w l n c.assigning.result (assigning w l n moves)) c.as_slice.ensures (c.assigning.ensures w l n))
    ∙ found_op w l n (fact_of c.args.fact.now) c.args.op.now _ c.in-Assign.is

pub returns-in-Store : goal.returns-in-Store
returns-in-Store g c w l n is knows =
    c.fact.ensures w l n is (c.of.ensures.setting w is) knows
    ∙ ap (λ (store : FieldStore). map (finished w) (on_tuples (after_field_store w l n store) (fact_of c.args.fact.now))) c.of.ensures.store
    ∙ found_op w l n (fact_of c.args.fact.now) c.args.op.now _ c.in-Store.is

pub returns-in-LoadElement : goal.returns-in-LoadElement
returns-in-LoadElement g c w l n is knows =
    c.changed_fact-in-LoadElement.ensures w l n (writing w l n (c.in-LoadElement.array ∷ c.in-LoadElement.target ∷ [])) is knows (c.writing_two.ensures w l n)
    ∙ found_op w l n (fact_of c.args.fact.now) c.args.op.now _ c.in-LoadElement.is

pub returns-in-LoadStatic : goal.returns-in-LoadStatic
returns-in-LoadStatic g c w l n is knows =
    c.changed_fact-in-LoadStatic.ensures w l n
    (copying w l n (c.in-LoadStatic.target ∷ []) (root_copy (Static c.in-LoadStatic.field) (Slot c.in-LoadStatic.target))) is knows
    (c.loading_static.ensures w l n)
    ∙ found_op w l n (fact_of c.args.fact.now) c.args.op.now _ c.in-LoadStatic.is

pub returns-in-StoreStatic : goal.returns-in-StoreStatic
returns-in-StoreStatic g c w l n is knows =
    c.changed_fact-in-StoreStatic.ensures w l n (storing_static w l n c.in-StoreStatic.field c.in-StoreStatic.value) is knows
    (c.storing_static.ensures w l n)
    ∙ found_op w l n (fact_of c.args.fact.now) c.args.op.now _ c.in-StoreStatic.is

pub returns-in-New : goal.returns-in-New
returns-in-New g c w l n is knows =
    c.allocated_fact.ensures w l n is knows ∙ found_op w l n (fact_of c.args.fact.now) c.args.op.now _ c.in-New.is

pub returns-in-NewArray : goal.returns-in-NewArray
returns-in-NewArray g c w l n is knows =
    c.changed_fact-in-NewArray.ensures w l n (writing w l n (c.in-NewArray.target ∷ [])) is knows (c.writing_one.ensures w l n)
    ∙ found_op w l n (fact_of c.args.fact.now) c.args.op.now _ c.in-NewArray.is

pub returns-in-Constant : goal.returns-in-Constant
returns-in-Constant g c w l n is knows =
    c.changed_fact-in-Constant.ensures w l n (writing w l n (c.in-Constant.target ∷ [])) is knows (c.writing_one-in-Constant.ensures w l n)
    ∙ found_op w l n (fact_of c.args.fact.now) c.args.op.now _ c.in-Constant.is

pub returns-in-Call : goal.returns-in-Call
returns-in-Call g c w l n is knows =
    let call = c.in-Call.call in
    c.changed_fact-in-Call.ensures w l n (receiving w l n (argument_slots call.arguments) call.result) is knows (c.receiving.ensures w l n)
    ∙ found_op w l n (fact_of c.args.fact.now) c.args.op.now _ c.in-Call.is

pub returns-in-Return : goal.returns-in-Return
returns-in-Return g c w l n is knows =
    c.changed_fact-in-Return.ensures w l n (returning c.in-Return.value) is knows (c.returning.ensures w l n)
    ∙ found_op w l n (fact_of c.args.fact.now) c.args.op.now _ c.in-Return.is

pub returns-in-Probe : goal.returns-in-Probe
returns-in-Probe g c w l n is knows =
    c.changed_fact-in-Probe.ensures w l n (writing w l n (c.in-Probe.slot ∷ [])) is knows (c.writing_one-in-Probe.ensures w l n)
    ∙ found_op w l n (fact_of c.args.fact.now) c.args.op.now _ c.in-Probe.is
