-- With the order of moves, of successors and of thrown classes, a method has one list of nodes.
use Rattle.std.proofs.Common.{◌≡◌, ℕ, List, [], ◌∷◌, Option, refl, sym, ap, ◌∙◌, subst}
use Rattle.std.specs.List.{AllZip}
use Rattle.jvm_model.specs.declared.class_file.ClassFile.{ClassFile}
use Rattle.jvm_model.specs.declared.code.Code.{Code}
use Rattle.jvm_model.specs.declared.number.ClassNo.{ClassNo}
use Rattle.jvm_model.specs.declared.pool.PoolEntry.{PoolEntry}
use Rattle.jvm_model.specs.LinkedPrograms.{IsProgram}
use Rattle.jvm_model.specs.Programs.{Method, Program}
use Rattle.jvm_model.specs.Table.{Raise, Row}
use Rattle.flow_graph.specs.declared.steps.Graph.{Graph}
use Rattle.flow_graph.specs.declared.steps.GraphStep.{GraphStep}
use Rattle.flow_graph.specs.Reading.{AreInOrder as StandInOrder}
use Rattle.op_model.specs.declared.lowered.LoweredMethod.{LoweredMethod}
use Rattle.op_model.specs.declared.node.Node.{Node}
use Rattle.op_model.specs.declared.op.Move.{Move}
use Rattle.op_model.specs.declared.op.Op.{Op}
use Rattle.op_model.specs.declared.op.Op.TheVariants.{Assign}
use Rattle.lowering_spec.specs.LoweredMethods.{HasTrigger}
use Rattle.lowering_spec.specs.Operations.{Placed}
use Rattle.lowering_operations.specs.MoveLists.{moves_of}
use Rattle.lowering_operations.specs.Orders.{IsOrderedOp}
use Rattle.lowering_handlers.specs.Exceptions.{IsThrownList, raised_alone, with_errors}
use Rattle.lowering.specs.Orders.{AreInOrder, IsInOrder}
use Rattle.lowering.specs.Refusals.{IsAccepted}
use Rattle.lowering_laws.specs.Alike.{AlikeOps, equal, by_moves}
use Rattle.lowering_laws.proofs.AlikeNodes.{accepted_once, one_instruction, one_node, one_trigger, program_of}
use Rattle.lowering_laws.proofs.OneRefusal.{own_order, same_own}

-- ---- moves, and what is thrown

one_ordered_op : (row : Row) (operand base : ℕ) (a b : Op) → AlikeOps a b → IsOrderedOp row operand base a → IsOrderedOp row operand base b → a ≡ b
one_ordered_op row operand base a b (equal same) x y = same
one_ordered_op row operand base a b (by_moves xs ys is is2 same) x y =
    let first : xs ≡ moves_of row operand base = subst (IsOrderedOp row operand base) is x in
    let second : ys ≡ moves_of row operand base = subst (IsOrderedOp row operand base) is2 y in
    is ∙ ap (λ (ms : List Move). Assign ms) (first ∙ sym second) ∙ sym is2

one_thrown : (p : Program) (raises : List Raise) (trigger : Option (List ℕ)) (as_ bs : List ClassNo) → IsThrownList p raises trigger as_ → IsThrownList p raises trigger bs → as_ ≡ bs
one_thrown p raises trigger as_ bs (raised_alone none is) (raised_alone none2 is2) = is ∙ sym is2
one_thrown p raises trigger as_ bs (raised_alone none is) (with_errors class some has is2) = absurd (none class some has)
one_thrown p raises trigger as_ bs (with_errors class some has is) (raised_alone none is2) = absurd (none class some has)
one_thrown p raises trigger as_ bs (with_errors class some has is) (with_errors class2 some2 has2 is2) = is ∙ sym is2

-- ---- nodes

module _ (p : Program) (program : IsProgram p) (number : ℕ) (m : Method) (pool : List PoolEntry) (code : Code) (ordered : StandInOrder code.instructions) where
  one_in_order : (step : GraphStep) (a b : Node) → IsInOrder p number m pool code step a → IsInOrder p number m pool code step b → a ≡ b
  one_in_order step a b x y =
      let alike = one_node p program number m pool code ordered step a b x.node y.node in
      let i = y.node.instruction in
      let same : x.node.instruction ≡ i = one_instruction p program number m pool code ordered step x.node.instruction i x.node.placed y.node.placed in
      let sound = program_of p program number m pool code ordered step i y.node.placed in
      let trigger = one_trigger i a.trigger b.trigger x.node.trigger_class y.node.trigger_class sound
      (subst (λ (j : Placed). HasTrigger j a.trigger x.node.trigger_class) same x.node.trigger) y.node.trigger in
      let op_order = subst (λ (j : Placed). IsOrderedOp j.row j.instruction.operand j.base a.op) same x.op in
      let op : a.op ≡ b.op = one_ordered_op i.row i.instruction.operand i.base a.op b.op alike.op op_order y.op in
      let thrown = subst (λ (c : Option (List ℕ)). IsThrownList p i.row.raises c a.throws) trigger.1
      (subst (λ (j : Placed). IsThrownList p j.row.raises x.node.trigger_class a.throws) same x.throws) in
      let throws : a.throws ≡ b.throws = one_thrown p i.row.raises y.node.trigger_class a.throws b.throws thrown y.throws in
      let successors : a.successors ≡ b.successors = x.successors ∙ sym y.successors in
      λ k. record {
        offset = alike.offset k;
        op = op k;
        successors = successors k;
        handlers = alike.handlers k;
        trigger = alike.trigger k;
        throws = throws k;
      }

  all_in_order : (steps : List GraphStep) (as_ bs : List Node) → AllZip (IsInOrder p number m pool code) steps as_ → AllZip (IsInOrder p number m pool code) steps bs → as_ ≡ bs
  all_in_order [] [] [] x y = refl
  all_in_order [] [] (b ∷ bs) x y = absurd y
  all_in_order [] (a ∷ as_) bs x y = absurd x
  all_in_order (s ∷ steps) [] bs x y = absurd x
  all_in_order (s ∷ steps) (a ∷ as_) [] x y = absurd y
  all_in_order (s ∷ steps) (a ∷ as_) (b ∷ bs) x y = cc (one_in_order s a b x.0 y.0, all_in_order steps as_ bs x.1 y.1)

-- ---- methods

pub ordered_once : (p : Program) (number : ℕ) (code : Code) (graph : Graph) (a b : LoweredMethod) → IsProgram p → IsAccepted p number code graph a → IsAccepted p number code graph b
    → AreInOrder p number code graph a → AreInOrder p number code graph b → a ≡ b
ordered_once p number code graph a b program accepted accepted2 x y =
    let alike = accepted_once p number code graph a b program accepted accepted2 in
    let same = same_own p number code graph x.own y.own in
    let of_file = subst (λ (f : ClassFile). AllZip (IsInOrder p number x.own.method f.pool code) graph.steps a.nodes) same.file x.nodes in
    let of_method = subst (λ (m : Method). AllZip (IsInOrder p number m y.own.file.pool code) graph.steps a.nodes) same.method of_file in
    let nodes : a.nodes ≡ b.nodes =
    all_in_order p program number y.own.method y.own.file.pool code (own_order p number code graph y.own) graph.steps a.nodes b.nodes of_method y.nodes in
    λ k. record {
      method = alike.method k;
      slots = alike.slots k;
      stack = alike.stack k;
      params = alike.params k;
      nodes = nodes k;
    }
