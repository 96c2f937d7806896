-- Public contracts rest on this module.
-- The order of the moves, the successors and the thrown classes of a method's nodes.
use Rattle.std.specs.Prelude.{◌≡◌, ℕ, List}
use Rattle.std.specs.List.{AllZip}
use Rattle.jvm_model.specs.declared.code.Code.{Code}
use Rattle.jvm_model.specs.declared.pool.PoolEntry.{PoolEntry}
use Rattle.jvm_model.specs.Programs.{Method, Program}
use Rattle.flow_graph.specs.declared.steps.Graph.{Graph}
use Rattle.flow_graph.specs.declared.steps.GraphStep.{GraphStep}
use Rattle.op_model.specs.declared.lowered.LoweredMethod.{LoweredMethod}
use Rattle.op_model.specs.declared.node.Node.{Node}
use Rattle.lowering_spec.specs.LoweredMethods.{IsNodeOf}
use Rattle.lowering_operations.specs.Orders.{IsOrderedOp}
use Rattle.lowering_handlers.specs.Exceptions.{IsThrownList}
use Rattle.lowering.specs.Refusals.{IsOwnCode}

-- The node is that of the step, and its moves, its successors and its thrown classes stand in order, each as often as it is listed:
-- the moves as those of the row, the successors as those of the step, and the classes as the row raises them, with the errors of
-- initialisation behind.
pub record IsInOrder (p : Program) (number : ℕ) (m : Method) (pool : List PoolEntry) (code : Code) (step : GraphStep) (n : Node) : Type 0 where
  pub node : IsNodeOf p number m pool code step n
  pub op : IsOrderedOp node.instruction.row node.instruction.instruction.operand node.instruction.base n.op
  pub successors : n.successors ≡ step.successors
  pub throws : IsThrownList p node.instruction.row.raises node.trigger_class n.throws

-- So are all nodes of the method of the number, by its own code.
pub record AreInOrder (p : Program) (number : ℕ) (code : Code) (graph : Graph) (l : LoweredMethod) : Type 0 where
  pub own : IsOwnCode p number code graph
  pub nodes : AllZip (IsInOrder p number own.method own.file.pool code) graph.steps l.nodes
