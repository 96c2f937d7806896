use Rattle.std.proofs.Common.{All, take}
use Rattle.op_model.specs.declared.node.NodeHandler.{NodeHandler}
use Rattle.machine_nodes.specs.NodeSteps.{Takes}
use Rattle.handler_search.proofs.taking.first_taking.Given as goal

abbrev pub invariant-loop-handler : goal.invariant-loop-handler
invariant-loop-handler l = record { none : All (λ (h : NodeHandler). Takes l.program h l.class → ⊥) (take l.handler-index l.handlers) }
