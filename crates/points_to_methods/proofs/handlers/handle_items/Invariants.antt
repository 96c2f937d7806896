use Rattle.std.proofs.Common.{take}
use Rattle.op_model.specs.declared.node.NodeHandler.{NodeHandler}
use Rattle.points_to_numbers.proofs.Adding.{OfOne}
use Rattle.points_to_numbers.specs.Steps.{Makes}
use Rattle.points_to_methods.specs.Known.{names_at}
use Rattle.points_to_methods.specs.Slots.{HandsTo}
use Rattle.points_to_methods.proofs.handlers.handle_items.Given as goal

abbrev pub invariant-loop-handler : goal.invariant-loop-handler
invariant-loop-handler l =
    Makes l.fn.work.tables l.work.tables (OfOne (λ (h : NodeHandler). HandsTo l.at.method.now (names_at l.at) l.node h.target) (take l.handler-index l.handler-items)) l.fn.work.steps.items l.work.steps.items
