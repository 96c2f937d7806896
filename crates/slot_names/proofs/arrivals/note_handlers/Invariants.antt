use Rattle.std.proofs.Common.{take}
use Rattle.std.specs.List.{All}
use Rattle.op_model.specs.declared.node.NodeHandler.{NodeHandler}
use Rattle.slot_names.specs.Arriving.{AreSound, IsHandled, Rises}
use Rattle.slot_names.proofs.arrivals.note_handlers.Given as goal

-- the handlers so far are noted
abbrev pub invariant-loop-handler : goal.invariant-loop-handler
invariant-loop-handler l = record {
  sound : AreSound l.method l.arrivals;
  rises : Rises l.initial.arrivals l.arrivals;
  handled : All (λ (h : NodeHandler). IsHandled l.method l.arrivals h.target) (take l.handler-index l.handler-items);
}
