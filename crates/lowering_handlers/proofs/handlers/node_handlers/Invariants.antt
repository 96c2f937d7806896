use Rattle.std.proofs.Common.{take}
use Rattle.std.specs.List.{AllZip}
use Rattle.lowering_spec.specs.LoweredMethods.{IsHandlerAt}
use Rattle.lowering_handlers.proofs.handlers.node_handlers.Given as goal

abbrev pub invariant-loop-place : goal.invariant-loop-place
invariant-loop-place l = record { so_far : AllZip (IsHandlerAt l.program l.pool l.handlers) (take l.place-index l.places) l.covering.items }
