use Rattle.std.proofs.Common.{take}
use Rattle.std.specs.List.{AllZip}
use Rattle.lowering_handlers.specs.Catches.{IsCatchOf}
use Rattle.lowering_handlers.proofs.catches.catches_of.Given as goal

abbrev pub invariant-loop-handler : goal.invariant-loop-handler
invariant-loop-handler l = record { so_far : AllZip (IsCatchOf l.program l.class.pool) (take l.handler-index l.code.handlers) l.catches.items }
