use Rattle.std.proofs.Common.{take}
use Rattle.lowering_handlers.specs.Entries.{MarksEach}
use Rattle.lowering_handlers.proofs.entries.mark_each.Given as goal

abbrev pub invariant-loop-place : goal.invariant-loop-place
invariant-loop-place l = record { marks : MarksEach l.fn.used (take l.place-index l.places) l.used }
