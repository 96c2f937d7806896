use Rattle.std.proofs.Common.{take}
use Rattle.lowering_handlers.specs.Entries.{AreUsedMarks}
use Rattle.lowering_handlers.proofs.entries.used_entries.Given as goal

abbrev pub invariant-loop-step : goal.invariant-loop-step
invariant-loop-step l = record { marks : AreUsedMarks l.count (take l.step-index l.steps) l.used.items }
