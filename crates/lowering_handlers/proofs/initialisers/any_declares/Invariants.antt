use Rattle.std.proofs.Common.{take}
use Rattle.lowering_handlers.proofs.UpwardInitialisers.{SomeDeclares}
use Rattle.lowering_handlers.proofs.initialisers.any_declares.Given as goal

abbrev pub invariant-loop-number : goal.invariant-loop-number
invariant-loop-number l = record { none : SomeDeclares l.program (take l.number-index l.classes) → ⊥ }
