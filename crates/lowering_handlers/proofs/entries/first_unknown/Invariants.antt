use Rattle.std.proofs.Common.{◌<◌, ℕ}
use Rattle.lowering_handlers.specs.Catches.{IsUnknownEntry}
use Rattle.lowering_handlers.specs.Entries.{IsUsed}
use Rattle.lowering_handlers.proofs.entries.first_unknown.Given as goal

abbrev pub invariant-loop-place : goal.invariant-loop-place
invariant-loop-place l = record { none : (earlier : ℕ) → earlier < l.place → IsUsed l.steps earlier → IsUnknownEntry l.program l.pool l.handlers earlier → ⊥ }
