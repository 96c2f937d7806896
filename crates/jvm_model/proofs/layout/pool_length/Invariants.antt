use Rattle.std.proofs.Common.{◌≡◌, length, flat_map, take}
use Rattle.jvm_model.specs.Spelling.{entry}
use Rattle.jvm_model.proofs.layout.pool_length.Given as goal

abbrev pub invariant-loop-entry : goal.invariant-loop-entry
invariant-loop-entry l = l.bytes ≡ length (flat_map entry (take l.entry-index l.pool))
