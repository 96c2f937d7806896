use Rattle.std.proofs.Common.{◌≡◌, ◌++◌, drop}
use Rattle.program_linking.specs.Patching.{native_keys}
use Rattle.program_linking.proofs.natives.native_index.Given as goal

abbrev pub invariant-loop-method : goal.invariant-loop-method
invariant-loop-method l = l.index ++ native_keys l.pool (drop l.method-index l.methods) ≡ native_keys l.pool l.methods
