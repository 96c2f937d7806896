use Rattle.std.proofs.Common.{◌≡◌, ◌++◌, map, drop}
use Rattle.program_linking.specs.Patching.{description_of}
use Rattle.jvm_model.specs.Linking.{described_methods}
use Rattle.program_linking.proofs.copies.copied_methods.Given as goal

abbrev pub invariant-loop-described : goal.invariant-loop-described
invariant-loop-described l = l.copies.items ++ described_methods (map description_of (drop l.described-index l.all)) ≡ described_methods (map description_of l.all)
