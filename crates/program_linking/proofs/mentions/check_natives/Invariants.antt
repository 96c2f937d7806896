use Rattle.std.proofs.Common.{drop}
use Rattle.std.specs.List.{flat_map}
use Rattle.jvm_model.specs.Linking.{native_claims}
use Rattle.program_linking.proofs.ClaimSteps.{Left}
use Rattle.program_linking.proofs.mentions.check_natives.Given as goal

abbrev pub invariant-loop-f : goal.invariant-loop-f
invariant-loop-f l =
    Left l.known (flat_map (native_claims l.patches) l.files) (flat_map (native_claims l.patches) (drop l.f-index l.files))
