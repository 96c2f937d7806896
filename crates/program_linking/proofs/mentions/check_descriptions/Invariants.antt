use Rattle.std.proofs.Common.{map, drop}
use Rattle.jvm_model.specs.Linking.{description_claims}
use Rattle.program_linking.specs.Patching.{description_of}
use Rattle.program_linking.proofs.ClaimSteps.{Left}
use Rattle.program_linking.proofs.mentions.check_descriptions.Given as goal

abbrev pub invariant-loop-described : goal.invariant-loop-described
invariant-loop-described l =
    Left l.known (description_claims (map description_of l.all)) (description_claims (map description_of (drop l.described-index l.all)))
