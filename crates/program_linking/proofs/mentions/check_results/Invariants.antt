use Rattle.std.proofs.Common.{map, drop}
use Rattle.std.specs.List.{flat_map}
use Rattle.jvm_model.specs.Linking.{mention_claim}
use Rattle.jvm_model.specs.Stubs.{result_names}
use Rattle.program_linking.proofs.ClaimSteps.{Left}
use Rattle.program_linking.proofs.mentions.check_results.Given as goal

abbrev pub invariant-loop-returned : goal.invariant-loop-returned
invariant-loop-returned l =
    Left l.known (map (mention_claim l.file) (flat_map (result_names l.method.descriptor) l.returned-items)) (map (mention_claim l.file) (flat_map (result_names l.method.descriptor) (drop l.returned-index l.returned-items)))
