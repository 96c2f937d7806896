use Rattle.std.proofs.Common.{map, drop}
use Rattle.jvm_model.specs.Linking.{mention_claim}
use Rattle.program_linking.proofs.ClaimSteps.{Left}
use Rattle.program_linking.proofs.mentions.check_throws.Given as goal

abbrev pub invariant-loop-name : goal.invariant-loop-name
invariant-loop-name l =
    Left l.known (map (mention_claim l.file) l.name-items) (map (mention_claim l.file) (drop l.name-index l.name-items))
