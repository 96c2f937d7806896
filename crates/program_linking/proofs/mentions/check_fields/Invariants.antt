use Rattle.std.proofs.Common.{map, drop}
use Rattle.std.specs.List.{flat_map}
use Rattle.jvm_model.specs.Linking.{mention_claim}
use Rattle.jvm_model.specs.Stubs.{field_names}
use Rattle.program_linking.proofs.ClaimSteps.{Left}
use Rattle.program_linking.proofs.mentions.check_fields.Given as goal

abbrev pub invariant-loop-field : goal.invariant-loop-field
invariant-loop-field l =
    Left l.known (map (mention_claim l.c.file) (flat_map field_names l.field-items)) (map (mention_claim l.c.file) (flat_map field_names (drop l.field-index l.field-items)))
