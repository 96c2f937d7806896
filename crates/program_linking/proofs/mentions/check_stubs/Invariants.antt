use Rattle.std.proofs.Common.{drop}
use Rattle.std.specs.List.{flat_map}
use Rattle.jvm_model.specs.Linking.{stub_there_claims, own_classes}
use Rattle.program_linking.proofs.ClaimSteps.{Left}
use Rattle.program_linking.proofs.mentions.check_stubs.Given as goal

abbrev pub invariant-loop-c : goal.invariant-loop-c
invariant-loop-c l =
    Left l.known (flat_map (stub_there_claims l.patches) (own_classes l.stubs)) (flat_map (stub_there_claims l.patches) (own_classes (drop l.c-index l.stubs)))
