use Rattle.std.proofs.Common.{map, drop}
use Rattle.std.specs.List.{flat_map}
use Rattle.jvm_model.specs.Linking.{supers_of_stub, own_classes}
use Rattle.program_linking.specs.Claims.{super_claim}
use Rattle.program_linking.proofs.ClaimSteps.{Left}
use Rattle.program_linking.proofs.supers.check_supers_of_stubs.Given as goal

abbrev pub invariant-loop-c : goal.invariant-loop-c
invariant-loop-c l =
    Left l.known (map (super_claim l.rule) (flat_map supers_of_stub (own_classes l.stubs))) (map (super_claim l.rule) (flat_map supers_of_stub (own_classes (drop l.c-index l.stubs))))
