use Rattle.std.proofs.Common.{map, drop}
use Rattle.std.specs.List.{flat_map}
use Rattle.jvm_model.specs.Linking.{supers_of_file}
use Rattle.program_linking.specs.Claims.{super_claim}
use Rattle.program_linking.proofs.ClaimSteps.{Left}
use Rattle.program_linking.proofs.supers.check_supers_of_files.Given as goal

abbrev pub invariant-loop-f : goal.invariant-loop-f
invariant-loop-f l =
    Left l.known (map (super_claim l.rule) (flat_map supers_of_file l.files)) (map (super_claim l.rule) (flat_map supers_of_file (drop l.f-index l.files)))
