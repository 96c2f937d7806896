use Rattle.std.proofs.Common.{◌≡◌, map, filter, drop}
use Rattle.std.specs.List.{flat_map}
use Rattle.jvm_model.specs.Linking.{with_descriptions, descriptions}
use Rattle.program_linking.specs.Patching.{is_native_in}
use Rattle.program_linking.proofs.patches.add_patches.Given as goal

abbrev pub invariant-loop-patch : goal.invariant-loop-patch
invariant-loop-patch l =
    with_descriptions l.all (filter (is_native_in l.natives) (flat_map descriptions (map (λ s. s.now) (drop l.patch-index l.found))))
    ≡ with_descriptions l.initial.all (filter (is_native_in l.natives) (flat_map descriptions (map (λ s. s.now) l.found)))
