use Rattle.std.proofs.Common.{◌≡◌, map, filter, drop}
use Rattle.jvm_model.specs.declared.stub.StubMethod.{StubMethod}
use Rattle.jvm_model.specs.Linking.{with_descriptions}
use Rattle.program_linking.specs.Patching.{is_native_in}
use Rattle.program_linking.proofs.patches.add_natives.Given as goal

abbrev pub invariant-loop-method : goal.invariant-loop-method
invariant-loop-method l =
    with_descriptions l.all (filter (is_native_in l.natives) (map (λ (m : StubMethod). record { method = m; file = l.patch.file }) (drop l.method-index l.method-items)))
    ≡ with_descriptions l.initial.all (filter (is_native_in l.natives) (map (λ (m : StubMethod). record { method = m; file = l.patch.file }) l.method-items))
