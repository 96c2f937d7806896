use Rattle.std.proofs.Common.{◌≡◌, map, drop}
use Rattle.jvm_model.specs.declared.stub.StubMethod.{StubMethod}
use Rattle.jvm_model.specs.Linking.{with_descriptions}
use Rattle.program_linking.proofs.descriptions.Descriptions.add_all.Given as goal

abbrev pub invariant-loop-method : goal.invariant-loop-method
invariant-loop-method l =
    with_descriptions l.self (map (λ (m : StubMethod). record { method = m; file = l.stub.file }) (drop l.method-index l.method-items))
    ≡ with_descriptions l.initial.self (map (λ (m : StubMethod). record { method = m; file = l.stub.file }) l.method-items)
