use Rattle.std.proofs.Common.{◌≡◌, ◌++◌, map, drop}
use Rattle.jvm_model.specs.declared.stub.StubMethod.{StubMethod}
use Rattle.program_linking.proofs.descriptions.Descriptions.of.Given as goal

abbrev pub invariant-loop-method : goal.invariant-loop-method
invariant-loop-method l =
    l.all ++ map (λ (m : StubMethod). record { method = m; file = l.stub.file }) (drop l.method-index l.method-items)
    ≡ map (λ (m : StubMethod). record { method = m; file = l.stub.file }) l.method-items
