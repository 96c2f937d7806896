use Rattle.std.proofs.Common.{◌≡◌, map, take}
use Rattle.stub_file.specs.Signatures.{method_texts, signature_texts}
use Rattle.stub_file.proofs.signature.method_signatures.Given as goal

-- those of the methods so far
abbrev pub invariant-loop-method : goal.invariant-loop-method
invariant-loop-method l = map signature_texts l.signatures.items ≡ map method_texts (take l.method-index l.methods)
