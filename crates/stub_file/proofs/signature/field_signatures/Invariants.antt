use Rattle.std.proofs.Common.{◌≡◌, map, take}
use Rattle.stub_file.specs.Signatures.{field_texts, signature_texts}
use Rattle.stub_file.proofs.signature.field_signatures.Given as goal

-- those of the fields so far
abbrev pub invariant-loop-field : goal.invariant-loop-field
invariant-loop-field l = map signature_texts l.signatures.items ≡ map field_texts (take l.field-index l.fields)
