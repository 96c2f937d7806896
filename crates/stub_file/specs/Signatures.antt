-- Only the proofs of this crate rest on this module.
-- Names and descriptors of members, and the order in which a set keeps them.
use Rattle.std.specs.Prelude.{ℕ, Bool, ◌&&◌, List}
use Rattle.std.specs.declared.cmp.Ordering.{Ordering}
use Rattle.std.specs.Cmp.Lexicographic.{slice_cmp}
use Rattle.std.specs.Ordering.{nat_cmp, ordering_then}
use Rattle.std.specs.Str.{bytes_eq}
use Rattle.jvm_model.specs.declared.stub.StubMethod.{StubMethod}
use Rattle.jvm_model.specs.declared.stub.StubField.{StubField}
use Rattle.stub_file.specs.declared.signature.Signature.{Signature}

-- A name and a descriptor.
abbrev pub Texts : Type 0
Texts = List ℕ × List ℕ

abbrev pub is_same_texts : Texts → Texts → Bool
is_same_texts s t = bytes_eq s.0 t.0 && bytes_eq s.1 t.1

abbrev pub method_texts : StubMethod → Texts
method_texts m = (m.name, m.descriptor)

abbrev pub field_texts : StubField → Texts
field_texts f = (f.name, f.descriptor)

abbrev pub signature_texts : Signature → Texts
signature_texts s = (s.name.now, s.descriptor.now)

abbrev pub signature_cmp : Signature → Signature → Ordering
signature_cmp s t = ordering_then (slice_cmp nat_cmp s.name.now t.name.now) (slice_cmp nat_cmp s.descriptor.now t.descriptor.now)
