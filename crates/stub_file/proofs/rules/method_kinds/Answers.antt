use Rattle.std.proofs.Common.{Some, ap, ◌∙◌}
use Rattle.jvm_model.specs.declared.descriptor.Descriptor.TheVariants.{Field}
use Rattle.jvm_model.specs.DescriptorValues.{IsDescriptorOf}
use Rattle.jvm_model.specs.Descriptors.{IsFieldDescriptor, IsMethodDescriptor}
use Rattle.jvm_model.proofs.MethodKinds.{method_in_grammar}
use Rattle.stub_file.proofs.Finding.{found_is, none_is}
use Rattle.stub_file.proofs.SoundParts.{field_is_no_method}
use Rattle.stub_file.proofs.rules.method_kinds.Goals as goal

pub returns-in-Some-Field : goal.returns-in-Some-Field
returns-in-Some-Field c = λ kinds m.
    let text = c.args.text.now in
    let kind = c.in-Some-Field.field-0-0 in
    field_is_no_method text kind kinds.0 kinds.1
    (found_is (IsDescriptorOf text) c.in_ok-found.found (Field kind) (c.in-Some-Field.is ∙ ap Some c.in-Some-Field.field-0-is) c.in_ok-found.ensures.found) m

pub returns : goal.returns
returns c = λ kinds m.
    let text = c.args.text.now in
    let none = none_is ((IsFieldDescriptor text → ⊥) × (IsMethodDescriptor text → ⊥)) c.in_ok-found.found c.in-None.is c.in_ok-found.ensures.none in
    none.1 (method_in_grammar text kinds.0 kinds.1 m)
