use Rattle.std.proofs.Common.{Some, ap, ◌∙◌}
use Rattle.jvm_model.specs.declared.descriptor.Descriptor.TheVariants.{Method}
use Rattle.jvm_model.specs.DescriptorValues.{IsDescriptorOf}
use Rattle.jvm_model.specs.Descriptors.{IsFieldDescriptor, IsMethodDescriptor}
use Rattle.jvm_model.proofs.FieldKinds.{field_of_kind}
use Rattle.stub_file.proofs.Finding.{found_is, none_is}
use Rattle.stub_file.proofs.SoundParts.{field_is_no_method}
use Rattle.stub_file.proofs.rules.field_kind.Goals as goal

pub returns-in-Some-Method : goal.returns-in-Some-Method
returns-in-Some-Method c = λ kind k.
    let text = c.args.text.now in
    let kinds = c.in-Some-Method.field-0-0 in
    let outcome = c.in-Some-Method.field-0-1 in
    field_is_no_method text kind kinds outcome k
    (found_is (IsDescriptorOf text) c.in_ok-found.found (Method kinds outcome) (c.in-Some-Method.is ∙ ap Some c.in-Some-Method.field-0-is) c.in_ok-found.ensures.found)

pub returns : goal.returns
returns c = λ kind k.
    let text = c.args.text.now in
    let none = none_is ((IsFieldDescriptor text → ⊥) × (IsMethodDescriptor text → ⊥)) c.in_ok-found.found c.in-None.is c.in_ok-found.ensures.none in
    none.0 (field_of_kind text kind k)
