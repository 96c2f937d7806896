use Rattle.std.proofs.Common.{◌≡◌, ◌≤◌, drop, sym, ◌∙◌, subst, arith}
use Rattle.std.proofs.lemmas.List.{take_rest}
use Rattle.jvm_model.specs.declared.descriptor.Kind.TheVariants.{Array}
use Rattle.jvm_model.specs.DescriptorValues.{IsKind}
use Rattle.jvm_model.proofs.Fields.{is_component_byte, found_some}
use Rattle.jvm_model.proofs.FieldKinds.{array_kind, dimensions_some}
use Rattle.jvm_model.proofs.descriptor.array_of.Goals as goal

pub unwrap-dimensions-requires : goal.unwrap-dimensions-requires
unwrap-dimensions-requires c = dimensions_some c.args.text.now c.dimensions_of.result c.requires.field c.dimensions_of.ensures

pub overflow_cast-result : goal.overflow_cast-result
overflow_cast-result c =
    let text = c.args.text.now in
    let d = c.unwrap-dimensions.result in
    let at = found_some is_component_byte text d c.dimensions_of.result c.dimensions_of.ensures c.unwrap-dimensions.ensures in
    let is = array_kind text d c.requires.field c.requires.array at.at in
    let most : d ≤ 255 = is.1 in
    omega arith

pub returns : goal.returns
returns c =
    let text = c.args.text.now in
    let d = c.unwrap-dimensions.result in
    let at = found_some is_component_byte text d c.dimensions_of.result c.dimensions_of.ensures c.unwrap-dimensions.ensures in
    let element : c.in_ok-element.element ≡ drop d text = c.in_ok-element.ensures ∙ take_rest text d in
    subst (λ e. IsKind text (Array d e)) (sym element) (array_kind text d c.requires.field c.requires.array at.at)
