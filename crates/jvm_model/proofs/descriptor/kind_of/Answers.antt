use Rattle.std.proofs.Common.{sym, ◌∙◌, subst}
use Rattle.jvm_model.specs.declared.descriptor.Kind.TheVariants.{Class}
use Rattle.jvm_model.specs.DescriptorValues.{IsKind}
use Rattle.jvm_model.proofs.FieldKinds.{class_kind}
use Rattle.jvm_model.proofs.descriptor.kind_of.Goals as goal

pub returns-in_ok-copy_of-in-len2-up : goal.returns-in_ok-copy_of-in-len2-up
returns-in_ok-copy_of-in-len2-up c =
    let text = c.args.text.now in
    subst (λ name. IsKind text (Class name)) (sym c.in_ok-copy_of-in-len2-up.ensures) (class_kind text c.requires (sym c.is_array.ensures ∙ c.if-is_array.false) c.in-len2-up.len_at_least)
