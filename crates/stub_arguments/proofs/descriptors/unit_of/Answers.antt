use Rattle.std.proofs.Common.{◌≡◌, ◌≤◌, ℕ, List, Some, sum_by, sym, ap, ◌∙◌, subst}
use Rattle.jvm_model.specs.declared.descriptor.Kind.{Kind}
use Rattle.jvm_model.specs.DescriptorValues.{IsMethodOf, kind_units}
use Rattle.stub_arguments.specs.Units.{IsReadOf, IsArgumentUnit, unit_by_kinds}
use Rattle.stub_arguments.proofs.ArgumentUnits.{few_units, unit_by_descriptor, one_unit, no_unit_of_field}
use Rattle.stub_arguments.proofs.descriptors.unit_of.Goals as goal

pub unit_by_kinds-requires : goal.unit_by_kinds-requires
unit_by_kinds-requires c =
    let text = c.args.stub.now.descriptor in
    let is : IsMethodOf text c.in-Method.kinds c.in-Method.outcome = subst (IsReadOf text) (c.in-Some.is ∙ ap Some c.in-Method.is) c.requires in
    subst (λ (kinds : List Kind). sum_by kind_units kinds ≤ 255) (sym c.as_slice.ensures) (few_units text c.in-Method.kinds c.in-Method.outcome is)

pub returns-in-Method : goal.returns-in-Method
returns-in-Method c =
    let stub = c.args.stub.now in let kinds = c.in-Method.kinds in
    let is : IsMethodOf stub.descriptor kinds c.in-Method.outcome = subst (IsReadOf stub.descriptor) (c.in-Some.is ∙ ap Some c.in-Method.is) c.requires in
    let e : c.unit_by_kinds.result ≡ unit_by_kinds stub.is_static kinds c.args.argument =
    c.unit_by_kinds.ensures ∙ ap (λ (ks : List Kind). unit_by_kinds stub.is_static ks c.args.argument) c.as_slice.ensures in
    subst (λ (u : ℕ). IsArgumentUnit stub c.args.argument (Some u)) (sym e)
    (unit_by_descriptor stub c.args.argument kinds c.in-Method.outcome is, λ u of. one_unit stub c.args.argument kinds c.in-Method.outcome u is of)

pub returns-in-Field : goal.returns-in-Field
returns-in-Field c = λ u of.
    no_unit_of_field c.args.stub.now c.args.argument c.in-Field.field-0 u (subst (IsReadOf c.args.stub.now.descriptor) (c.in-Some.is ∙ ap Some c.in-Field.is) c.requires) of
