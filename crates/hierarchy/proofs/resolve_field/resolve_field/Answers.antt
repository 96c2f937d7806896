use Rattle.std.proofs.Common.{◌∙◌, ℕ, List, Some, refl, sym, subst}
use Rattle.jvm_model.specs.Lookups.{lent_signature}
use Rattle.jvm_model.specs.Resolution.{FindsField, found, other_kind}
use Rattle.hierarchy.proofs.ClassPlaces.{name_at-at, place_there}
use Rattle.hierarchy.proofs.Resolving.{same_kind, other_kind_of}
use Rattle.hierarchy.proofs.resolve_field.resolve_field.Goals as goal

pub is_static_field-requires : goal.is_static_field-requires
is_static_field-requires c = c.in-Some.ensures.within

pub returns-then-is_static_field-is_static-clause-resolution : goal.returns-then-is_static_field-is_static-clause-resolution
returns-then-is_static_field-is_static-clause-resolution c = λ class stands.
    let p = c.args.program.now in
    let s = lent_signature c.args.signature in
    let name = name_at-at p c.args.class.0 class stands in
    let field = place_there p.fields c.in-Some.field.0 c.in-Some.ensures.within in
    found c.in-Some.field.0 field.0 (subst (λ (x : List ℕ). FindsField p s x (Some c.in-Some.field.0)) name c.in-Some.ensures.finds) field.1
    (sym (c.is_static_field.ensures field.0 field.1) ∙ same_kind c.is_static_field.result c.args.is_static c.if-is_static_field-is_static.true) refl

pub returns-else-is_static_field-is_static-clause-resolution : goal.returns-else-is_static_field-is_static-clause-resolution
returns-else-is_static_field-is_static-clause-resolution c = λ class stands.
    let p = c.args.program.now in
    let s = lent_signature c.args.signature in
    let name = name_at-at p c.args.class.0 class stands in
    let field = place_there p.fields c.in-Some.field.0 c.in-Some.ensures.within in
    other_kind c.in-Some.field.0 field.0 (subst (λ (x : List ℕ). FindsField p s x (Some c.in-Some.field.0)) name c.in-Some.ensures.finds) field.1
    (λ e. other_kind_of c.is_static_field.result c.args.is_static c.if-is_static_field-is_static.false (c.is_static_field.ensures field.0 field.1 ∙ e)) refl

pub returns-then-is_static_field-is_static-clause-below : goal.returns-then-is_static_field-is_static-clause-below
returns-then-is_static_field-is_static-clause-below c = c.in-Some.ensures.within
