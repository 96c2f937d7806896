use Rattle.std.proofs.Common.{rules, ◌≡◌, refl, sym, ap, ◌∙◌}
use Rattle.hierarchy.proofs.ClassPlaces.{place_there}
use Rattle.jvm_model.specs.Lookups.{Signature}
use Rattle.points_to_rules.specs.Rules.{constant, holding}
use Rattle.points_to_methods.proofs.BegunFields.{begins_nothing, class_shown}
use Rattle.points_to_methods.proofs.statics.first_class.Goals as goal

pub returns-in-Some-clause-found : goal.returns-in-Some-clause-found
returns-in-Some-clause-found c =
    let (f, stands) = place_there c.args.program.now.fields c.args.field.0 c.requires in
    holding f stands (sym (c.in-Some.ensures f stands))

pub is_folder-requires : goal.is_folder-requires
is_folder-requires c =
    let (f, stands) = place_there c.args.program.now.fields c.args.field.0 c.requires in
    (c.field-member.ensures f stands).below

pub returns-then-is_folder-clause-found : goal.returns-then-is_folder-clause-found
returns-then-is_folder-clause-found c =
    let p = c.args.program.now in
    let (f, stands) = place_there p.fields c.args.field.0 c.requires in
    let (class, at, named) = class_shown p c.well_formed-2.ensures.program f c.field-member.result (c.field-member.ensures f stands) in
    let view = c.field-member.ensures f stands in
    let text : c.field-member.result.signature.descriptor.now ≡ c.as_slice.result.now = search rules in
    constant f class stands (sym (c.in_default.ensures f stands)) (ap (λ (s : Signature). s.descriptor) view.signature ∙ text ∙ c.as_slice.ensures) named
    (sym (c.is_folder.ensures class at) ∙ c.if-is_folder.true) refl

pub returns-else-is_folder-clause-one : goal.returns-else-is_folder-clause-one
returns-else-is_folder-clause-one c = λ name begins.
    let p = c.args.program.now in
    let (f, stands) = place_there p.fields c.args.field.0 c.requires in
    let (class, at, named) = class_shown p c.well_formed-2.ensures.program f c.field-member.result (c.field-member.ensures f stands) in
    absurd (begins_nothing p c.args.field f stands (sym (c.in_default.ensures f stands)) class named (sym (c.is_folder.ensures class at) ∙ c.if-is_folder.false) name begins)
