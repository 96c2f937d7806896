use Rattle.std.proofs.Common.{Bool, subst}
use Rattle.jvm_model.specs.Lookups.{lent_reference}
use Rattle.jvm_model.specs.Resolution.{FieldResolution}
use Rattle.program_model.specs.Numbers.{field_number}
use Rattle.lowering_reasons.specs.Judgements.{judged}
use Rattle.lowering_reasons.specs.Reasons.{Accesses}
use Rattle.lowering_reasons.proofs.Only.{none_such}
use Rattle.lowering_reasons.proofs.Resolutions.{field_nowhere, field_looked, field_unnamed}
use Rattle.lowering_reasons.proofs.Supertypes.{class_by}
use Rattle.lowering_reasons.proofs.members.field_outcome.Goals as goal

pub returns-in_default-find_class-clause-outcome : goal.returns-in_default-find_class-clause-outcome
returns-in_default-find_class-clause-outcome c = field_nowhere (judged c.args.instruction) (lent_reference c.in-Some.field) c.in-Some.ensures c.in_default-find_class.ensures.none

pub returns-clause-outcome : goal.returns-clause-outcome
returns-clause-outcome c =
    let j = judged c.args.instruction in
    let program = c.well_formed-2.ensures.program in
    let field = lent_reference c.in-Some.field in
    let number = c.in-Some-find_class.class.0 in
    let found = c.in-Some-find_class.ensures.found in
    let class = class_by j.program program field.class number found.0 found.1 in
    let is = c.resolve_field.ensures.resolution class.0 class.1 in
    field_looked j field class.0 (field_number c.resolve_field.result) program c.in-Some.ensures class.2
    (subst (λ (b : Bool). FieldResolution j.program class.0 field.signature b (field_number c.resolve_field.result)) c.wants_static-is_static.ensures is)

pub returns-in_default-clause-none : goal.returns-in_default-clause-none
returns-in_default-clause-none c = λ m class accesses named. none_such (Accesses (judged c.args.instruction)) c.in_default.ensures m accesses

pub returns-in_default-find_class-clause-none : goal.returns-in_default-find_class-clause-none
returns-in_default-find_class-clause-none c = field_unnamed (judged c.args.instruction) (lent_reference c.in-Some.field) c.in-Some.ensures c.in_default-find_class.ensures.none
