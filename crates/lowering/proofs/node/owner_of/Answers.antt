use Rattle.std.proofs.Common.{Some, refl, sym, subst}
use Rattle.lowering_reasons.specs.declared.judgement.NamedMember.{NamedMember}
use Rattle.lowering.specs.Bodies.{IsMemberNumber, NamesOwner}
use Rattle.lowering.proofs.MemberOwners.{field_class, field_owner, method_class, method_owner}
use Rattle.lowering.proofs.node.owner_of.Goals as goal

pub returns-in-Field-clause-below : goal.returns-in-Field-clause-below
returns-in-Field-clause-below c =
    field_class c.args.program.now c.in-Field.field.0 c.field.result (subst (λ (m : NamedMember). IsMemberNumber c.args.program.now m) c.in-Field.is c.requires) c.field.ensures

pub returns-in-Field-clause-owner : goal.returns-in-Field-clause-owner
returns-in-Field-clause-owner c =
    subst (λ (m : NamedMember). NamesOwner c.args.program.now m (Some c.field.result.class)) (sym c.in-Field.is)
    (c.field.result.class, refl, field_owner c.args.program.now c.in-Field.field.0 c.field.result c.field.ensures)

pub returns-in-Method-clause-below : goal.returns-in-Method-clause-below
returns-in-Method-clause-below c =
    method_class c.args.program.now c.in-Method.resolved.0 c.method.result (subst (λ (m : NamedMember). IsMemberNumber c.args.program.now m) c.in-Method.is c.requires) c.method.ensures

pub returns-in-Method-clause-owner : goal.returns-in-Method-clause-owner
returns-in-Method-clause-owner c =
    subst (λ (m : NamedMember). NamesOwner c.args.program.now m (Some c.method.result.class)) (sym c.in-Method.is)
    (c.method.result.class, refl, method_owner c.args.program.now c.in-Method.resolved.0 c.method.result c.method.ensures)
