use Rattle.jvm_model.specs.Lookups.{lent_signature}
use Rattle.program_model.proofs.DeclaredMembers.{field_declared, declared_field}
use Rattle.program_model.proofs.program.Program.declared_field.Goals as goal

pub returns-in-Some-clause-found : goal.returns-in-Some-clause-found
returns-in-Some-clause-found c =
    field_declared c.self.inside.origins.items c.deref.result.now c.args.self.now c.deref.ensures.value c.self.view_is c.args.class.0 (lent_signature c.args.signature) c.in-Some.number c.in-Some.ensures.found

pub returns-in-None-clause-none : goal.returns-in-None-clause-none
returns-in-None-clause-none c = λ n d.
    c.in-None.ensures.none n
    (declared_field c.self.inside.origins.items c.deref.result.now c.args.self.now c.deref.ensures.value c.self.view_is c.args.class.0 (lent_signature c.args.signature) n d)
