use Rattle.program_model.specs.Declarations.{field_declaration, field_declarations}
use Rattle.program_model.proofs.DeclaredMembers.{all_fields, fields_are, member_below, member_shown}
use Rattle.program_model.proofs.program.Program.field.Goals as goal

pub view-requires-clause-there : goal.view-requires-clause-there
view-requires-clause-there c =
    member_below all_fields field_declaration field_declarations fields_are c.self.inside.origins.items c.deref.result.now c.args.self.now c.deref.ensures.value c.self.view_is c.args.number.0 c.requires

pub returns : goal.returns
returns c m e =
    member_shown all_fields field_declaration field_declarations fields_are c.self.inside.origins.items c.deref.result.now c.args.self.now c.deref.ensures.value c.self.view_is
    c.args.number.0 m c.view.result c.view.ensures e
