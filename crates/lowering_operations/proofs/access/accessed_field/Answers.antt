use Rattle.lowering_operations.proofs.Named.{accesses}
use Rattle.lowering_operations.proofs.access.accessed_field.Goals as goal

pub returns-clause-field : goal.returns-clause-field
returns-clause-field c =
    accesses c.args.at c.in-Field.field c.field.result c.is_reference_type.result c.field_units.result c.in-Field.is c.requires.member c.field.ensures c.is_reference_type.ensures c.field_units.ensures.exact
