use Rattle.jvm_model.proofs.Fields.{whole_field}
use Rattle.jvm_model.proofs.grammar.is_field_descriptor.Goals as goal

pub returns : goal.returns
returns c = whole_field c.args.text.now c.field_descriptor_length.result c.eq.result c.field_descriptor_length.ensures c.eq.ensures
