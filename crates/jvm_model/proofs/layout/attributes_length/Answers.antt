use Rattle.std.proofs.Common.{arith}
use Rattle.jvm_model.specs.Spelling.{attribute}
use Rattle.jvm_model.proofs.Lengths.{one_fits}
use Rattle.jvm_model.proofs.layout.attributes_length.Goals as goal

pub attribute_length-bytes-requires : goal.attribute_length-bytes-requires
attribute_length-bytes-requires c = omega (arith, one_fits attribute c.args.attributes.now c.loop-attribute.attribute-index c.attribute-item.result c.loop-attribute-test.true c.attribute-item.is)

pub overflow_add-bytes : goal.overflow_add-bytes
overflow_add-bytes c = omega (arith, one_fits attribute c.args.attributes.now c.loop-attribute.attribute-index c.attribute-item.result c.loop-attribute-test.true c.attribute-item.is)
