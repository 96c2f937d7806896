use Rattle.std.proofs.Common.{sym, ◌∙◌, arith}
use Rattle.jvm_model.specs.Spelling.{attribute}
use Rattle.jvm_model.proofs.Lengths.{one_fits}
use Rattle.jvm_model.proofs.CodePlaces.{first_code}
use Rattle.jvm_model.proofs.layout.length_before_code.Goals as goal

pub returns-then-is_code : goal.returns-then-is_code
returns-then-is_code c =
    first_code c.args.pool.now c.args.attributes.now c.loop-attribute.attribute-index c.loop-attribute.bytes c.attribute-item.result c.loop-attribute-test.true c.attribute-item.is c.loop-attribute.invariant.counted c.loop-attribute.invariant.none (sym c.is_code.ensures ∙ c.if-is_code.true)

pub attribute_length-bytes-requires : goal.attribute_length-bytes-requires
attribute_length-bytes-requires c = omega (arith, one_fits attribute c.args.attributes.now c.loop-attribute.attribute-index c.attribute-item.result c.loop-attribute-test.true c.attribute-item.is)

pub overflow_add-bytes : goal.overflow_add-bytes
overflow_add-bytes c = omega (arith, one_fits attribute c.args.attributes.now c.loop-attribute.attribute-index c.attribute-item.result c.loop-attribute-test.true c.attribute-item.is)
