use Rattle.std.proofs.Common.{sym, ◌∙◌, take, drop, ◌+◌, arith}
use Rattle.jvm_model.specs.Spelling.{attribute}
use Rattle.jvm_model.proofs.CodePlaces.{cut_around}
use Rattle.jvm_model.proofs.Lengths.{one_fits}
use Rattle.code_reader.proofs.place.found_code.Goals as goal

pub returns-then-is_code : goal.returns-then-is_code
returns-then-is_code c =
    let attributes = c.args.attributes.now in
    let i = c.loop-attribute.attribute-index in
    record {
      before = take i attributes;
      after = drop (i + 1) attributes;
      first = record {
        parts = cut_around attributes i c.attribute-item.result c.loop-attribute-test.true c.attribute-item.is;
        none_before = c.loop-attribute.invariant.none;
        named_code = sym c.is_code.ensures ∙ c.if-is_code.true;
      };
      counted = c.loop-attribute.invariant.counted;
    }

pub attribute_length-before-requires : goal.attribute_length-before-requires
attribute_length-before-requires c = omega (arith, one_fits attribute c.args.attributes.now c.loop-attribute.attribute-index c.attribute-item.result c.loop-attribute-test.true c.attribute-item.is)

pub overflow_add-before : goal.overflow_add-before
overflow_add-before c = omega (arith, one_fits attribute c.args.attributes.now c.loop-attribute.attribute-index c.attribute-item.result c.loop-attribute-test.true c.attribute-item.is)
