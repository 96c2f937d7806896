use Rattle.std.proofs.Common.{◌≡◌, length, flat_map, take}
use Rattle.jvm_model.specs.Spelling.{attribute}
use Rattle.jvm_model.proofs.layout.attributes_length.Given as goal

abbrev pub invariant-loop-attribute : goal.invariant-loop-attribute
invariant-loop-attribute l = l.bytes ≡ length (flat_map attribute (take l.attribute-index l.attributes))
