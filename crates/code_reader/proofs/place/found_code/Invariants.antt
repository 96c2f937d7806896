use Rattle.std.proofs.Common.{◌≡◌, false, length, flat_map, take}
use Rattle.std.specs.List.{list_any}
use Rattle.jvm_model.specs.Soundness.{is_code}
use Rattle.jvm_model.specs.Spelling.{attribute}
use Rattle.code_reader.proofs.place.found_code.Given as goal

abbrev pub invariant-loop-attribute : goal.invariant-loop-attribute
invariant-loop-attribute l = record {
  counted : l.before ≡ length (flat_map attribute (take l.attribute-index l.attributes));
  none : list_any (is_code l.pool) (take l.attribute-index l.attributes) ≡ false;
}
