use Rattle.std.proofs.Common.{List, length, ap, arith}
use Rattle.std.specs.List.{flat_map}
use Rattle.jvm_model.specs.declared.class_file.Member.{Member}
use Rattle.jvm_model.specs.Spelling.{member}
use Rattle.jvm_model.proofs.Lengths.{spell_length}
use Rattle.jvm_model.proofs.layout.attributes_offset.Goals as goal

pub overflow_add-result : goal.overflow_add-result
overflow_add-result c = omega (arith, spell_length c.args.class.now, ap (λ (ms : List Member). length (flat_map member ms)) c.as_slice.ensures)

pub overflow_add-result-2 : goal.overflow_add-result-2
overflow_add-result-2 c = omega (arith, spell_length c.args.class.now, ap (λ (ms : List Member). length (flat_map member ms)) c.as_slice.ensures)
