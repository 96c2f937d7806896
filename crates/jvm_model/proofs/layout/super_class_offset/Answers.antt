use Rattle.std.proofs.Common.{arith}
use Rattle.jvm_model.proofs.Lengths.{spell_length}
use Rattle.jvm_model.proofs.layout.super_class_offset.Goals as goal

pub overflow_add-result : goal.overflow_add-result
overflow_add-result c = omega (arith, spell_length c.args.class.now)
