use Rattle.std.proofs.Common.{arith}
use Rattle.jvm_model.proofs.Lengths.{spell_length}
use Rattle.jvm_model.proofs.layout.fields_offset.Goals as goal

pub overflow_cast-result : goal.overflow_cast-result
overflow_cast-result c = omega (arith, spell_length c.args.class.now)

pub overflow_mul-result : goal.overflow_mul-result
overflow_mul-result c = omega (arith, spell_length c.args.class.now)

pub overflow_add-result : goal.overflow_add-result
overflow_add-result c = omega (arith, spell_length c.args.class.now)

pub overflow_add-result-2 : goal.overflow_add-result-2
overflow_add-result-2 c = omega (arith, spell_length c.args.class.now)
