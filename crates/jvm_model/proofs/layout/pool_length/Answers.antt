use Rattle.std.proofs.Common.{arith}
use Rattle.jvm_model.specs.Spelling.{entry}
use Rattle.jvm_model.proofs.Lengths.{one_fits}
use Rattle.jvm_model.proofs.layout.pool_length.Goals as goal

pub entry_length-bytes-requires : goal.entry_length-bytes-requires
entry_length-bytes-requires c = omega (arith, one_fits entry c.args.pool.now c.loop-entry.entry-index c.entry-item.result c.loop-entry-test.true c.entry-item.is)

pub overflow_add-bytes : goal.overflow_add-bytes
overflow_add-bytes c = omega (arith, one_fits entry c.args.pool.now c.loop-entry.entry-index c.entry-item.result c.loop-entry-test.true c.entry-item.is)
