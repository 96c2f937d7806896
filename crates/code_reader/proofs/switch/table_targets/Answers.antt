use Rattle.std.proofs.Common.{◌∷◌}
use Rattle.jvm_model.specs.Instructions.{table_targets}
use Rattle.code_reader.proofs.SwitchTables.{one_more, long_enough, entry_there}
use Rattle.code_reader.proofs.switch.table_targets.Goals as goal

pub word-requires : goal.word-requires
word-requires c = entry_there c.args.table.entry c.args.table.count c.loop.counter c.loop.rest.now c.requires.entry c.loop-test.true c.loop.invariant.1

pub loop-preserved : goal.loop-preserved
loop-preserved c = (
  rw (c.in_ok-push-2.ensures.items, c.after-rest.ensures, c.far_target.ensures, c.word.ensures) (one_more c.loop.targets.items c.args.offset c.args.table.entry c.args.table.count c.loop.counter c.loop.rest.now
      (c.args.default ∷ table_targets c.args.offset c.args.table.entry c.args.table.count c.args.entries.now) c.loop-test.true c.loop.invariant.0),
  rw c.after-rest.ensures (long_enough c.args.table.entry c.args.table.count c.loop.counter c.loop.rest.now c.requires.entry c.loop-test.true c.loop.invariant.1),
)
