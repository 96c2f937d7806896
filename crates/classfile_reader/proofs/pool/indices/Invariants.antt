use Rattle.std.proofs.Common.{◌≡◌, ◌-◌, None}
use Rattle.classfile_reader.specs.PoolReading.{indices_at}
use Rattle.byte_reader.proofs.Loop.{with_front}
use Rattle.classfile_reader.proofs.pool.indices.Given as goal

abbrev pub invariant-loop : goal.invariant-loop
invariant-loop l = with_front l.entries.items (indices_at (l.count - l.counter) l.wide l.input) ≡ indices_at l.count None l.fn.input
