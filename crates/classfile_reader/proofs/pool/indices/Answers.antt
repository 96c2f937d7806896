use Rattle.std.proofs.Common.{None}
use Rattle.std.proofs.lemmas.Result.{err_from_is_err_and}
use Rattle.classfile_reader.specs.PoolReading.{indices_at}
use Rattle.classfile_reader.proofs.Loop.{indices_go_on, indices_end, indices_are_done, lacks_an_index}
use Rattle.classfile_reader.proofs.pool.indices.Goals as goal

pub returns-in_err-entry : goal.returns-in_err-entry
returns-in_err-entry c =
    let p = err_from_is_err_and c.from_residual.result c.from_residual.ensures.1 in
    rw (p.1, p.2) (indices_end c.in_err-entry.field-0.0 c.loop.entries.items c.args.count c.loop.counter c.loop.wide c.loop.input (indices_at c.args.count None c.args.input.now) c.loop-test.true c.in_err-entry.ensures c.loop.invariant)

pub loop-preserved : goal.loop-preserved
loop-preserved c =
    rw c.in_ok-push.ensures.items (indices_go_on c.loop.entries.items c.args.count c.loop.counter c.loop.wide c.loop.input c.in_ok-entry.entry c.in_ok-entry.next c.index.new.input (indices_at c.args.count None c.args.input.now) c.loop-test.true c.in_ok-entry.ensures c.loop.invariant)

pub returns-in-None : goal.returns-in-None
returns-in-None c = rw c.from_vec.ensures (indices_are_done c.loop.entries.items c.args.count c.loop.counter c.loop.wide c.loop.input (indices_at c.args.count None c.args.input.now) c.loop-test.false c.in-None.is c.loop.invariant)

pub returns-in-Some : goal.returns-in-Some
returns-in-Some c = rw c.fault_at.ensures (lacks_an_index c.loop.entries.items c.args.count c.loop.counter c.in-Some.tag c.loop.wide c.loop.input (indices_at c.args.count None c.args.input.now) c.loop-test.false c.in-Some.is c.loop.invariant)
