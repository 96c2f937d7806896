use Rattle.std.proofs.lemmas.Result.{err_from_is_err_and}
use Rattle.byte_reader.specs.Reading.{items_at}
use Rattle.byte_reader.proofs.Loop.{goes_on, ends, is_done}
use Rattle.code_reader.specs.CodeReading.{handler_at}
use Rattle.code_reader.proofs.handler.listed.Goals as goal

pub returns-in_err-handler : goal.returns-in_err-handler
returns-in_err-handler c =
    let read = handler_at c.args.pool.now c.args.long c.args.division.now.spots.items in
    let p = err_from_is_err_and c.from_residual.result c.from_residual.ensures.1 in
    rw (p.1, p.2) (ends read c.in_err-handler.field-0.0 c.loop.handlers.items c.args.count c.loop.counter c.loop.input (items_at read c.args.count c.args.input.now) c.loop-test.true c.in_err-handler.ensures c.loop.invariant)

pub loop-preserved : goal.loop-preserved
loop-preserved c =
    let read = handler_at c.args.pool.now c.args.long c.args.division.now.spots.items in
    rw c.in_ok-push.ensures.items (goes_on read c.loop.handlers.items c.args.count c.loop.counter c.loop.input c.in_ok-handler.handler c.next_handler.new.input (items_at read c.args.count c.args.input.now) c.loop-test.true c.in_ok-handler.ensures c.loop.invariant)

pub returns : goal.returns
returns c =
    let read = handler_at c.args.pool.now c.args.long c.args.division.now.spots.items in
    rw c.from_vec.ensures (is_done read c.loop.handlers.items c.args.count c.loop.counter c.loop.input (items_at read c.args.count c.args.input.now) c.loop-test.false c.loop.invariant)
