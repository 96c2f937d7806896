use Rattle.std.proofs.lemmas.Result.{err_from_is_err_and}
use Rattle.byte_reader.specs.Reading.{items_at}
use Rattle.byte_reader.proofs.Loop.{goes_on, ends, is_done}
use Rattle.byte_reader.proofs.structure.items.Goals as goal

pub returns-in_err-item : goal.returns-in_err-item
returns-in_err-item g c =
    let p = err_from_is_err_and c.from_residual.result c.from_residual.ensures.1 in
    rw (p.1, p.2) (ends g.X.Structure.reading c.in_err-item.field-0.0 c.loop.items.items c.args.count c.loop.counter c.loop.input (items_at g.X.Structure.reading c.args.count c.args.input.now) c.loop-test.true c.in_err-item.ensures c.loop.invariant)

pub loop-preserved : goal.loop-preserved
loop-preserved g c =
    rw c.in_ok-push.ensures.items (goes_on g.X.Structure.reading c.loop.items.items c.args.count c.loop.counter c.loop.input c.in_ok-item.item c.read.new.input (items_at g.X.Structure.reading c.args.count c.args.input.now) c.loop-test.true c.in_ok-item.ensures c.loop.invariant)

pub returns : goal.returns
returns g c = rw c.from_vec.ensures (is_done g.X.Structure.reading c.loop.items.items c.args.count c.loop.counter c.loop.input (items_at g.X.Structure.reading c.args.count c.args.input.now) c.loop-test.false c.loop.invariant)
