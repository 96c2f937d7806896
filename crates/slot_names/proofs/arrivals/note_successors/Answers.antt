use Rattle.slot_names.specs.Arriving.{IsNoted}
use Rattle.slot_names.proofs.NotedArrivals.{Rises-both, each_successor, noted_more, stands_read}
use Rattle.slot_names.proofs.arrivals.note_successors.Goals as goal

pub loop-offset-preserved : goal.loop-offset-preserved
loop-offset-preserved c =
    let old = c.loop-offset.arrivals in
    let new = c.note_successor.new.arrivals in
    record {
      sound = c.note_successor.ensures.sound;
      rises = Rises-both c.args.arrivals.now old new c.loop-offset.invariant.rises c.note_successor.ensures.rises;
      noted = noted_more c.args.method.now old new c.args.from c.loop-offset.offset-index c.as_slice-offset-items.result.now c.loop-offset-test.true c.note_successor.ensures.rises
          c.loop-offset.invariant.noted c.note_successor.ensures.noted;
    }

pub returns-clause-noted : goal.returns-clause-noted
returns-clause-noted c =
    let n = c.index-as_slice-from.result in
    let stands = stands_read c.args.method.now c.as_slice.result.now c.args.from n c.as_slice.ensures c.requires.there c.index-as_slice-from.is in
    each_successor c.args.method.now (IsNoted c.args.method.now c.loop-offset.arrivals c.args.from) c.args.from c.loop-offset.offset-index c.as_slice-offset-items.result.now n stands c.as_slice-offset-items.ensures
    c.loop-offset-test.false c.loop-offset.invariant.noted
