use Rattle.std.proofs.Common.{None}
use Rattle.op_model.specs.declared.node.NodeHandler.{NodeHandler}
use Rattle.slot_names.proofs.NotedArrivals.{Rises-both, all_handled, handled_more, stands_read}
use Rattle.slot_names.proofs.arrivals.note_handlers.Goals as goal

-- an element past the end
abbrev past : NodeHandler
past = record { target = 0; catch = None }

pub loop-handler-preserved : goal.loop-handler-preserved
loop-handler-preserved c =
    let old = c.loop-handler.arrivals in
    let new = c.note_handler.new.arrivals in
    record {
      sound = c.note_handler.ensures.sound;
      rises = Rises-both c.args.arrivals.now old new c.loop-handler.invariant.rises c.note_handler.ensures.rises;
      handled = handled_more c.args.method.now old new c.loop-handler.handler-index c.as_slice-handler-items.result.now past c.loop-handler-test.true c.note_handler.ensures.rises
          c.loop-handler.invariant.handled c.note_handler.ensures.handled;
    }

pub returns-clause-handled : goal.returns-clause-handled
returns-clause-handled c =
    let n = c.index-as_slice-from.result in
    let stands = stands_read c.args.method.now c.as_slice.result.now c.args.from n c.as_slice.ensures c.requires.there c.index-as_slice-from.is in
    all_handled c.args.method.now c.loop-handler.arrivals c.args.from c.loop-handler.handler-index c.as_slice-handler-items.result.now n stands c.as_slice-handler-items.ensures
    c.loop-handler-test.false c.loop-handler.invariant.handled
