use Rattle.std.proofs.Common.{length, arith}
use Rattle.slot_names.proofs.NotedArrivals.{AreNoted-less, AreNoted-more, AreNoted-none}
use Rattle.slot_names.proofs.arrivals.note_all.Goals as goal

pub loop-from-init : goal.loop-from-init
loop-from-init c = record { sound = c.requires.sound; noted = AreNoted-none c.args.method.now c.args.arrivals.now }

pub loop-from-preserved : goal.loop-from-preserved
loop-from-preserved c = record {
  sound = c.note_handlers.ensures.sound;
  noted = AreNoted-more c.args.method.now c.loop-from.arrivals c.note_successors.new.arrivals c.note_handlers.new.arrivals c.loop-from.from c.loop-from.invariant.noted
      c.note_successors.ensures.rises c.note_handlers.ensures.rises c.note_successors.ensures.noted c.note_handlers.ensures.handled;
}

pub returns : goal.returns
returns c = record {
  sound = c.loop-from.invariant.sound;
  noted = AreNoted-less c.args.method.now c.loop-from.arrivals c.loop-from.from (length c.args.method.now.nodes) c.loop-from.invariant.noted
      (omega (arith, c.loop-from-test.false, c.len-from-end.ensures));
}
