use Rattle.std.proofs.Common.{set}
use Rattle.slot_names.specs.declared.arrivals.Arrival.TheVariants.{Several}
use Rattle.slot_names.proofs.NotedArrivals.{HandlesOne, handle_none, handle_one}
use Rattle.slot_names.proofs.arrivals.note_handler.Goals as goal

-- what is written says it
handled : (c : goal.In-Some) → HandlesOne c.args.method.now c.args.arrivals.now (set c.args.arrivals.now c.in-Some.place Several) c.args.offset
handled c =
    handle_one c.args.method.now c.args.arrivals.now c.requires.hands.0 c.args.offset c.in-Some.place c.requires.order c.requires.hands.1 c.requires.sound c.in-Some.ensures.place

pub returns-in_default-clause-handled : goal.returns-in_default-clause-handled
returns-in_default-clause-handled c =
    (handle_none c.args.method.now c.args.arrivals.now c.args.offset c.requires.sound c.in_default.ensures.place).handled

pub returns-in_default-clause-rises : goal.returns-in_default-clause-rises
returns-in_default-clause-rises c =
    (handle_none c.args.method.now c.args.arrivals.now c.args.offset c.requires.sound c.in_default.ensures.place).rises

pub returns-clause-sound : goal.returns-clause-sound
returns-clause-sound c = (handled c).sound

pub returns-clause-rises : goal.returns-clause-rises
returns-clause-rises c = (handled c).rises

pub returns-clause-handled : goal.returns-clause-handled
returns-clause-handled c = (handled c).handled
