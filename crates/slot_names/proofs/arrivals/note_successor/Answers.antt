use Rattle.std.proofs.Common.{◌<◌, length, get_or, set, subst, sym, arith}
use Rattle.std.proofs.lemmas.Option.{slice_get-get_or}
use Rattle.slot_names.specs.declared.arrivals.Arrival.{Arrival}
use Rattle.slot_names.specs.declared.arrivals.Arrival.TheVariants.{Nothing}
use Rattle.slot_names.proofs.NotedArrivals.{NotesOne, note_none, note_one}
use Rattle.slot_names.proofs.arrivals.note_successor.Goals as goal

-- what is written says it
noted : (c : goal.After-joined) → NotesOne c.args.method.now c.args.arrivals.now (set c.args.arrivals.now c.in-Some.place c.joined.result) c.args.from c.args.offset
noted c =
    let old = c.args.arrivals.now in
    let place = c.in-Some.place in
    let within : place < length old = omega (arith, c.in-Some.ensures.within, c.requires.sound.count) in
    let a = get_or old place Nothing in
    subst (λ (b : Arrival). NotesOne c.args.method.now old (set old place b) c.args.from c.args.offset) (sym c.joined.ensures)
    (note_one c.args.method.now old c.args.from c.args.offset place a c.requires.order c.requires.leads c.requires.sound c.in-Some.ensures.place (slice_get-get_or old place Nothing within))

pub returns-in_default-clause-noted : goal.returns-in_default-clause-noted
returns-in_default-clause-noted c =
    (note_none c.args.method.now c.args.arrivals.now c.args.from c.args.offset c.requires.sound c.in_default.ensures.place).noted

pub returns-in_default-clause-rises : goal.returns-in_default-clause-rises
returns-in_default-clause-rises c =
    (note_none c.args.method.now c.args.arrivals.now c.args.from c.args.offset c.requires.sound c.in_default.ensures.place).rises

pub returns-clause-sound : goal.returns-clause-sound
returns-clause-sound c = (noted c).sound

pub returns-clause-rises : goal.returns-clause-rises
returns-clause-rises c = (noted c).rises

pub returns-clause-noted : goal.returns-clause-noted
returns-clause-noted c = (noted c).noted
