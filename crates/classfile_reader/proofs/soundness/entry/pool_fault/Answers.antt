use Rattle.std.proofs.Common.{subst, arith}
use Rattle.jvm_model.specs.Soundness.{at_offset, entry_places, entry_uses}
use Rattle.jvm_model.specs.Spelling as spelling
use Rattle.jvm_model.proofs.Lengths.{one_fits}
use Rattle.classfile_reader.specs.FirstPlace.{IsFirstBreach}
use Rattle.classfile_reader.proofs.FirstPlaces.{Walked-init, Walked-more, Walked-stops, Walked-all}
use Rattle.classfile_reader.proofs.soundness.entry.pool_fault.Goals as goal

pub returns-in-Some-clause-exact : goal.returns-in-Some-clause-exact
returns-in-Some-clause-exact c =
    let pool = c.args.pool.now in
    let uses = entry_uses c.args.major c.entry-item.result in
    let first = subst (IsFirstBreach pool (at_offset c.loop-entry.offset uses)) c.in-Some.is (c.at_offset.ensures pool uses c.in_ok-reason.ensures.exact) in
    Walked-stops pool (entry_places c.args.major) spelling.entry 10 pool c.loop-entry.entry-index c.loop-entry.offset c.entry-item.result c.in-Some.fault c.loop-entry-test.true c.entry-item.is c.loop-entry.invariant.0 first

pub loop-entry-init : goal.loop-entry-init
loop-entry-init c = (Walked-init c.args.pool.now (entry_places c.args.major) spelling.entry 10 c.args.pool.now, c.requires.known_before)

pub entry_length-offset-requires : goal.entry_length-offset-requires
entry_length-offset-requires c =
    let fits = one_fits spelling.entry c.args.pool.now c.loop-entry.entry-index c.entry-item.result c.loop-entry-test.true c.entry-item.is in
    omega (arith, fits, c.requires.size)

pub overflow_add-offset : goal.overflow_add-offset
overflow_add-offset c =
    let fits = one_fits spelling.entry c.args.pool.now c.loop-entry.entry-index c.entry-item.result c.loop-entry-test.true c.entry-item.is in
    omega (arith, fits, c.requires.size, c.loop-entry.invariant.0.at, c.entry_length-offset.ensures)

pub loop-entry-preserved : goal.loop-entry-preserved
loop-entry-preserved c =
    let pool = c.args.pool.now in
    let uses = entry_uses c.args.major c.entry-item.result in
    let none = subst (IsFirstBreach pool (at_offset c.loop-entry.offset uses)) c.in_default.is (c.at_offset.ensures pool uses c.in_ok-reason.ensures.exact) in
    let walked = Walked-more pool (entry_places c.args.major) spelling.entry 10 pool c.loop-entry.entry-index c.loop-entry.offset c.entry-item.result c.loop-entry-test.true c.entry-item.is c.loop-entry.invariant.0 none in
    rw c.entry_length-offset.ensures (walked, c.in_ok-reason.ensures.known)

pub returns-clause-exact : goal.returns-clause-exact
returns-clause-exact c =
    Walked-all c.args.pool.now (entry_places c.args.major) spelling.entry 10 c.args.pool.now c.loop-entry.entry-index c.loop-entry.offset (omega (arith, c.loop-entry-test.false)) c.loop-entry.invariant.0
