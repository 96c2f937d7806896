use Rattle.std.proofs.Common.{get_or, subst, arith}
use Rattle.std.proofs.lemmas.List.{get_or_default}
use Rattle.jvm_model.specs.Soundness.{at_offset, class_uses}
use Rattle.jvm_model.specs.Spelling.{u2}
use Rattle.jvm_model.proofs.Lengths.{one_fits, two_each}
use Rattle.classfile_reader.specs.FirstPlace.{IsFirstBreach}
use Rattle.classfile_reader.proofs.FirstPlaces.{Walked-more, Walked-stops}
use Rattle.classfile_reader.proofs.soundness.header.interfaces_fault.Goals as goal

pub returns-in-Some : goal.returns-in-Some
returns-in-Some c =
    let pool = c.args.pool.now in
    let interfaces = c.args.interfaces.now in
    let i = c.loop-interface.interface-index in
    let index = get_or interfaces i 0 in
    let first = subst (IsFirstBreach pool (at_offset c.loop-interface.offset (class_uses index))) c.in-Some.is (c.at_offset.ensures pool (class_uses index) c.class_reason-reason.ensures) in
    Walked-stops pool (λ offset earlier n. at_offset offset (class_uses n)) u2 c.args.start interfaces i c.loop-interface.offset index c.in-Some.fault c.loop-interface-test.true (get_or_default interfaces i 0 (get_or interfaces i 0) c.loop-interface-test.true)
    c.loop-interface.invariant first

pub overflow_add-offset : goal.overflow_add-offset
overflow_add-offset c =
    let interfaces = c.args.interfaces.now in
    let i = c.loop-interface.interface-index in
    let fits = one_fits u2 interfaces i (get_or interfaces i 0) c.loop-interface-test.true (get_or_default interfaces i 0 (get_or interfaces i 0) c.loop-interface-test.true) in
    omega (arith, fits, two_each interfaces, c.requires, c.loop-interface.invariant.at)

pub loop-interface-preserved : goal.loop-interface-preserved
loop-interface-preserved c =
    let pool = c.args.pool.now in
    let interfaces = c.args.interfaces.now in
    let i = c.loop-interface.interface-index in
    let index = get_or interfaces i 0 in
    let none = subst (IsFirstBreach pool (at_offset c.loop-interface.offset (class_uses index))) c.in_default.is (c.at_offset.ensures pool (class_uses index) c.class_reason-reason.ensures) in
    Walked-more pool (λ offset earlier n. at_offset offset (class_uses n)) u2 c.args.start interfaces i c.loop-interface.offset index c.loop-interface-test.true (get_or_default interfaces i 0 (get_or interfaces i 0) c.loop-interface-test.true)
    c.loop-interface.invariant none
