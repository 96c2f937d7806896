use Rattle.std.proofs.Common.{◌<◌, length, take, subst, arith}
use Rattle.jvm_model.specs.declared.class_file.Member.{Member}
use Rattle.jvm_model.specs.Spelling as spelling
use Rattle.jvm_model.proofs.Lengths.{one_fits}
use Rattle.classfile_reader.specs.FirstPlace.{IsFirstBreach, member_places}
use Rattle.classfile_reader.proofs.FirstPlaces.{Walked-more, Walked-stops, repeat_at}
use Rattle.classfile_reader.proofs.soundness.member.members_fault.Goals as goal

pub member_fault-requires-clause-size : goal.member_fault-requires-clause-size
member_fault-requires-clause-size c =
    let lt : c.loop-place.place < length c.args.members.now = omega arith in
    let fits = one_fits spelling.member c.args.members.now c.loop-place.place c.index-members-place.result lt c.index-members-place.is in
    omega (arith, fits, c.requires.size, c.loop-place.invariant.0.at)

pub returns-in-Some-clause-exact : goal.returns-in-Some-clause-exact
returns-in-Some-clause-exact c =
    let pool = c.args.pool.now in
    let members = c.args.members.now in
    let place = c.loop-place.place in
    let m : Member = c.index-members-place.result in
    let lt : place < length members = omega arith in
    let repeat = repeat_at pool members c.in_ok-repeated.repeated.items place m c.index-is_repeat.result.now lt c.index-members-place.is c.index-is_repeat.ensures c.in_ok-repeated.ensures in
    let first = subst (IsFirstBreach pool (member_places c.args.kind c.loop-place.offset (take place members) m)) c.in-Some.is (c.in_ok-fault.ensures.exact (take place members) repeat) in
    Walked-stops pool (member_places c.args.kind) spelling.member c.args.start members place c.loop-place.offset m c.in-Some.fault lt c.index-members-place.is c.loop-place.invariant.0 first

pub member_length-offset-requires : goal.member_length-offset-requires
member_length-offset-requires c =
    let lt : c.loop-place.place < length c.args.members.now = omega arith in
    let fits = one_fits spelling.member c.args.members.now c.loop-place.place c.index-members-place.result lt c.index-members-place.is in
    omega (arith, fits, c.requires.size)

pub overflow_add-offset : goal.overflow_add-offset
overflow_add-offset c =
    let lt : c.loop-place.place < length c.args.members.now = omega arith in
    let fits = one_fits spelling.member c.args.members.now c.loop-place.place c.index-members-place.result lt c.index-members-place.is in
    omega (arith, fits, c.requires.size, c.loop-place.invariant.0.at, c.member_length-offset.ensures)

pub loop-place-preserved : goal.loop-place-preserved
loop-place-preserved c =
    let pool = c.args.pool.now in
    let members = c.args.members.now in
    let place = c.loop-place.place in
    let m : Member = c.index-members-place.result in
    let lt : place < length members = omega arith in
    let repeat = repeat_at pool members c.in_ok-repeated.repeated.items place m c.index-is_repeat.result.now lt c.index-members-place.is c.index-is_repeat.ensures c.in_ok-repeated.ensures in
    let none = subst (IsFirstBreach pool (member_places c.args.kind c.loop-place.offset (take place members) m)) c.in_default.is (c.in_ok-fault.ensures.exact (take place members) repeat) in
    let walked = Walked-more pool (member_places c.args.kind) spelling.member c.args.start members place c.loop-place.offset m lt c.index-members-place.is c.loop-place.invariant.0 none in
    rw c.member_length-offset.ensures (walked, c.in_ok-fault.ensures.known)
