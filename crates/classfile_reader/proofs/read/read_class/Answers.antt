use Rattle.std.proofs.Common.{subst}
use Rattle.jvm_model.specs.Soundness.{places_of}
use Rattle.classfile_reader.specs.Faults.{by_use}
use Rattle.classfile_reader.specs.FirstPlace.{IsFirstBreach}
use Rattle.classfile_reader.proofs.FirstPlaces.{none_told}
use Rattle.classfile_reader.proofs.Refusals.{is_read}
use Rattle.classfile_reader.proofs.read.read_class.Goals as goal

pub returns-in-None-clause-sound : goal.returns-in-None-clause-sound
returns-in-None-clause-sound c =
    let class = c.in_ok-class.class in
    none_told class (subst (IsFirstBreach class.pool (places_of class)) c.in-None.is c.in_ok-offset.ensures)

pub returns-in-Some-clause-refused : goal.returns-in-Some-clause-refused
returns-in-Some-clause-refused c =
    let class = c.in_ok-class.class in
    by_use class c.in_ok-class.ensures.found (subst (IsFirstBreach class.pool (places_of class)) c.in-Some.is c.in_ok-offset.ensures)

pub returns-in-Some-clause-only : goal.returns-in-Some-clause-only
returns-in-Some-clause-only c = λ other readable sound.
    let class = c.in_ok-class.class in
    let first = subst (IsFirstBreach class.pool (places_of class)) c.in-Some.is c.in_ok-offset.ensures in
    absurd (is_read c.args.bytes.now class other c.in-Some.offset c.in-Some.reason c.in_ok-class.ensures.found first readable sound)
