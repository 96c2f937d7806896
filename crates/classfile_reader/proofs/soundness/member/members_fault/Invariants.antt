use Rattle.jvm_model.specs.Spelling as spelling
use Rattle.classfile_reader.specs.FirstPlace.{member_places}
use Rattle.classfile_reader.specs.KnownTexts.{AreKnown}
use Rattle.classfile_reader.proofs.FirstPlaces.{Walked}
use Rattle.classfile_reader.proofs.soundness.member.members_fault.Given as goal

abbrev pub invariant-loop-place : goal.invariant-loop-place
invariant-loop-place l = Walked l.pool (member_places l.kind) spelling.member l.start l.members l.place l.offset × AreKnown l.pool l.known
