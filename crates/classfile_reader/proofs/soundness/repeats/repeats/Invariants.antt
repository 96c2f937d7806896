use Rattle.std.proofs.Common.{take}
use Rattle.classfile_reader.specs.Repeats.{AreEarlier}
use Rattle.classfile_reader.specs.TextNumbers.{AreNumbers}
use Rattle.classfile_reader.proofs.Repeats.{HaveAnswers}
use Rattle.classfile_reader.proofs.soundness.repeats.repeats.Given as goal

abbrev pub invariant-loop-member : goal.invariant-loop-member
invariant-loop-member l = record {
  numbers : AreNumbers l.pool l.earlier.numbers;
  earlier : AreEarlier l.pool (take l.member-index l.members) l.earlier.numbers l.earlier.signatures;
  answered : HaveAnswers l.pool l.members l.member-index l.answers.items;
}
