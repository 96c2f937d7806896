use Rattle.jvm_model.specs.Soundness.{at_offset, class_uses}
use Rattle.jvm_model.specs.Spelling.{u2}
use Rattle.classfile_reader.proofs.FirstPlaces.{Walked}
use Rattle.classfile_reader.proofs.soundness.header.interfaces_fault.Given as goal

abbrev pub invariant-loop-interface : goal.invariant-loop-interface
invariant-loop-interface l = Walked l.pool (λ offset earlier index. at_offset offset (class_uses index)) u2 l.start l.interfaces l.interface-index l.offset
