use Rattle.jvm_model.specs.Soundness.{entry_places}
use Rattle.jvm_model.specs.Spelling as spelling
use Rattle.classfile_reader.specs.KnownTexts.{AreKnown}
use Rattle.classfile_reader.proofs.FirstPlaces.{Walked}
use Rattle.classfile_reader.proofs.soundness.entry.pool_fault.Given as goal

abbrev pub invariant-loop-entry : goal.invariant-loop-entry
invariant-loop-entry l = Walked l.pool (entry_places l.major) spelling.entry 10 l.pool l.entry-index l.offset × AreKnown l.pool l.known
