use Rattle.jvm_model.specs.Soundness.{attribute_places}
use Rattle.jvm_model.specs.Spelling as spelling
use Rattle.classfile_reader.proofs.FirstPlaces.{Walked}
use Rattle.classfile_reader.proofs.soundness.attribute.attributes_fault.Given as goal

abbrev pub invariant-loop-attribute : goal.invariant-loop-attribute
invariant-loop-attribute l = Walked l.pool attribute_places spelling.attribute l.start l.attributes l.attribute-index l.offset
