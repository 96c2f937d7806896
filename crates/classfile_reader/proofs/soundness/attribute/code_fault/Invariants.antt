use Rattle.std.proofs.Common.{◌≡◌, take}
use Rattle.std.specs.List.{list_any}
use Rattle.jvm_model.specs.Soundness.{is_code, code_places}
use Rattle.jvm_model.specs.Spelling as spelling
use Rattle.classfile_reader.proofs.FirstPlaces.{Walked}
use Rattle.classfile_reader.proofs.soundness.attribute.code_fault.Given as goal

abbrev pub invariant-loop-attribute : goal.invariant-loop-attribute
invariant-loop-attribute l =
    Walked l.pool (code_places l.method) spelling.attribute l.start l.method.attributes l.attribute-index l.offset
    × (l.has_code ≡ list_any (is_code l.pool) (take l.attribute-index l.method.attributes))
