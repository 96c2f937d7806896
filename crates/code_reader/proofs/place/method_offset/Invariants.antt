use Rattle.std.proofs.Common.{◌≡◌, ◌+◌, length, take}
use Rattle.std.specs.List.{flat_map}
use Rattle.jvm_model.specs.Soundness.{methods_offset}
use Rattle.jvm_model.specs.Spelling.{member}
use Rattle.code_reader.proofs.place.method_offset.Given as goal

abbrev pub invariant-loop-earlier : goal.invariant-loop-earlier
invariant-loop-earlier l = l.offset ≡ methods_offset l.class + length (flat_map member (take l.earlier-index l.earlier-items))
