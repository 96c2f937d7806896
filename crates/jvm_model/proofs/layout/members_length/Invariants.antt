use Rattle.std.proofs.Common.{◌≡◌, length, flat_map, take}
use Rattle.jvm_model.specs.Spelling.{member}
use Rattle.jvm_model.proofs.layout.members_length.Given as goal

abbrev pub invariant-loop-member : goal.invariant-loop-member
invariant-loop-member l = l.bytes ≡ length (flat_map member (take l.member-index l.members))
