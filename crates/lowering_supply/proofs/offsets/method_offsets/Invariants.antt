use Rattle.std.proofs.Common.{◌≡◌, ◌+◌, length, take}
use Rattle.std.specs.List.{flat_map}
use Rattle.jvm_model.specs.Soundness.{methods_offset}
use Rattle.jvm_model.specs.Spelling.{member}
use Rattle.lowering_supply.proofs.Counting.{AreCountedTo}
use Rattle.lowering_supply.proofs.offsets.method_offsets.Given as goal

abbrev pub invariant-loop-method : goal.invariant-loop-method
invariant-loop-method l =
    (l.offset ≡ methods_offset l.class + length (flat_map member (take l.method-index l.method-items)))
    × (length l.offsets.items ≡ l.method-index)
    × AreCountedTo (λ k. methods_offset l.class + length (flat_map member (take k l.method-items))) l.offsets.items l.method-index
