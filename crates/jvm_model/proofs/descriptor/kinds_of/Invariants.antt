use Rattle.std.proofs.Common.{length}
use Rattle.jvm_model.specs.DescriptorValues.{BeginsWithKinds}
use Rattle.jvm_model.proofs.descriptor.kinds_of.Given as goal

abbrev pub invariant-loop-length : goal.invariant-loop-length
invariant-loop-length l = BeginsWithKinds l.text l.rest l.kinds.items

abbrev pub decreases-loop-length : goal.decreases-loop-length
decreases-loop-length l = length l.rest
