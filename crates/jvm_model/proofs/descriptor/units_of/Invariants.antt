use Rattle.std.proofs.Common.{◌≡◌, take, sum_by}
use Rattle.jvm_model.specs.DescriptorValues.{kind_units}
use Rattle.jvm_model.proofs.descriptor.units_of.Given as goal

abbrev pub invariant-loop-kind : goal.invariant-loop-kind
invariant-loop-kind l = l.units ≡ sum_by kind_units (take l.kind-index l.kinds)
