use Rattle.std.proofs.Common.{arith}
use Rattle.jvm_model.specs.DescriptorValues.{kind_units}
use Rattle.jvm_model.proofs.SumFronts.{sum_more, sum_fits}
use Rattle.jvm_model.proofs.descriptor.units_of.Goals as goal

pub overflow_add-units : goal.overflow_add-units
overflow_add-units c = omega (arith, sum_fits kind_units c.args.kinds.now c.loop-kind.kind-index c.kind-item.result c.loop-kind-test.true c.kind-item.is)

pub loop-kind-preserved : goal.loop-kind-preserved
loop-kind-preserved c = omega (arith, sum_more kind_units c.args.kinds.now c.loop-kind.kind-index c.kind-item.result c.loop-kind-test.true c.kind-item.is)
