use Rattle.jvm_model.proofs.MethodKinds.{one_value}
use Rattle.jvm_model.proofs.laws.one_descriptor.Goals as goal

pub returns : goal.returns
returns c = one_value
