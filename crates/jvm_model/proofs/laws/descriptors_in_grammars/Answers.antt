use Rattle.jvm_model.proofs.MethodKinds.{in_grammar}
use Rattle.jvm_model.proofs.laws.descriptors_in_grammars.Goals as goal

pub returns : goal.returns
returns c = in_grammar
