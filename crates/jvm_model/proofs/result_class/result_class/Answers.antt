use Rattle.std.proofs.Common.{ap, ◌∙◌}
use Rattle.jvm_model.specs.Stubs.{class_in}
use Rattle.jvm_model.proofs.result_class.result_class.Goals as goal

pub returns : goal.returns
returns c = c.class_in.ensures ∙ ap class_in c.after_parameters.ensures
