use Rattle.std.proofs.Common.{◌≡◌, false, drop}
use Rattle.jvm_model.specs.Stubs.{after_parameters}
use Rattle.jvm_model.proofs.result_class.after_parameters.Given as goal

abbrev pub invariant-loop-place : goal.invariant-loop-place
invariant-loop-place l = after_parameters l.in_class (drop l.place l.descriptor) ≡ after_parameters false l.descriptor
