use Rattle.std.proofs.Common.{◌≤◌, length}
use Rattle.jvm_model.proofs.Parameters.{HasRead}
use Rattle.jvm_model.proofs.grammar.after_parameters.Given as goal

abbrev pub invariant-loop-length : goal.invariant-loop-length
invariant-loop-length l = HasRead l.text l.rest l.units × (l.units ≤ 255)

abbrev pub decreases-loop-length : goal.decreases-loop-length
decreases-loop-length l = length l.rest
