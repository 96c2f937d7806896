use Rattle.std.proofs.Common.{take}
use Rattle.points_to_numbers.specs.declared.keys.ConstraintNo.{ConstraintNo}
use Rattle.points_to.proofs.PassedOn.{ArePassedOn}
use Rattle.points_to.proofs.found.Found.pass_to_each.Given as goal

abbrev pub invariant-loop-constraint : goal.invariant-loop-constraint
invariant-loop-constraint l = ArePassedOn l.program (λ (u : ConstraintNo). u) (λ (u : ConstraintNo). l.site) (take l.constraint-index l.constraints) l.initial.self l.self
