use Rattle.jvm_model.specs.Lookups.{lent_signature}
use Rattle.hierarchy.proofs.Inheriting.{NoneBefore}
use Rattle.hierarchy.proofs.superinterfaces.InterfaceSearchStep.at.Given as goal

-- no interface so far offers a method that is looked for
abbrev pub invariant-loop-number : goal.invariant-loop-number
invariant-loop-number g l =
    NoneBefore l.program (lent_signature l.self.signature) (g.S.Sought.takes l.self.sought.now l.program) l.interfaces l.number-index
