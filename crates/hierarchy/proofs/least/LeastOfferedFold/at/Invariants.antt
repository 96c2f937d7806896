use Rattle.jvm_model.specs.Lookups.{lent_signature}
use Rattle.hierarchy.proofs.LeastMethods.{IsLeastBefore}
use Rattle.hierarchy.proofs.least.LeastOfferedFold.at.Given as goal

-- the least so far
abbrev pub invariant-loop-number : goal.invariant-loop-number
invariant-loop-number l = IsLeastBefore l.program (lent_signature l.self.signature) l.interfaces l.number-index l.fn.value l.least
