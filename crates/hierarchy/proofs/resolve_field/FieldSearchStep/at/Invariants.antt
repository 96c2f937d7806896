use Rattle.jvm_model.specs.Lookups.{lent_signature}
use Rattle.hierarchy.proofs.FieldWalks.{IsRestOf}
use Rattle.hierarchy.proofs.resolve_field.FieldSearchStep.at.Given as goal

abbrev pub invariant-loop-number : goal.invariant-loop-number
invariant-loop-number l = IsRestOf l.program (lent_signature l.self.signature) l.interfaces l.number-index
