use Rattle.stage_facts.specs.Plain.{fact_of}
use Rattle.edge_steps.specs.declared.conclusions.Conclusion.{Conclusion}
use Rattle.edge_steps.specs.Steps.{within}
use Rattle.edge_checker.specs.Conditions.{HasEdge}
use Rattle.edge_checker.proofs.Leasts.{AllOf}
use Rattle.edge_checker.proofs.following.are_listed.Given as goal

-- those so far are listed
abbrev pub invariant-loop-conclusion : goal.invariant-loop-conclusion
invariant-loop-conclusion l = AllOf (λ (d : Conclusion). HasEdge l.listed (within l.a.edge.method (fact_of l.a.edge.entry) d)) l.conclusions 0 l.conclusion-index
