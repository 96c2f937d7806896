use Rattle.edge_steps.specs.declared.conclusions.EnteredWith.{EnteredWith}
use Rattle.edge_steps.specs.Steps.{begun}
use Rattle.edge_checker.specs.Conditions.{HasEdge}
use Rattle.edge_checker.proofs.Leasts.{AllOf}
use Rattle.edge_checker.proofs.following.are_begun.Given as goal

-- those so far begin
abbrev pub invariant-loop-one : goal.invariant-loop-one
invariant-loop-one l = AllOf (λ (b : EnteredWith). HasEdge l.listed (begun b)) l.entered 0 l.one-index
