use Rattle.edge_checker.specs.Failures.{IsLeastOf}
use Rattle.edge_checker.specs.Parts.{ErrorFails, IsCalm}
use Rattle.edge_checker.proofs.Leasts.{AllOf, SomeOf}
use Rattle.edge_checker.proofs.conditions.error_failure.Given as goal

-- the first of those so far
abbrev pub invariant-loop-a : goal.invariant-loop-a
invariant-loop-a l = IsLeastOf (AllOf (IsCalm l.automaton) l.listed 0 l.a-index) (SomeOf (ErrorFails l.automaton) l.listed 0 l.a-index) l.first
