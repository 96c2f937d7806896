-- Failures to number something, as failures of the solver.
use Rattle.std.proofs.Common.{◌≡◌, Result, Ok, Err, MatchResult, refl, ap, inl, inr}
use Rattle.failure.specs.declared.Failure.{Failure}
use Rattle.failure.specs.declared.Failure.TheVariants.{Cause, OutOfMemory}
use Rattle.failure.specs.Widening.{IsWidened}
use Rattle.program_index.specs.declared.index_failure.TooMany.{TooMany as TooManyItems}
use Rattle.points_to_rules.specs.declared.solve_fault.SolveFault.{SolveFault}
use Rattle.points_to_rules.specs.declared.solve_fault.SolveFault.TheVariants.{TooMany}
use Rattle.points_to.specs.Taking.{IsOutOfRoom}

widened_room : (e : Failure TooManyItems) (end : Failure SolveFault) → IsWidened (λ _ fault. fault ≡ TooMany) e end → IsOutOfRoom end
widened_room (Cause _) (Cause fault) is = inr (ap (λ (f : SolveFault). Cause f) is)
widened_room (Cause _) OutOfMemory is = absurd is
widened_room OutOfMemory (Cause _) is = absurd is
widened_room OutOfMemory OutOfMemory is = inl refl

-- a failure that is handed on is for want of memory or of numbers
pub handed_room : {X : Type 0} (r : Result X (Failure TooManyItems)) (end : Failure SolveFault)
    → MatchResult r (λ x. ◌≡◌ {A = Result X (Failure SolveFault)} (Err end) (Ok x)) (λ e. IsWidened (λ _ fault. fault ≡ TooMany) e end) → IsOutOfRoom end
handed_room (Ok x) end cases = absurd (cc cases)
handed_room (Err e) end cases = widened_room e end cases
