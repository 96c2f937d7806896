-- Public contracts rest on this module.
-- What a call selects, where that is one thing.
use Rattle.std.specs.Prelude.{◌≡◌, ℕ, Option, Some, None, Result}
use Rattle.jvm_model.specs.declared.number.MethodNo.{MethodNo}
use Rattle.jvm_model.specs.declared.reason.Reason.{Reason}
use Rattle.program_model.specs.Numbers.{method_number}

-- The answer is the only one of which the fact holds; or it holds of none.
abbrev pub IsOnlyAnswer : (Result ℕ Reason → Type 0) → Option (Result MethodNo Reason) → Type 0
IsOnlyAnswer Q None = (outcome : Result ℕ Reason) → Q outcome → ⊥
IsOnlyAnswer Q (Some answer) = Q (method_number answer) × ((outcome : Result ℕ Reason) → Q outcome → outcome ≡ method_number answer)
