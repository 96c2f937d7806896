-- Sets without a refused call.
use Rattle.std.specs.Prelude.{ℕ}
use Rattle.jvm_model.specs.declared.number.MethodNo.{MethodNo}
use Rattle.jvm_model.specs.declared.reason.Reason.{Reason}
use Rattle.jvm_model.specs.Programs.{Program}
use Rattle.op_model.specs.Supplies.{GivenAs}
use Rattle.points_to_rules.specs.Facts.{Fact}
use Rattle.points_to_rules.specs.Refusals.{IsRefusedCall}

-- no call of a method that may run is refused in the set
abbrev pub HasNoRefusedCall : Program → GivenAs → (Fact → Type 0) → Type 0
HasNoRefusedCall p gives S = (m : MethodNo) (offset : ℕ) (reason : Reason) → IsRefusedCall p gives S m offset reason → ⊥
