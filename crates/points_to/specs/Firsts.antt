-- This crate's own proofs alone rest on this module.
-- The first of some refused calls, and of some refused methods.
use Rattle.std.specs.Prelude.{◌≡◌, ℕ, ◌<◌, ◌≤◌, List, [], Option, Some, None, All, Contains}
use Rattle.jvm_model.specs.declared.reason.Reason.{Reason}
use Rattle.jvm_model.specs.declared.reason.Reason.TheVariants.{NoStub, NoImplementation, ClashingDefaults, PackageOverride}
use Rattle.points_to.specs.declared.refusals.RefusedCall.{RefusedCall}
use Rattle.points_to.specs.declared.refusals.RefusedMethod.{RefusedMethod}

-- The place of a reason in the order in which reasons at one call are named. All others come behind these.
abbrev pub reason_place : Reason → ℕ
reason_place NoStub = 0
reason_place NoImplementation = 1
reason_place ClashingDefaults = 2
reason_place PackageOverride = 3
reason_place _ = 4

-- The call does not come behind the other one: by their methods, by their offsets, and by the reasons.
pub data IsNoLaterCall (call other : RefusedCall) : Type 0 where
  by_method : call.method.0 < other.method.0 → IsNoLaterCall call other
  by_offset : call.method.0 ≡ other.method.0 → call.offset < other.offset → IsNoLaterCall call other
  by_reason : call.method.0 ≡ other.method.0 → call.offset ≡ other.offset → reason_place call.reason ≤ reason_place other.reason → IsNoLaterCall call other

-- One of the calls, behind none of them, if there are any.
abbrev pub IsFirstCall : List RefusedCall → Option RefusedCall → Type 0
IsFirstCall calls None = calls ≡ []
IsFirstCall calls (Some first) = Contains calls first × All (IsNoLaterCall first) calls

-- The same of methods, by their numbers.
abbrev pub IsFirstMethod : List RefusedMethod → Option RefusedMethod → Type 0
IsFirstMethod methods None = methods ≡ []
IsFirstMethod methods (Some first) = Contains methods first × All (λ (m : RefusedMethod). first.method.0 ≤ m.method.0) methods

-- ---- one more

-- The call does not come behind the first one, if there is one; or that is there, and does not come behind the call.
abbrev pub LeadsCall : RefusedCall → Option RefusedCall → Type 0
LeadsCall call None = Unit {0}
LeadsCall call (Some first) = IsNoLaterCall call first

abbrev pub TrailsCall : RefusedCall → Option RefusedCall → Type 0
TrailsCall call None = ⊥
TrailsCall call (Some first) = IsNoLaterCall first call

-- The same of the number of a method.
abbrev pub LeadsMethod : ℕ → Option RefusedMethod → Type 0
LeadsMethod number None = Unit {0}
LeadsMethod number (Some first) = number ≤ first.method.0

abbrev pub TrailsMethod : ℕ → Option RefusedMethod → Type 0
TrailsMethod number None = ⊥
TrailsMethod number (Some first) = first.method.0 ≤ number
