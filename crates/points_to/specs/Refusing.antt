-- This crate's own proofs alone rest on this module.
-- The refusal that is named: of the first of the noted calls and methods.
use Rattle.std.specs.Prelude.{◌≡◌, ◌⊎◌, ℕ, ◌+◌, List, Option, Some, None, option_map}
use Rattle.failure.specs.declared.Failure.{Failure}
use Rattle.failure.specs.declared.Failure.TheVariants.{Cause, OutOfMemory}
use Rattle.jvm_model.specs.declared.reason.Refusal.{Refusal}
use Rattle.jvm_model.specs.Programs.{Program}
use Rattle.op_model.specs.Supplies.{IsCodedMethod}
use Rattle.points_to_rules.specs.Refusals.{IsCodeStart}
use Rattle.points_to.specs.declared.refusals.RefusedCall.{RefusedCall}
use Rattle.points_to.specs.declared.refusals.RefusedMethod.{RefusedMethod}
use Rattle.points_to_rules.specs.declared.solve_fault.SolveFault.{SolveFault}
use Rattle.points_to_rules.specs.declared.solve_fault.SolveFault.TheVariants.{PairLimit, Refused, TooMany}
use Rattle.points_to.specs.Firsts.{LeadsMethod, TrailsMethod}

-- The refusal of a call: in the file of its class, at the file offset of its node.
pub record IsCallRefusal (p : Program) (call : RefusedCall) (r : Refusal) : Type 0 where
  pub start : ℕ
  pub name : List ℕ
  pub begins : IsCodeStart p call.method name start
  pub is : r ≡ record { file = name; offset = start + call.offset; reason = call.reason }

-- The refusal of the call, if there is one.
abbrev pub IsRefusalOfCall : Program → RefusedCall → Option Refusal → Type 0
IsRefusalOfCall p call None = ⊥
IsRefusalOfCall p call (Some r) = IsCallRefusal p call r

-- That of a method, if there is one.
abbrev pub refusal_of : Option RefusedMethod → Option Refusal
refusal_of method = option_map (λ (m : RefusedMethod). m.refusal) method

-- That of the call where its method comes before the other one or is it, or else that of the method.
abbrev pub IsNamed : Program → Option RefusedCall → Option RefusedMethod → Option Refusal → Type 0
IsNamed p None method first = first ≡ refusal_of method
IsNamed p (Some call) method first = (LeadsMethod call.method.0 method × IsRefusalOfCall p call first) ⊎ (TrailsMethod call.method.0 method × (first ≡ refusal_of method))

-- The method of the call, if there is one, has code.
abbrev pub IsOfCoded : Program → Option RefusedCall → Type 0
IsOfCoded p None = Unit {0}
IsOfCoded p (Some call) = IsCodedMethod p call.method.0

-- The failure is the refusal that is named, or memory or numbers ran out.
abbrev pub IsRefusing : Program → Option RefusedCall → Option RefusedMethod → Failure SolveFault → Type 0
IsRefusing p call method (Cause (PairLimit n)) = ⊥
IsRefusing p call method (Cause (Refused r)) = IsNamed p call method (Some r)
IsRefusing p call method (Cause TooMany) = Unit {0}
IsRefusing p call method OutOfMemory = Unit {0}
