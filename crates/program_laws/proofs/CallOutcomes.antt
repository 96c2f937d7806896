-- A call of a resolved method on an object of a class gives a target, or a reason.
use Rattle.std.proofs.Common.{◌≡◌, inl, inr, ℕ, Bool, true, false, List, Some, Result, Ok, Err, refl}
use Rattle.std.specs.List.{slice_get}
use Rattle.jvm_model.specs.declared.reason.Reason.{Reason}
use Rattle.jvm_model.specs.declared.reason.Reason.TheVariants.{NoImplementation, ClashingDefaults, PackageOverride}
use Rattle.jvm_model.specs.LinkedPrograms.{IsProgram}
use Rattle.jvm_model.specs.Programs.{Method, Program, is_abstract}
use Rattle.jvm_model.specs.Selection.{Selects, Clashes, IsPackageOverridden, Selection, selected, no_code, nothing, several, hidden}
use Rattle.program_laws.proofs.Choices.{OrNot}
use Rattle.program_laws.proofs.Bounded.{SomeOrNone}
use Rattle.program_laws.proofs.Choosing.{selects_stands, target_or_none, clash_or_not, hidden_or_not}

abbrev Outcome : Program → Bool → List ℕ → ℕ → Type 0
Outcome p by_interface class resolved = (outcome : Result ℕ Reason) × Selection p by_interface class resolved outcome

pub call_outcome : (p : Program) (by_interface : Bool) (class : List ℕ) (resolved : ℕ) → IsProgram p → Outcome p by_interface class resolved
call_outcome p by_interface class resolved program =
    by (target_or_none p program by_interface class resolved) (clash_or_not p program by_interface class resolved) (hidden_or_not p program class resolved)
  where
    of : (target : ℕ) (method : Method) → Selects p by_interface class resolved target → slice_get p.methods target ≡ Some method → (b : Bool) → is_abstract method ≡ b
        → OrNot (IsPackageOverridden p class resolved) → Outcome p by_interface class resolved
    of target method t stands true e over = (Err NoImplementation, no_code target method t stands e refl)
    of target method t stands false e (inl over) = (Err PackageOverride, hidden target method t stands e over refl)
    of target method t stands false e (inr plain) = (Ok target, selected target method t stands e plain refl)

    by : SomeOrNone (Selects p by_interface class resolved) → OrNot (Clashes p by_interface class resolved) → OrNot (IsPackageOverridden p class resolved)
        → Outcome p by_interface class resolved
    by (inl h) clash over = let is = selects_stands p by_interface class resolved h.0 h.1 in of h.0 is.0 h.1 is.1 (is_abstract is.0) refl over
    by (inr none) (inl clash) over = (Err ClashingDefaults, several clash refl)
    by (inr none) (inr no_clash) over = (Err NoImplementation, nothing none no_clash refl)
