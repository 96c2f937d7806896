-- This crate's own proofs alone rest on this module.
-- The constraint to which the objects of a unit of the arguments of a call go.
use Rattle.std.specs.Prelude.{◌≡◌, ℕ, length, Option, Some, None, slice_get}
use Rattle.jvm_model.specs.declared.number.MethodNo.{MethodNo}
use Rattle.jvm_model.specs.Programs.{Program}
use Rattle.program_model.specs.Numbers.{IsMethodNumber}
use Rattle.op_model.specs.declared.op.CallKind.{CallKind}
use Rattle.points_to_rules.specs.Facts.{Holder}
use Rattle.points_to_constraints.specs.CallItems.{GivesUnit}
use Rattle.points_to_constraints.specs.Items.{CallSite, Constraint as ItemConstraint}
use Rattle.points_to_numbers.specs.declared.keys.Constraint.{Constraint}
use Rattle.points_to_numbers.specs.Numbered.{Numbered, Grows, IsConstraintAt}

-- The method that the call of the number is resolved to is one of the program.
abbrev pub ResolvesIn : Program → Numbered → ℕ → Type 0
ResolvesIn p n call = (site : CallSite) → slice_get n.calls call ≡ Some site → IsMethodNumber p site.resolved.0

-- The constraint is that of the unit; or the unit has none.
abbrev pub IsUnitConstraint : Program → Numbered → CallKind → MethodNo → (unit : ℕ) → Holder → Option Constraint → Type 0
IsUnitConstraint p n kind resolved unit to None = (u : ItemConstraint) → GivesUnit kind p resolved unit to u → ⊥
IsUnitConstraint p n kind resolved unit to (Some constraint) = (u : ItemConstraint) × IsConstraintAt n constraint u × GivesUnit kind p resolved unit to u

-- The tables grow by no call, and the constraint is found.
pub record MakesConstraint (p : Program) (n m : Numbered) (kind : CallKind) (resolved : MethodNo) (unit : ℕ) (to : Holder) (constraint : Option Constraint) : Type 0 where
  pub grows : Grows n m
  pub calls : length m.calls ≡ length n.calls
  pub is : IsUnitConstraint p m kind resolved unit to constraint
