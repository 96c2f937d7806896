-- Public contracts rest on this module.
-- What the analysis answers: the least sets, with the methods that may run, where they have fewer pairs than the limit and no refusal; or the
-- limit, or the first refusal.
use Rattle.std.specs.Prelude.{◌≡◌, ℕ, suc, ◌<◌, List, [], ◌∷◌, Option, Some, None, Result, Ok, Contains, slice_get}
use Rattle.failure.specs.declared.Failure.{Failure}
use Rattle.failure.specs.declared.Failure.TheVariants.{Cause, OutOfMemory}
use Rattle.jvm_model.specs.declared.number.MethodNo.{MethodNo}
use Rattle.jvm_model.specs.declared.reason.Refusal.{Refusal}
use Rattle.jvm_model.specs.declared.site.Site.{Site}
use Rattle.jvm_model.specs.Programs.{Program}
use Rattle.op_model.specs.declared.lowered.LoweredMethod.{LoweredMethod}
use Rattle.op_model.specs.Supplies.{GivenAs, IsCodedMethod, IsServed}
use Rattle.least_sets.specs.Parts.{HasAtLeast}
use Rattle.least_sets.specs.Rules.{IsLeast, IsWithoutDoubles}
use Rattle.slot_names.specs.KeptNames.{name_table}
use Rattle.slot_names.specs.Tables.{AreNames}
use Rattle.points_to_rules.specs.declared.running_method.RunningMethod.{RunningMethod}
use Rattle.points_to_rules.specs.declared.solve_fault.SolveFault.{SolveFault}
use Rattle.points_to_rules.specs.declared.solve_fault.SolveFault.TheVariants.{PairLimit, Refused, TooMany}
use Rattle.points_to_rules.specs.Facts.{Holder, Fact, may_hold, may_run, may_call, may_write}
use Rattle.points_to_rules.specs.Refusals.{IsFirstRefusal, IsUnrefused}
use Rattle.points_to_rules.specs.Rules.{Instance}
use Rattle.points_to_rules.specs.WholeMethods.{AreWholeMethods}

-- The supplier serves just the methods that have code, and gives methods of the program.
pub record IsSupplyOf (p : Program) (gives : GivenAs) : Type 0 where
  pub serves : (number : ℕ) → IsCodedMethod p number → IsServed gives number
  pub coded : (number : ℕ) (answer : Result LoweredMethod Refusal) → gives number answer → IsCodedMethod p number
  pub methods : AreWholeMethods p gives

-- A fact that is a pair: of a holder and a site that it may hold.
abbrev pub pair_of : Fact → Option (Holder × Site)
pair_of (may_hold h s) = Some (h, s)
pair_of (may_run m) = None
pair_of (may_call call m) = None
pair_of (may_write m field) = None

-- So many pairs are among the facts.
abbrev pub pairs_in : List Fact → ℕ
pairs_in [] = 0
pairs_in (may_hold h s ∷ facts) = suc (pairs_in facts)
pairs_in (may_run m ∷ facts) = pairs_in facts
pairs_in (may_call call m ∷ facts) = pairs_in facts
pairs_in (may_write m field ∷ facts) = pairs_in facts

-- The facts are the least, each stands there once, and fewer pairs than the limit are among them.
pub record AreLeastBelow (p : Program) (gives : GivenAs) (entry : MethodNo) (limit : ℕ) (facts : List Fact) : Type 0 where
  pub least : IsLeast (Instance p gives entry) facts
  pub apart : IsWithoutDoubles facts
  pub room : pairs_in facts < limit

pub record IsSolution (p : Program) (gives : GivenAs) (entry : MethodNo) (limit : ℕ) (facts : List Fact) : Type 0 where
  pub least : AreLeastBelow p gives entry limit facts
  pub unrefused : IsUnrefused p gives (Contains facts)

-- The listed methods are those that may run and are given as nodes, each once, with the variables of its slots.
pub record AreRunning (gives : GivenAs) (S : Fact → Type 0) (methods : List RunningMethod) : Type 0 where
  pub only : (m : RunningMethod) → Contains methods m → S (may_run m.method.method) × gives m.method.method.0 (Ok m.method)
  pub all : (number : MethodNo) (l : LoweredMethod) → S (may_run number) → gives number.0 (Ok l) → (m : RunningMethod) × Contains methods m × (m.method ≡ l)
  pub named : (m : RunningMethod) → Contains methods m → AreNames m.method (name_table m.names)
  pub apart : (i j : ℕ) (a b : RunningMethod) → slice_get methods i ≡ Some a → slice_get methods j ≡ Some b → a.method.method ≡ b.method.method → i ≡ j

-- The least sets have fewer pairs than the limit, and this is the first refusal in them.
pub record EndsRefused (p : Program) (gives : GivenAs) (entry : MethodNo) (limit : ℕ) (r : Refusal) : Type 0 where
  pub facts : List Fact
  pub least : AreLeastBelow p gives entry limit facts
  pub first : IsFirstRefusal p gives (Contains facts) r

-- Why there is no solution. Of too much to number, as of memory that ran out, no more is said.
abbrev pub IsSolveEnd : Program → GivenAs → MethodNo → (limit : ℕ) → Failure SolveFault → Type 0
IsSolveEnd p gives entry limit (Cause (PairLimit n)) = (n ≡ limit) × HasAtLeast (Instance p gives entry) pair_of limit
IsSolveEnd p gives entry limit (Cause (Refused r)) = EndsRefused p gives entry limit r
IsSolveEnd p gives entry limit (Cause TooMany) = Unit {0}
IsSolveEnd p gives entry limit OutOfMemory = Unit {0}
