-- What the methods of a program are given as is a map.
use Rattle.std.proofs.Common.{◌≡◌, inl, inr, ℕ, Option, Some, None, Result, ap, subst}
use Rattle.std.proofs.lemmas.Option.{same_Some, none-some}
use Rattle.jvm_model.specs.declared.reason.Refusal.{Refusal}
use Rattle.jvm_model.specs.LinkedPrograms.{IsProgram}
use Rattle.jvm_model.specs.Programs.{Program}
use Rattle.op_model.specs.declared.lowered.LoweredMethod.{LoweredMethod}
use Rattle.op_model.specs.Supplies.{Given, IsMapOf}
use Rattle.lowering_supply.specs.OneAnswer.{one_answer}
use Rattle.lowering_supply.specs.Supplied.{IsSupplied}
use Rattle.lowering_supply.proofs.CodedMethods.{IsCodedOrNot, coded_or_not}
use Rattle.lowering_supply.proofs.EachAnswer.{each_answer}

module _ (p : Program) (program : IsProgram p) (number : ℕ) where
  abbrev chosen : IsCodedOrNot p number → Option (Result LoweredMethod Refusal)
  chosen (inl m) = Some (each_answer p number program m).0
  chosen (inr none) = None

  given_as : (d : IsCodedOrNot p number) (answer : Result LoweredMethod Refusal) → chosen d ≡ Some answer → IsSupplied p number answer
  given_as (inl m) answer is = let a = each_answer p number program m in subst (IsSupplied p number) (same_Some a.0 answer is) a.1
  given_as (inr none) answer is = absurd (none-some answer is)

  has_entry : (d : IsCodedOrNot p number) (answer : Result LoweredMethod Refusal) → IsSupplied p number answer → chosen d ≡ Some answer
  has_entry (inl m) answer is = let a = each_answer p number program m in ap (λ (x : Result LoweredMethod Refusal). Some x) (one_answer p number a.0 answer a.1 is)
  has_entry (inr none) answer is = absurd (none is.coded)

pub is_map : (p : Program) → IsProgram p → (given : Given) × IsMapOf given (IsSupplied p)
is_map p program = (
  λ number. chosen p program number (coded_or_not p program number),
  record {
    entries = λ number answer. (given_as p program number (coded_or_not p program number) answer, has_entry p program number (coded_or_not p program number) answer);
  },
)
