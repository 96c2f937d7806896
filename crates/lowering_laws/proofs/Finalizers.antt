-- Whether a class has a finalizer, in itself or in a superclass of the folder, is decided.
use Rattle.std.proofs.Common.{◌≡◌, ◌⊎◌, inl, inr, ℕ, List, Some, subst}
use Rattle.std.specs.Prelude.{IsTrue, Contains}
use Rattle.jvm_model.specs.LinkedPrograms.{IsProgram}
use Rattle.jvm_model.specs.Programs.{Class, Program}
use Rattle.jvm_model.specs.Resolution.{Declares}
use Rattle.jvm_model.specs.Subtypes.{IsChain}
use Rattle.jvm_model.specs.Table.{make_object}
use Rattle.lowering_reasons.specs.Reasons.{Judged, Names, finalizers, IsFinalizer, HasFinalizer, MakesFinalized}
use Rattle.program_laws.proofs.Chains.{one_chain}
use Rattle.program_laws.proofs.Choices.{OrNot, carried_over, either_or_not, both_or_not, same_or_not, true_or_not, some_or_not}
use Rattle.program_laws.proofs.Bounded.{SomeOrNone}
use Rattle.program_laws.proofs.Declaring.{declared_or_none}
use Rattle.program_laws.proofs.Ranks.{chain_or_none}
use Rattle.lowering_laws.proofs.Equality.{action_or_not, listed_or_not}
use Rattle.lowering_laws.proofs.Looking.{named_class}
use Rattle.lowering_laws.proofs.Only.{such_or_not}

-- the class is this one or one of the folder, and declares a finalizer
abbrev Finalizes : Program → List ℕ → Class → Type 0
Finalizes p class c = ((c.name ≡ class) ⊎ IsTrue c.is_folder) × ((n : ℕ) × Declares p IsFinalizer c.name n)

declares_finalizer_or_not : (p : Program) (class : List ℕ) → OrNot ((n : ℕ) × Declares p IsFinalizer class n)
declares_finalizer_or_not p class = by (declared_or_none p IsFinalizer (λ n m. listed_or_not finalizers m.signature) class)
  where
    by : SomeOrNone (Declares p IsFinalizer class) → OrNot ((n : ℕ) × Declares p IsFinalizer class n)
    by (inl h) = inl h
    by (inr none) = inr (λ h. none h.0 h.1)

finalizes_or_not : (p : Program) (class : List ℕ) (c : Class) → OrNot (Finalizes p class c)
finalizes_or_not p class c = both_or_not (either_or_not (same_or_not c.name class) (true_or_not c.is_folder)) (λ h. declares_finalizer_or_not p c.name)

abbrev FinalizesIn : Program → List ℕ → List Class → Type 0
FinalizesIn p class chain = (c : Class) × Contains chain c × Finalizes p class c

pub finalizer_or_not : (p : Program) → IsProgram p → (class : List ℕ) → OrNot (HasFinalizer p class)
finalizer_or_not p program class = by (chain_or_none p program class)
  where
    to : (chain : List Class) → IsChain p (Some class) chain → FinalizesIn p class chain → HasFinalizer p class
    to chain of h = record { chain = chain; of_class = of; owner = h.0; above = h.1; own = h.2.0; number = h.2.1.0; declares = h.2.1.1 }

    back : (chain : List Class) → IsChain p (Some class) chain → HasFinalizer p class → FinalizesIn p class chain
    back chain of f = (f.owner, subst (λ (x : List Class). Contains x f.owner) (one_chain p (Some class) f.chain chain f.of_class of) f.above, (f.own, (f.number, f.declares)))

    by : ((chain : List Class) × IsChain p (Some class) chain) ⊎ ((chain : List Class) → IsChain p (Some class) chain → ⊥) → OrNot (HasFinalizer p class)
    by (inl h) = carried_over (to h.0 h.1) (back h.0 h.1) (some_or_not (Finalizes p class) (finalizes_or_not p class) h.0)
    by (inr none) = inr (λ f. none f.chain f.of_class)

pub makes_finalized_or_not : (j : Judged) → IsProgram j.program → OrNot (MakesFinalized j)
makes_finalized_or_not j program =
    carried_over (λ h. record { makes = h.0; class = h.1.one; names = h.1.first; has = h.1.second })
    (λ m. (m.makes, record { one = m.class; first = m.names; second = m.has }))
    (both_or_not (action_or_not j.action make_object) (λ e. such_or_not (Names j) (HasFinalizer j.program) (named_class j) (finalizer_or_not j.program program)))
