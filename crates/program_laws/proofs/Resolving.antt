-- A reference to a method gives a method, or a reason.
use Rattle.std.proofs.Common.{◌≡◌, inl, inr, ℕ, Bool, true, false, List, Option, Some, None, Result, Ok, Err, refl, sym, ◌∙◌, subst}
use Rattle.std.proofs.lemmas.Bool.{true≢false, false≢true}
use Rattle.std.proofs.lemmas.Option.{none-some}
use Rattle.jvm_model.specs.declared.reason.Reason.{Reason}
use Rattle.jvm_model.specs.declared.reason.Reason.TheVariants.{MissingMethod, KindMismatch}
use Rattle.jvm_model.specs.LinkedPrograms.{IsProgram}
use Rattle.jvm_model.specs.Lookups.{MemberReference, Signature}
use Rattle.jvm_model.specs.Programs.{Class, Program}
use Rattle.jvm_model.specs.Resolution.{HasSignature, IsFoundIn, IsOnlyDefault, IsLeastInherited, ResolvesFrom, itself, by_default, by_name, Resolves, MethodResolution, found, other_kind, not_found, missing}
use Rattle.jvm_model.specs.Subtypes.{class_named}
use Rattle.program_laws.proofs.Chains.{one_class}
use Rattle.program_laws.proofs.Choices.{OrNot}
use Rattle.program_laws.proofs.Bounded.{SomeOrNone}
use Rattle.program_laws.proofs.Declaring.{with_or_not, found_in_or_none}
use Rattle.program_laws.proofs.Inheriting.{only_default_or_none, least_inherited_or_none}

-- ---- the search from a class

resolves_from_or_none : (p : Program) (class : List ℕ) (s : Signature) (Own : ℕ → Type 0) → SomeOrNone Own → SomeOrNone (ResolvesFrom p class s Own)
resolves_from_or_none p class s Own own = by own (only_default_or_none p class s) (least_inherited_or_none p class s)
  where
    neither : ((n : ℕ) → Own n → ⊥) → ((n : ℕ) → IsOnlyDefault p class s n → ⊥) → ((n : ℕ) → IsLeastInherited p class s n → ⊥) → (number : ℕ) → ResolvesFrom p class s Own number → ⊥
    neither none no_default no_least number (itself h) = none number h
    neither none no_default no_least number (by_default without h) = no_default number h
    neither none no_default no_least number (by_name without nor h) = no_least number h

    by : SomeOrNone Own → SomeOrNone (IsOnlyDefault p class s) → SomeOrNone (IsLeastInherited p class s) → SomeOrNone (ResolvesFrom p class s Own)
    by (inl h) d l = inl (h.0, itself h.1)
    by (inr none) (inl h) l = inl (h.0, by_default none h.1)
    by (inr none) (inr no_default) (inl h) = inl (h.0, by_name none no_default h.1)
    by (inr none) (inr no_default) (inr no_least) = inr (neither none no_default no_least)

-- ---- resolution

abbrev Searched : Program → MemberReference → Class → ℕ → Type 0
Searched p m class number = ResolvesFrom p m.class m.signature (IsFoundIn p (HasSignature m.signature) m.signature class) number

pub resolved_or_none : (p : Program) → IsProgram p → (m : MemberReference) → SomeOrNone (Resolves p m)
resolved_or_none p program m = by (class_named p m.class) refl
  where
    of : (c : Class) → class_named p m.class ≡ Some c → SomeOrNone (Searched p m c) → SomeOrNone (Resolves p m)
    of c named (inl h) = inl (h.0, record { class = c; named = named; search = h.1 })
    of c named (inr none) =
        inr (λ number r. none number (subst (λ (d : Class). Searched p m d number) (one_class p m.class r.class c r.named named) r.search))

    by : (o : Option Class) → class_named p m.class ≡ o → SomeOrNone (Resolves p m)
    by None e = inr (λ number r. none-some r.class (sym e ∙ r.named))
    by (Some c) e =
        of c e (resolves_from_or_none p m.class m.signature (IsFoundIn p (HasSignature m.signature) m.signature c)
        (found_in_or_none p program (HasSignature m.signature) (with_or_not m.signature) m.signature c))

-- ---- what a reference gives

pub same_kind_or_not : (a b : Bool) → OrNot (a ≡ b)
same_kind_or_not true true = inl refl
same_kind_or_not true false = inr true≢false
same_kind_or_not false true = inr false≢true
same_kind_or_not false false = inl refl

-- the outcome of a reference to a method
abbrev Outcome : Program → Class → Bool → Signature → Type 0
Outcome p c by_interface s = (outcome : Result ℕ Reason) × MethodResolution p c by_interface s outcome

pub method_outcome : (p : Program) (c : Class) (by_interface : Bool) (s : Signature) → IsProgram p → Outcome p c by_interface s
method_outcome p c by_interface s program = by (resolved_or_none p program (record { class = c.name; signature = s })) (same_kind_or_not c.is_interface by_interface)
  where
    by : SomeOrNone (Resolves p (record { class = c.name; signature = s })) → OrNot (c.is_interface ≡ by_interface) → Outcome p c by_interface s
    by (inl h) (inl kind) = (Ok h.0, found h.0 h.1 kind refl)
    by (inl h) (inr differs) = (Err KindMismatch, other_kind h.0 h.1 differs refl)
    by (inr none) kind = (Err (missing c MissingMethod), not_found none refl)
