-- Whether a class declares a method of a kind is decided, and so is what a search up the superclasses finds.
use Rattle.std.proofs.Common.{◌≡◌, ◌⊎◌, inl, inr, ℕ, Bool, true, false, List, [], ◌∷◌, length, Some, refl, ap, subst}
use Rattle.std.specs.Bool.{MatchBool}
use Rattle.std.specs.List.{slice_get}
use Rattle.std.proofs.lemmas.Bool.{true≢false}
use Rattle.std.proofs.lemmas.Option.{slice_get_within}
use Rattle.jvm_model.specs.LinkedPrograms.{IsProgram}
use Rattle.jvm_model.specs.Lookups.{Signature}
use Rattle.jvm_model.specs.Programs.{Class, Method, Program, is_public, is_static, object_name}
use Rattle.jvm_model.specs.Resolution.{Declares, IsFirst, IsFound, HasSignature, IsInstanceWith, IsPublicWith, IsFoundInInterface, declared_there, of_object, IsFoundIn}
use Rattle.jvm_model.specs.Subtypes.{IsChain}
use Rattle.program_laws.proofs.Chains.{one_chain}
use Rattle.program_laws.proofs.Choices.{OrNot, carried_over, both_or_not, same_or_not, true_or_not, held_or_not}
use Rattle.program_laws.proofs.Bounded.{SomeOrNone, some_or_none}
use Rattle.program_laws.proofs.Ranks.{chain_or_none}

-- it is decided of each method, by its number
abbrev pub IsDecided : (ℕ → Method → Type 0) → Type 0
IsDecided Is = (number : ℕ) (m : Method) → OrNot (Is number m)

-- ---- kinds of methods

pub false_or_not : (b : Bool) → OrNot (b ≡ false)
false_or_not true = inr true≢false
false_or_not false = inl refl

pub signature_or_not : (s t : Signature) → OrNot (s ≡ t)
signature_or_not s t = carried_over to back (both_or_not (same_or_not s.name t.name) (λ e. same_or_not s.descriptor t.descriptor))
  where
    to : (s.name ≡ t.name) × (s.descriptor ≡ t.descriptor) → s ≡ t
    to h = λ i. record { name = h.0 i; descriptor = h.1 i }

    back : s ≡ t → (s.name ≡ t.name) × (s.descriptor ≡ t.descriptor)
    back e = (ap (λ (u : Signature). u.name) e, ap (λ (u : Signature). u.descriptor) e)

pub with_or_not : (s : Signature) → IsDecided (HasSignature s)
with_or_not s number m = signature_or_not m.signature s

pub instance_or_not : (s : Signature) → IsDecided (IsInstanceWith s)
instance_or_not s number m = both_or_not (signature_or_not m.signature s) (λ e. false_or_not (is_static m))

public_or_not : (s : Signature) → IsDecided (IsPublicWith s)
public_or_not s number m =
    carried_over (λ h. (h.0, h.1.0, h.1.1)) (λ h. (h.0, (h.1, h.2)))
    (both_or_not (signature_or_not m.signature s) (λ e. both_or_not (true_or_not (is_public m)) (λ t. false_or_not (is_static m))))

-- ---- what a class declares

abbrev DeclaredBy : Program → (ℕ → Method → Type 0) → List ℕ → ℕ → Type 0
DeclaredBy p Is class number = (m : Method) × (slice_get p.methods number ≡ Some m) × ((m.class ≡ class) × Is number m)

declares_or_not : (p : Program) (Is : ℕ → Method → Type 0) → IsDecided Is → (class : List ℕ) (number : ℕ) → OrNot (Declares p Is class number)
declares_or_not p Is choose class number =
    carried_over to back (held_or_not (λ (m : Method). (m.class ≡ class) × Is number m) (λ m. both_or_not (same_or_not m.class class) (λ e. choose number m)) (slice_get p.methods number))
  where
    to : DeclaredBy p Is class number → Declares p Is class number
    to h = record { method = h.0; stands = h.1; of_class = h.2.0; is = h.2.1 }

    back : Declares p Is class number → DeclaredBy p Is class number
    back d = (d.method, d.stands, (d.of_class, d.is))

pub declared_or_none : (p : Program) (Is : ℕ → Method → Type 0) → IsDecided Is → (class : List ℕ) → SomeOrNone (Declares p Is class)
declared_or_none p Is choose class =
    some_or_none (Declares p Is class) (declares_or_not p Is choose class) (length p.methods)
    (λ number d. slice_get_within p.methods number d.method d.stands)

-- ---- the search up the superclasses

first_or_none : (p : Program) (Is : ℕ → Method → Type 0) → IsDecided Is → (chain : List Class) → SomeOrNone (IsFirst p Is chain)
first_or_none p Is choose [] = inr (λ number h. h)
first_or_none p Is choose (c ∷ chain) = by (declared_or_none p Is choose c.name) (first_or_none p Is choose chain)
  where
    neither : ((number : ℕ) → Declares p Is c.name number → ⊥) → ((number : ℕ) → IsFirst p Is chain number → ⊥) → (number : ℕ) → IsFirst p Is (c ∷ chain) number → ⊥
    neither none nor number (inl h) = none number h
    neither none nor number (inr h) = nor number h.1

    by : SomeOrNone (Declares p Is c.name) → SomeOrNone (IsFirst p Is chain) → SomeOrNone (IsFirst p Is (c ∷ chain))
    by (inl h) rest = inl (h.0, inl h.1)
    by (inr none) (inl h) = inl (h.0, inr (none, h.1))
    by (inr none) (inr nor) = inr (neither none nor)

pub found_or_none : (p : Program) → IsProgram p → (start : List ℕ) (Is : ℕ → Method → Type 0) → IsDecided Is → SomeOrNone (IsFound p start Is)
found_or_none p program start Is choose = by (chain_or_none p program start)
  where
    along : (chain : List Class) → IsChain p (Some start) chain → SomeOrNone (IsFirst p Is chain) → SomeOrNone (IsFound p start Is)
    along chain of (inl h) = inl (h.0, record { chain = chain; of_start = of; first = h.1 })
    along chain of (inr none) =
        inr (λ number f. none number (subst (λ (x : List Class). IsFirst p Is x number) (one_chain p (Some start) f.chain chain f.of_start of) f.first))

    by : ((chain : List Class) × IsChain p (Some start) chain) ⊎ ((chain : List Class) → IsChain p (Some start) chain → ⊥) → SomeOrNone (IsFound p start Is)
    by (inl h) = along h.0 h.1 (first_or_none p Is choose h.0)
    by (inr none) = inr (λ number f. none f.chain f.of_start)

-- ---- the search in a class or an interface

in_interface_or_none : (p : Program) (Is : ℕ → Method → Type 0) → IsDecided Is → (s : Signature) (name : List ℕ) → SomeOrNone (IsFoundInInterface p Is s name)
in_interface_or_none p Is choose s name = by (declared_or_none p Is choose name) (declared_or_none p (IsPublicWith s) (public_or_not s) object_name)
  where
    neither : ((number : ℕ) → Declares p Is name number → ⊥) → ((number : ℕ) → Declares p (IsPublicWith s) object_name number → ⊥)
        → (number : ℕ) → IsFoundInInterface p Is s name number → ⊥
    neither none nor number (declared_there d) = none number d
    neither none nor number (of_object without d) = nor number d

    by : SomeOrNone (Declares p Is name) → SomeOrNone (Declares p (IsPublicWith s) object_name) → SomeOrNone (IsFoundInInterface p Is s name)
    by (inl h) rest = inl (h.0, declared_there h.1)
    by (inr none) (inl h) = inl (h.0, of_object none h.1)
    by (inr none) (inr nor) = inr (neither none nor)

by_kind_or_none : (p : Program) → IsProgram p → (Is : ℕ → Method → Type 0) → IsDecided Is → (s : Signature) (name : List ℕ) (is_interface : Bool)
    → SomeOrNone (λ number. MatchBool is_interface (IsFoundInInterface p Is s name number) (IsFound p name Is number))
by_kind_or_none p program Is choose s name true = in_interface_or_none p Is choose s name
by_kind_or_none p program Is choose s name false = found_or_none p program name Is choose

pub found_in_or_none : (p : Program) → IsProgram p → (Is : ℕ → Method → Type 0) → IsDecided Is → (s : Signature) (c : Class) → SomeOrNone (IsFoundIn p Is s c)
found_in_or_none p program Is choose s c = by_kind_or_none p program Is choose s c.name c.is_interface
