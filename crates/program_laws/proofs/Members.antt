-- A class has one method, and one field, of a name and descriptor; so what is the first in a chain of superclasses is one.
use Rattle.std.proofs.Common.{◌≡◌, ℕ, Bool, true, false, List, [], ◌∷◌, Some, sym, ◌∙◌, subst, inl, inr}
use Rattle.std.specs.Bool.{MatchBool}
use Rattle.std.specs.List.{slice_get}
use Rattle.jvm_model.specs.Lookups.{Signature}
use Rattle.jvm_model.specs.Programs.{Class, Method, Program, object_name}
use Rattle.jvm_model.specs.Resolution.{Declares, IsFirst, IsFound, HasSignature, IsInstanceWith, IsPublicWith, IsFoundInInterface, declared_there, of_object, IsFoundIn, DeclaresField}
use Rattle.jvm_model.specs.LinkedPrograms.{IsProgram}
use Rattle.program_laws.proofs.Chains.{one_chain}

-- each class declares at most one such method
pub record IsAlone (p : Program) (Is : ℕ → Method → Type 0) : Type 0 where
  pub one : (class : List ℕ) (i j : ℕ) → Declares p Is class i → Declares p Is class j → i ≡ j

-- such a method of the program has this name and descriptor
pub record HasCall (p : Program) (Is : ℕ → Method → Type 0) (s : Signature) : Type 0 where
  pub call : (number : ℕ) (m : Method) → slice_get p.methods number ≡ Some m → Is number m → m.signature ≡ s

pub alone : (p : Program) (Is : ℕ → Method → Type 0) (s : Signature) → IsProgram p → HasCall p Is s → IsAlone p Is
alone p Is s program has =
    record {
      one = λ class i j x y.
          program.members.methods i j x.method y.method x.stands y.stands (x.of_class ∙ sym y.of_class)
          (has.call i x.method x.stands x.is ∙ sym (has.call j y.method y.stands y.is));
    }

pub alone_with : (p : Program) (s : Signature) → IsProgram p → IsAlone p (HasSignature s)
alone_with p s program = alone p (HasSignature s) s program (record { call = λ number m stands is. is })

pub alone_instance : (p : Program) (s : Signature) → IsProgram p → IsAlone p (IsInstanceWith s)
alone_instance p s program = alone p (IsInstanceWith s) s program (record { call = λ number m stands is. is.0 })

alone_public : (p : Program) (s : Signature) → IsProgram p → IsAlone p (IsPublicWith s)
alone_public p s program = alone p (IsPublicWith s) s program (record { call = λ number m stands is. is.0 })

pub one_field : (p : Program) (s : Signature) (class : List ℕ) (i j : ℕ) → IsProgram p → DeclaresField p s class i → DeclaresField p s class j → i ≡ j
one_field p s class i j program x y = program.members.fields i j x.field y.field x.stands y.stands (x.of_class ∙ sym y.of_class) (x.is ∙ sym y.is)

-- ---- the search in a class

one_first : (p : Program) (Is : ℕ → Method → Type 0) (chain : List Class) (i j : ℕ) → IsAlone p Is → IsFirst p Is chain i → IsFirst p Is chain j → i ≡ j
one_first p Is [] i j only x y = absurd x
one_first p Is (c ∷ chain) i j only (inl x) (inl y) = only.one c.name i j x y
one_first p Is (c ∷ chain) i j only (inl x) (inr y) = absurd (y.0 i x)
one_first p Is (c ∷ chain) i j only (inr x) (inl y) = absurd (x.0 j y)
one_first p Is (c ∷ chain) i j only (inr x) (inr y) = one_first p Is chain i j only x.1 y.1

pub one_found : (p : Program) (start : List ℕ) (Is : ℕ → Method → Type 0) (i j : ℕ) → IsAlone p Is → IsFound p start Is i → IsFound p start Is j → i ≡ j
one_found p start Is i j only x y =
    let first : IsFirst p Is x.chain j = subst (λ (chain : List Class). IsFirst p Is chain j) (one_chain p (Some start) y.chain x.chain y.of_start x.of_start) y.first in
    one_first p Is x.chain i j only x.first first

one_in_interface : (p : Program) (Is : ℕ → Method → Type 0) (s : Signature) (name : List ℕ) (i j : ℕ) → IsProgram p → IsAlone p Is
    → IsFoundInInterface p Is s name i → IsFoundInInterface p Is s name j → i ≡ j
one_in_interface p Is s name i j program only (declared_there x) (declared_there y) = only.one name i j x y
one_in_interface p Is s name i j program only (declared_there x) (of_object none y) = absurd (none i x)
one_in_interface p Is s name i j program only (of_object none x) (declared_there y) = absurd (none j y)
one_in_interface p Is s name i j program only (of_object none x) (of_object none2 y) = (alone_public p s program).one object_name i j x y

one_by_kind : (p : Program) (Is : ℕ → Method → Type 0) (s : Signature) (name : List ℕ) (is_interface : Bool) (i j : ℕ) → IsProgram p → IsAlone p Is
    → MatchBool is_interface (IsFoundInInterface p Is s name i) (IsFound p name Is i) → MatchBool is_interface (IsFoundInInterface p Is s name j) (IsFound p name Is j) → i ≡ j
one_by_kind p Is s name true i j program only x y = one_in_interface p Is s name i j program only x y
one_by_kind p Is s name false i j program only x y = one_found p name Is i j only x y

-- the search in a class or an interface finds one method
pub one_found_in : (p : Program) (Is : ℕ → Method → Type 0) (s : Signature) (c : Class) (i j : ℕ) → IsProgram p → IsAlone p Is
    → IsFoundIn p Is s c i → IsFoundIn p Is s c j → i ≡ j
one_found_in p Is s c i j program only x y = one_by_kind p Is s c.name c.is_interface i j program only x y
