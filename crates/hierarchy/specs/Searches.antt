-- Only the proofs of this crate rest on this module.
-- What searches for methods and fields give, and what they pass.
use Rattle.std.specs.Prelude.{◌≡◌, ◌≢◌, ◌⊎◌, ℕ, ◌≤◌, Bool, true, false, List, [], ◌∷◌, Option, Some, None, slice_get, Contains, IsTrue}
use Rattle.jvm_model.specs.Lookups.{Signature}
use Rattle.jvm_model.specs.Programs.{Class, Method, Program, is_private, is_static, is_abstract}
use Rattle.jvm_model.specs.Resolution.{Declares, DeclaresField, FindsAmong, HasSignature, IsInstanceWith, IsFoundIn, IsInherited, IsDefault, IsOnlyDefault}
use Rattle.jvm_model.specs.Selection.{Selects, SelectsFrom, Clashes, package_of}
use Rattle.jvm_model.specs.Subtypes.{class_named, IsChain, IsProperSubtype}
use Rattle.jvm_model.specs.declared.number.ClassNo.{ClassNo}
use Rattle.jvm_model.specs.declared.number.FieldNo.{FieldNo}
use Rattle.jvm_model.specs.declared.number.MethodNo.{MethodNo}
use Rattle.program_model.specs.Numbers.{IsFieldNumber}
use Rattle.program_model.specs.Whole.{IsThroughInterface}
use Rattle.hierarchy.specs.declared.choice.Choice.{Choice}
use Rattle.hierarchy.specs.declared.choice.Choice.TheVariants.{Nothing, One, Several}

-- The method, if there is one, has a number of which the fact holds; there is none only where it holds of none.
abbrev pub Finds : (ℕ → Type 0) → Option MethodNo → Type 0
Finds Q (Some method) = Q method.0
Finds Q None = (number : ℕ) → Q number → ⊥

-- The number is that of the method, if there is one.
abbrev pub IsNumberOf : Option MethodNo → ℕ → Type 0
IsNumberOf (Some method) number = method.0 ≡ number
IsNumberOf None number = ⊥

-- The method has the least number of which the fact holds; there is none only where it holds of none.
abbrev pub IsLeast : (ℕ → Type 0) → Option MethodNo → Type 0
IsLeast Q (Some method) = Q method.0 × ((other : ℕ) → Q other → method.0 ≤ other)
IsLeast Q None = (number : ℕ) → Q number → ⊥

-- ---- methods that a class declares

-- The method has the signature, and is one that is looked for.
abbrev pub IsSuch : Signature → (ℕ → Method → Type 0) → ℕ → Method → Type 0
IsSuch s Takes number m = (m.signature ≡ s) × Takes number m

-- The method of the number is there, and has the signature.
pub record HasOwnSignature (p : Program) (s : Signature) (number : ℕ) : Type 0 where
  pub method : Method
  pub stands : slice_get p.methods number ≡ Some method
  pub same_call : method.signature ≡ s

-- ---- methods of superinterfaces

-- Subtypes inherit the method of an interface, since it is neither private nor static; and it is one that is looked for.
abbrev pub IsInheritable : (ℕ → Method → Type 0) → ℕ → Method → Type 0
IsInheritable Takes number m = (is_private m ≡ false) × (is_static m ≡ false) × Takes number m

-- The interface of a number declares such a method of the signature (JVMS 5.4.3.3).
pub record IsOffered (p : Program) (s : Signature) (Takes : ℕ → Method → Type 0) (interface number : ℕ) : Type 0 where
  pub class : Class
  pub at : slice_get p.classes interface ≡ Some class
  pub kind : IsTrue class.is_interface
  pub declares : Declares p (IsSuch s (IsInheritable Takes)) class.name number

-- A supertype of the class through one of its superinterfaces does.
pub record OffersThrough (p : Program) (s : Signature) (Takes : ℕ → Method → Type 0) (c : Class) (number : ℕ) : Type 0 where
  pub interface : ℕ
  pub through : IsThroughInterface p c interface
  pub offered : IsOffered p s Takes interface number

-- The class inherits the method from a superinterface, and it is one that is looked for.
pub record InheritsSuch (p : Program) (class : List ℕ) (s : Signature) (Takes : ℕ → Method → Type 0) (number : ℕ) : Type 0 where
  pub inherited : IsInherited p class s number
  pub taken : Takes number inherited.method

-- No method of the signature that the class inherits is declared in a subtype of the class of a name.
abbrev pub InheritsNoneBelow : Program → List ℕ → Signature → List ℕ → Type 0
InheritsNoneBelow p class s upper = (other : ℕ) → InheritsSuch p class s (λ n o. IsProperSubtype p o.class upper) other → ⊥

-- The method is not abstract, and no method that the class inherits is declared in a subtype of its class.
abbrev pub IsLowestConcrete : Program → List ℕ → Signature → Method → Type 0
IsLowestConcrete p class s m = (is_abstract m ≡ false) × InheritsNoneBelow p class s m.class

-- It is not the one that is left out, either.
abbrev pub IsOtherDefault : Program → List ℕ → Signature → Option MethodNo → ℕ → Method → Type 0
IsOtherDefault p class s except number m = (except ≢ Some (record { 0 = number })) × IsLowestConcrete p class s m

-- ---- answers

-- Two methods of superinterfaces are maximally specific and not abstract.
pub record HasTwoDefaults (p : Program) (class : List ℕ) (s : Signature) : Type 0 where
  pub first : ℕ
  pub second : ℕ
  pub first_default : IsDefault p class s first
  pub second_default : IsDefault p class s second
  pub differ : first ≢ second

-- Which methods of superinterfaces are maximally specific and not abstract: none, one, or more.
abbrev pub AreDefaults : Program → List ℕ → Signature → Choice → Type 0
AreDefaults p class s Nothing = (number : ℕ) → IsDefault p class s number → ⊥
AreDefaults p class s (One method) = IsOnlyDefault p class s method.0
AreDefaults p class s Several = HasTwoDefaults p class s

-- A call of a resolved method on an object of the class goes nowhere, and not for a clash.
pub record SelectsNothing (p : Program) (by_interface : Bool) (class : List ℕ) (resolved : ℕ) : Type 0 where
  pub none : (target : ℕ) → Selects p by_interface class resolved target → ⊥
  pub no_clash : Clashes p by_interface class resolved → ⊥

-- Where a call of a resolved method on an object of the class goes: nowhere, to one method, or to none for a clash.
abbrev pub IsChosen : Program → Bool → List ℕ → ℕ → Choice → Type 0
IsChosen p by_interface class resolved Nothing = SelectsNothing p by_interface class resolved
IsChosen p by_interface class resolved (One target) = Selects p by_interface class resolved target.0
IsChosen p by_interface class resolved Several = Clashes p by_interface class resolved

-- ---- chains of superclasses

-- The second name is that of the class of the first, or of one of its superclasses.
pub record IsReachedUpward (p : Program) (start name : List ℕ) : Type 0 where
  pub chain : List Class
  pub of_start : IsChain p (Some start) chain
  pub above : Class
  pub stands : Contains chain above
  pub named : above.name ≡ name

-- A class has a method of the signature, and is in another package than the owner.
pub record Hides (p : Program) (owner : List ℕ) (s : Signature) (class : List ℕ) : Type 0 where
  pub number : ℕ
  pub declares : Declares p (HasSignature s) class number
  pub other_package : package_of class ≢ package_of owner

-- Before the owner, the chain has a class that has a method of the signature, and is in another package.
abbrev pub HidesAlong : Program → List ℕ → Signature → List Class → Type 0
HidesAlong p owner s [] = ⊥
HidesAlong p owner s (c ∷ chain) = (c.name ≢ owner) × (Hides p owner s c.name ⊎ HidesAlong p owner s chain)

-- From the class of a name upward, and below the owner, a class hides a method of the signature.
pub record IsHidden (p : Program) (start owner : List ℕ) (s : Signature) : Type 0 where
  pub chain : List Class
  pub of_start : IsChain p (Some start) chain
  pub hides : HidesAlong p owner s chain

-- What a class answers to whether a method of the owner is hidden: it is, by this class; it is not, since this is the owner; or
-- neither, and the search goes on.
abbrev pub AnswersHidden : Program → List ℕ → Signature → Class → Option Bool → Type 0
AnswersHidden p owner s c (Some true) = (c.name ≢ owner) × Hides p owner s c.name
AnswersHidden p owner s c (Some false) = c.name ≡ owner
AnswersHidden p owner s c None = (c.name ≢ owner) × (Hides p owner s c.name → ⊥)

-- What a class answers to whether it is the one of a name: that it is, or nothing.
abbrev pub AnswersNamed : List ℕ → Class → Option ClassNo → Type 0
AnswersNamed name c (Some number) = c.name ≡ name
AnswersNamed name c None = c.name ≢ name

-- ---- fields

-- A field that is found, as a plain number.
abbrev pub plain_field : Option FieldNo → Option ℕ
plain_field (Some field) = Some field.0
plain_field None = None

-- The class declares no field of the signature.
abbrev pub DeclaresNoField : Program → Signature → Class → Type 0
DeclaresNoField p s c = (number : ℕ) → DeclaresField p s c.name number → ⊥

-- What the search for a field finds in a class and in its superinterfaces, before it goes on to the superclass.
abbrev pub FindsBelow : Program → Signature → Class → Option FieldNo → Type 0
FindsBelow p s c (Some field) = (DeclaresField p s c.name field.0 ⊎ (DeclaresNoField p s c × FindsAmong p s c.interfaces (Some field.0))) × IsFieldNumber p field.0
FindsBelow p s c None = DeclaresNoField p s c × FindsAmong p s c.interfaces None

-- ---- special calls

-- The method is the first instance method of the signature that the search in the class of a name finds, or the only maximally
-- specific method of its superinterfaces that is not abstract.
pub record SelectsInstance (p : Program) (start : List ℕ) (s : Signature) (target : ℕ) : Type 0 where
  pub class : Class
  pub named : class_named p start ≡ Some class
  pub chosen : SelectsFrom p start s (IsFoundIn p (IsInstanceWith s) s class) target
