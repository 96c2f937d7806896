-- Public contracts rest on this module.
-- Resolution of references to methods and fields (JVMS 5.4.3.2, 5.4.3.3, 5.4.3.4).
use Rattle.std.specs.Prelude.{◌≡◌, ◌≢◌, ◌⊎◌, ℕ, ◌≤◌, Bool, false, List, [], ◌∷◌, ◌++◌, Option, Some, None, Result, Ok, Err, slice_get, MatchBool, IsTrue, if◌then◌else◌}
use Rattle.std.specs.Option.{option_to_list}
use Rattle.jvm_model.specs.declared.access.AccessFlag.TheVariants.{Static}
use Rattle.jvm_model.specs.declared.reason.Reason.{Reason}
use Rattle.jvm_model.specs.declared.reason.Reason.TheVariants.{MissingField, MissingMethod, NoStub, KindMismatch}
use Rattle.jvm_model.specs.Access.{has_flag}
use Rattle.jvm_model.specs.Lookups.{MemberReference, Signature}
use Rattle.jvm_model.specs.Programs.{Class, Method, Field, Program, is_public, is_private, is_static, is_abstract, object_name}
use Rattle.jvm_model.specs.Subtypes.{class_named, IsChain, IsProperSubtype, IsSuperinterface}

-- ---- methods that a class declares

-- The method of this number is declared in the class, and the fact holds of it.
pub record Declares (p : Program) (Is : ℕ → Method → Type 0) (class : List ℕ) (number : ℕ) : Type 0 where
  pub method : Method
  pub stands : slice_get p.methods number ≡ Some method
  pub of_class : method.class ≡ class
  pub is : Is number method

-- The method is one of the first class of the chain that declares such a method.
abbrev pub IsFirst : Program → (ℕ → Method → Type 0) → List Class → ℕ → Type 0
IsFirst p Is [] number = ⊥
IsFirst p Is (c ∷ chain) number =
    Declares p Is c.name number ⊎ (((other : ℕ) → Declares p Is c.name other → ⊥) × IsFirst p Is chain number)

-- The search begins at the class of a name, and goes through its superclasses.
pub record IsFound (p : Program) (start : List ℕ) (Is : ℕ → Method → Type 0) (number : ℕ) : Type 0 where
  pub chain : List Class
  pub of_start : IsChain p (Some start) chain
  pub first : IsFirst p Is chain number

-- The method has the name and the descriptor.
abbrev pub HasSignature : Signature → ℕ → Method → Type 0
HasSignature s number m = m.signature ≡ s

-- It is an instance method too.
abbrev pub IsInstanceWith : Signature → ℕ → Method → Type 0
IsInstanceWith s number m = (m.signature ≡ s) × (is_static m ≡ false)

-- It is a public instance method.
abbrev pub IsPublicWith : Signature → ℕ → Method → Type 0
IsPublicWith s number m = (m.signature ≡ s) × IsTrue (is_public m) × (is_static m ≡ false)

-- The interface declares such a method; or it does not, and java/lang/Object declares a public instance method of the name
-- and descriptor (JVMS 5.4.3.4).
pub data IsFoundInInterface (p : Program) (Is : ℕ → Method → Type 0) (s : Signature) (interface : List ℕ) (number : ℕ) : Type 0 where
  declared_there : Declares p Is interface number → IsFoundInInterface p Is s interface number
  of_object : ((other : ℕ) → Declares p Is interface other → ⊥) → Declares p (IsPublicWith s) object_name number → IsFoundInInterface p Is s interface number

-- The search in a class or an interface, before its superinterfaces.
abbrev pub IsFoundIn : Program → (ℕ → Method → Type 0) → Signature → Class → ℕ → Type 0
IsFoundIn p Is s c number = MatchBool c.is_interface (IsFoundInInterface p Is s c.name number) (IsFound p c.name Is number)

-- ---- methods of superinterfaces

-- The method is one of a superinterface, has the name and descriptor, and is neither private nor static.
pub record IsInherited (p : Program) (class : List ℕ) (s : Signature) (number : ℕ) : Type 0 where
  pub method : Method
  pub stands : slice_get p.methods number ≡ Some method
  pub above : IsSuperinterface p class method.class
  pub same_call : method.signature ≡ s
  pub visible : is_private method ≡ false
  pub instance : is_static method ≡ false

-- It is maximally specific: no other one is declared in a subinterface of its interface (JVMS 5.4.3.3).
pub record IsMostSpecific (p : Program) (class : List ℕ) (s : Signature) (number : ℕ) : Type 0 where
  pub inherited : IsInherited p class s number
  pub lowest : (other : ℕ) → (o : IsInherited p class s other) → IsProperSubtype p o.method.class inherited.method.class → ⊥

-- It is not abstract either.
pub record IsDefault (p : Program) (class : List ℕ) (s : Signature) (number : ℕ) : Type 0 where
  pub specific : IsMostSpecific p class s number
  pub concrete : is_abstract specific.inherited.method ≡ false

-- It is the only maximally specific one that is not abstract.
pub record IsOnlyDefault (p : Program) (class : List ℕ) (s : Signature) (number : ℕ) : Type 0 where
  pub default : IsDefault p class s number
  pub only : (other : ℕ) → IsDefault p class s other → other ≡ number

-- Of the methods of superinterfaces the one with the least number, which is that of the interface with the least name.
pub record IsLeastInherited (p : Program) (class : List ℕ) (s : Signature) (number : ℕ) : Type 0 where
  pub inherited : IsInherited p class s number
  pub least : (other : ℕ) → IsInherited p class s other → number ≤ other

-- ---- resolution of methods

-- The search from a class: what its own search finds; failing that, the only maximally specific method of its
-- superinterfaces that is not abstract; and failing that, any method of them.
pub data ResolvesFrom (p : Program) (class : List ℕ) (s : Signature) (Own : ℕ → Type 0) (number : ℕ) : Type 0 where
  itself : Own number → ResolvesFrom p class s Own number
  by_default : ((other : ℕ) → Own other → ⊥) → IsOnlyDefault p class s number → ResolvesFrom p class s Own number
  by_name : ((other : ℕ) → Own other → ⊥) → ((other : ℕ) → IsOnlyDefault p class s other → ⊥) → IsLeastInherited p class s number → ResolvesFrom p class s Own number

-- A reference to a method resolves to the method (JVMS 5.4.3.3, 5.4.3.4).
pub record Resolves (p : Program) (m : MemberReference) (number : ℕ) : Type 0 where
  pub class : Class
  pub named : class_named p m.class ≡ Some class
  pub search : ResolvesFrom p m.class m.signature (IsFoundIn p (HasSignature m.signature) m.signature class) number

-- Why a member is not found: the class that is named with it is one of the folder, or no stub describes the member.
abbrev pub missing : Class → Reason → Reason
missing c reason = if c.is_folder then reason else NoStub

-- What a reference gives that takes the class for an interface or not: the method, if the class is of that kind; or why none.
pub data MethodResolution (p : Program) (c : Class) (by_interface : Bool) (s : Signature) (outcome : Result ℕ Reason) : Type 0 where
  found : (number : ℕ) → Resolves p (record { class = c.name; signature = s }) number → c.is_interface ≡ by_interface → outcome ≡ Ok number → MethodResolution p c by_interface s outcome
  other_kind : (number : ℕ) → Resolves p (record { class = c.name; signature = s }) number → c.is_interface ≢ by_interface → outcome ≡ Err KindMismatch → MethodResolution p c by_interface s outcome
  not_found : ((number : ℕ) → Resolves p (record { class = c.name; signature = s }) number → ⊥) → outcome ≡ Err (missing c MissingMethod) → MethodResolution p c by_interface s outcome

-- ---- resolution of fields

pub record DeclaresField (p : Program) (s : Signature) (class : List ℕ) (number : ℕ) : Type 0 where
  pub field : Field
  pub stands : slice_get p.fields number ≡ Some field
  pub of_class : field.class ≡ class
  pub is : field.signature ≡ s

-- The search for a field: in the class; failing that in its superinterfaces, one after the other; and then in its superclass,
-- each searched in the same way (JVMS 5.4.3.2). It finds a field, or none.
mutual
  pub data FindsField (p : Program) (s : Signature) : List ℕ → Option ℕ → Type 0 where
    itself : (class : List ℕ) (number : ℕ) → DeclaresField p s class number → FindsField p s class (Some number)
    above : (class : List ℕ) (found : Option ℕ) (c : Class) → class_named p class ≡ Some c → ((other : ℕ) → DeclaresField p s class other → ⊥)
        → FindsAmong p s (c.interfaces ++ option_to_list c.super_class) found → FindsField p s class found

  pub data FindsAmong (p : Program) (s : Signature) : List (List ℕ) → Option ℕ → Type 0 where
    nowhere : FindsAmong p s [] None
    first : (class : List ℕ) (others : List (List ℕ)) (number : ℕ) → FindsField p s class (Some number) → FindsAmong p s (class ∷ others) (Some number)
    later : (class : List ℕ) (others : List (List ℕ)) (found : Option ℕ) → FindsField p s class None → FindsAmong p s others found → FindsAmong p s (class ∷ others) found

-- What a reference to a static field, or to an instance field, gives: the field, if it is one; or why none.
pub data FieldResolution (p : Program) (c : Class) (s : Signature) (wants_static : Bool) (outcome : Result ℕ Reason) : Type 0 where
  found : (number : ℕ) (field : Field) → FindsField p s c.name (Some number) → slice_get p.fields number ≡ Some field → has_flag field.flags Static ≡ wants_static
      → outcome ≡ Ok number → FieldResolution p c s wants_static outcome
  other_kind : (number : ℕ) (field : Field) → FindsField p s c.name (Some number) → slice_get p.fields number ≡ Some field → has_flag field.flags Static ≢ wants_static
      → outcome ≡ Err KindMismatch → FieldResolution p c s wants_static outcome
  not_found : FindsField p s c.name None → outcome ≡ Err (missing c MissingField) → FieldResolution p c s wants_static outcome
