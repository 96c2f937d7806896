-- Public contracts rest on this module.
-- The method that a call goes to: overriding and selection (JVMS 5.4.5, 6.5.invokevirtual, 6.5.invokeinterface), and the
-- target of a special call (6.5.invokespecial).
use Rattle.std.specs.Prelude.{codes, ◌≡◌, ◌≢◌, ◌⊎◌, ℕ, Bool, true, false, ◌&&◌, not, ◌==◌, List, [], ◌∷◌, Some, Result, Ok, Err, slice_get, Contains, MatchBool, IsTrue, if◌then◌else◌}
use Rattle.std.specs.List.{list_any}
use Rattle.jvm_model.specs.declared.access.AccessFlag.TheVariants.{Public, Private, Protected}
use Rattle.jvm_model.specs.declared.reason.Reason.{Reason}
use Rattle.jvm_model.specs.declared.reason.Reason.TheVariants.{NoImplementation, ClashingDefaults, PackageOverride}
use Rattle.jvm_model.specs.Access.{has_flag}
use Rattle.jvm_model.specs.Lookups.{MemberReference, Signature}
use Rattle.jvm_model.specs.Programs.{Class, Method, Program, is_private, is_static, is_abstract}
use Rattle.jvm_model.specs.Resolution.{Declares, HasSignature, IsInstanceWith, IsFound, IsFoundIn, IsDefault, IsOnlyDefault}
use Rattle.jvm_model.specs.Subtypes.{class_named, IsChain, IsProperSubtype}

abbrev pub IsInstance : Method → Type 0
IsInstance m = is_static m ≡ false

-- The package of a class: its name up to the last slash.
abbrev pub package_of : List ℕ → List ℕ
package_of [] = []
package_of (b ∷ rest) = if list_any (λ c. c == 47) (b ∷ rest) then b ∷ package_of rest else []

-- The method may be overridden in the class of another one: it is public or protected, or has no such flag, is
-- not private, and its class is in the same package.
abbrev pub IsOverridable : Method → List ℕ → Type 0
IsOverridable m class =
    IsTrue (has_flag m.flags Public) ⊎ IsTrue (has_flag m.flags Protected)
    ⊎ ((has_flag m.flags Private ≡ false) × (package_of m.class ≡ package_of class))

-- A method overrides another (JVMS 5.4.5).
pub record Overrides (p : Program) (m other : Method) : Type 0 where
  pub visible : is_private m ≡ false
  pub same_call : m.signature ≡ other.signature
  pub below : IsProperSubtype p m.class other.class
  pub overridable : IsOverridable other m.class

-- ---- selection

-- The method may be the target of a call of a resolved one: an instance method that is it or overrides it; at a call of an
-- interface's method, one of its name and descriptor.
abbrev pub IsSelectable : Program → Bool → ℕ → Method → ℕ → Method → Type 0
IsSelectable p true resolved method number m = IsInstanceWith method.signature number m
IsSelectable p false resolved method number m = IsInstance m × ((number ≡ resolved) ⊎ Overrides p m method)

-- What is found upward; and failing that, the only maximally specific method of the superinterfaces that is not abstract.
pub data SelectsFrom (p : Program) (class : List ℕ) (s : Signature) (Own : ℕ → Type 0) (target : ℕ) : Type 0 where
  upward : Own target → SelectsFrom p class s Own target
  by_default : ((other : ℕ) → Own other → ⊥) → IsOnlyDefault p class s target → SelectsFrom p class s Own target

-- The method is private, and the call is none of an interface's method: it is then selected itself.
abbrev pub is_direct : Bool → Method → Bool
is_direct by_interface m = not by_interface && is_private m

-- A call of a resolved method on an object of a class goes to the target: from the class upward to the first method that
-- may be the target.
pub record Selects (p : Program) (by_interface : Bool) (class : List ℕ) (resolved target : ℕ) : Type 0 where
  pub method : Method
  pub stands : slice_get p.methods resolved ≡ Some method
  pub chosen : MatchBool (is_direct by_interface method) (target ≡ resolved)
      (SelectsFrom p class method.signature (IsFound p class (IsSelectable p by_interface resolved method)) target)

-- Nothing is found upward, and several methods of superinterfaces are maximally specific and not abstract.
pub record Clashes (p : Program) (by_interface : Bool) (class : List ℕ) (resolved : ℕ) : Type 0 where
  pub method : Method
  pub stands : slice_get p.methods resolved ≡ Some method
  pub searched : is_direct by_interface method ≡ false
  pub none_upward : (other : ℕ) → IsFound p class (IsSelectable p by_interface resolved method) other → ⊥
  pub first : ℕ
  pub second : ℕ
  pub first_default : IsDefault p class method.signature first
  pub second_default : IsDefault p class method.signature second
  pub differ : first ≢ second

-- The class stands in the chain before the class of a name.
abbrev pub StandsBelow : List ℕ → List Class → Class → Type 0
StandsBelow name [] c = ⊥
StandsBelow name (d ∷ chain) c = (d.name ≢ name) × ((d ≡ c) ⊎ StandsBelow name chain c)

-- A method without a flag of access: it is visible in its package alone (JVMS 5.4.4).
pub record IsPackagePrivate (m : Method) : Type 0 where
  pub not_public : has_flag m.flags Public ≡ false
  pub not_protected : has_flag m.flags Protected ≡ false
  pub not_private : has_flag m.flags Private ≡ false

-- The resolved method is visible in its package alone, and a class from the receiver's upward to below the method's own has a
-- method of its name and descriptor in another package. It does not override it, though some machines let it.
pub record IsPackageOverridden (p : Program) (class : List ℕ) (resolved : ℕ) : Type 0 where
  pub method : Method
  pub stands : slice_get p.methods resolved ≡ Some method
  pub package_private : IsPackagePrivate method
  pub chain : List Class
  pub of_class : IsChain p (Some class) chain
  pub below : Class
  pub between : StandsBelow method.class chain below
  pub number : ℕ
  pub declares : Declares p (HasSignature method.signature) below.name number
  pub other_package : package_of below.name ≢ package_of method.class

-- What a call of a resolved method on an object of a class gives: the target; or why none.
pub data Selection (p : Program) (by_interface : Bool) (class : List ℕ) (resolved : ℕ) (outcome : Result ℕ Reason) : Type 0 where
  selected : (target : ℕ) (method : Method) → Selects p by_interface class resolved target → slice_get p.methods target ≡ Some method
      → is_abstract method ≡ false → (IsPackageOverridden p class resolved → ⊥) → outcome ≡ Ok target → Selection p by_interface class resolved outcome
  no_code : (target : ℕ) (method : Method) → Selects p by_interface class resolved target → slice_get p.methods target ≡ Some method
      → IsTrue (is_abstract method) → outcome ≡ Err NoImplementation → Selection p by_interface class resolved outcome
  nothing : ((target : ℕ) → Selects p by_interface class resolved target → ⊥) → (Clashes p by_interface class resolved → ⊥)
      → outcome ≡ Err NoImplementation → Selection p by_interface class resolved outcome
  several : Clashes p by_interface class resolved → outcome ≡ Err ClashingDefaults → Selection p by_interface class resolved outcome
  hidden : (target : ℕ) (method : Method) → Selects p by_interface class resolved target → slice_get p.methods target ≡ Some method
      → is_abstract method ≡ false → IsPackageOverridden p class resolved → outcome ≡ Err PackageOverride → Selection p by_interface class resolved outcome

-- ---- special calls

-- A special call from the code of a class to a method of a superclass, that is no constructor.
pub record IsSuperCall (p : Program) (current : List ℕ) (m : MemberReference) : Type 0 where
  pub no_constructor : m.signature.name ≢ codes "<init>"
  pub other : current ≢ m.class
  pub chain : List Class
  pub upward : IsChain p (Some current) chain
  pub above : Class
  pub stands : Contains chain above
  pub named : above.name ≡ m.class

-- Where the search for the target of a special call begins.
pub data StartsSearch (p : Program) (current : List ℕ) (m : MemberReference) (start : List ℕ) : Type 0 where
  at_super : (c : Class) → IsSuperCall p current m → class_named p current ≡ Some c → c.super_class ≡ Some start → StartsSearch p current m start
  at_named : (IsSuperCall p current m → ⊥) → start ≡ m.class → StartsSearch p current m start

-- A special call goes to the first instance method of the name and descriptor, from there upward.
pub record SelectsSpecial (p : Program) (current : List ℕ) (m : MemberReference) (target : ℕ) : Type 0 where
  pub start : List ℕ
  pub begins : StartsSearch p current m start
  pub class : Class
  pub named : class_named p start ≡ Some class
  pub chosen : SelectsFrom p start m.signature (IsFoundIn p (IsInstanceWith m.signature) m.signature class) target

-- What a special call gives: the target; or none, where there is no method, or several, or an abstract one.
pub data SpecialSelection (p : Program) (current : List ℕ) (m : MemberReference) (outcome : Result ℕ Reason) : Type 0 where
  selected : (target : ℕ) (method : Method) → SelectsSpecial p current m target → slice_get p.methods target ≡ Some method
      → is_abstract method ≡ false → outcome ≡ Ok target → SpecialSelection p current m outcome
  no_code : (target : ℕ) (method : Method) → SelectsSpecial p current m target → slice_get p.methods target ≡ Some method
      → IsTrue (is_abstract method) → outcome ≡ Err NoImplementation → SpecialSelection p current m outcome
  nothing : ((target : ℕ) → SelectsSpecial p current m target → ⊥) → outcome ≡ Err NoImplementation → SpecialSelection p current m outcome
