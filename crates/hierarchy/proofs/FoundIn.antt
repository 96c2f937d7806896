-- The search in a class, and in an interface, by the kind of the class.
use Rattle.std.proofs.Common.{◌≡◌, ℕ, Bool, true, false, List, Option, Some, sym, subst}
use Rattle.std.specs.Bool.{MatchBool}
use Rattle.std.specs.List.{slice_get}
use Rattle.jvm_model.specs.Lookups.{Signature}
use Rattle.jvm_model.specs.Programs.{Class, Method, Program, object_name}
use Rattle.jvm_model.specs.Resolution.{Declares, IsFound, IsFoundIn, IsFoundInInterface, declared_there, of_object, IsPublicWith}
use Rattle.jvm_model.specs.declared.number.MethodNo.{MethodNo}
use Rattle.program_model.specs.Numbers.{name_at}
use Rattle.hierarchy.specs.Searches.{Finds}
use Rattle.hierarchy.proofs.ClassPlaces.{name_at-at}
use Rattle.hierarchy.proofs.Declaring.{finds_same}

abbrev ByKind : Program → (ℕ → Method → Type 0) → Signature → List ℕ → ℕ → Bool → Type 0
ByKind p Is s name number v = MatchBool v (IsFoundInInterface p Is s name number) (IsFound p name Is number)

-- of a class: what is found upward
pub found_class : (p : Program) (Is : ℕ → Method → Type 0) (s : Signature) (n : ℕ) (c : Class) (found : Option MethodNo) → slice_get p.classes n ≡ Some c → c.is_interface ≡ false
    → Finds (IsFound p (name_at p n) Is) found → Finds (IsFoundIn p Is s c) found
found_class p Is s n c found stands kind finds =
    finds_same (IsFound p c.name Is) (IsFoundIn p Is s c) found (λ k. subst (ByKind p Is s c.name k) (sym kind)) (λ k. subst (ByKind p Is s c.name k) kind)
    (subst (λ (x : List ℕ). Finds (IsFound p x Is) found) (name_at-at p n c stands) finds)

in_interface : (p : Program) (Is : ℕ → Method → Type 0) (s : Signature) (name : List ℕ) (found : Option MethodNo) → ((other : ℕ) → Declares p Is name other → ⊥)
    → Finds (Declares p (IsPublicWith s) object_name) found → Finds (IsFoundInInterface p Is s name) found
in_interface p Is s name found none =
    finds_same (Declares p (IsPublicWith s) object_name) (IsFoundInInterface p Is s name) found (λ k d. of_object none d)
    (λ k h. elim h [ declared_there d ↦ absurd (none k d) | of_object _ d ↦ d ])

-- of an interface that declares none: the one of java/lang/Object
pub found_interface : (p : Program) (Is : ℕ → Method → Type 0) (s : Signature) (n : ℕ) (c : Class) (found : Option MethodNo) → slice_get p.classes n ≡ Some c → c.is_interface ≡ true
    → ((other : ℕ) → Declares p Is (name_at p n) other → ⊥) → Finds (Declares p (IsPublicWith s) object_name) found → Finds (IsFoundIn p Is s c) found
found_interface p Is s n c found stands kind none object =
    finds_same (IsFoundInInterface p Is s c.name) (IsFoundIn p Is s c) found (λ k. subst (ByKind p Is s c.name k) (sym kind)) (λ k. subst (ByKind p Is s c.name k) kind)
    (in_interface p Is s c.name found (subst (λ (x : List ℕ). (other : ℕ) → Declares p Is x other → ⊥) (name_at-at p n c stands) none) object)
