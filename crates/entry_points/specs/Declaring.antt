-- This crate's own proofs alone rest on this module.
-- What classes declare as their initialisers, and lists of methods to which these are added.
use Rattle.std.specs.Prelude.{codes, ◌≡◌, ◌⊎◌, ℕ, List, Some, Result, Ok, slice_get, Contains}
use Rattle.std.specs.declared.alloc.Global.{Global}
use Rattle.std.specs.declared.vec.Vec.{Vec}
use Rattle.jvm_model.specs.declared.number.MethodNo.{MethodNo}
use Rattle.jvm_model.specs.Programs.{Class, Program, Method}
use Rattle.jvm_model.specs.Soundness.{plain_descriptor}
use Rattle.program_model.specs.Numbers.{name_at, IsClassNumber}
use Rattle.program_model.specs.Whole.{IsThroughInterface}
use Rattle.op_model.specs.Supplies.{IsCodedMethod}

-- The class declares the method as its initialiser, and there is code for it.
pub record DeclaresCoded (p : Program) (class : List ℕ) (number : ℕ) : Type 0 where
  pub method : Method
  pub stands : slice_get p.methods number ≡ Some method
  pub of_class : method.class ≡ class
  pub named : method.signature ≡ record { name = codes "<clinit>"; descriptor = plain_descriptor }
  pub coded : IsCodedMethod p number

-- One of the classes of these numbers declares it.
pub record OneDeclares (p : Program) (classes : List ℕ) (number : ℕ) : Type 0 where
  pub owner : ℕ
  pub among : Contains classes owner
  pub is : DeclaresCoded p (name_at p owner) number

-- The class itself declares it, or a supertype through one of its own superinterfaces does.
pub record IsDeclaredAt (p : Program) (c : Class) (number : ℕ) : Type 0 where
  pub owner : ℕ
  pub within : IsClassNumber p owner
  pub is : DeclaresCoded p (name_at p owner) number
  pub there : (name_at p owner ≡ c.name) ⊎ IsThroughInterface p c owner

-- All methods of which this holds are added, and no others.
pub record AddsMethods (Holds : ℕ → Type 0) (old new : List MethodNo) : Type 0 where
  pub only : (i : MethodNo) → Contains new i → Contains old i ⊎ Holds i.0
  pub kept : (i : MethodNo) → Contains old i → Contains new i
  pub added : (i : MethodNo) → Holds i.0 → Contains new i

-- There were methods before, and the class added to them what it declares, with its own superinterfaces.
pub record AddsDeclared {E : Type 0} (p : Program) (c : Class) (before : Result (Vec MethodNo Global) E) (now : Vec MethodNo Global) : Type 0 where
  pub found : Vec MethodNo Global
  pub were : before ≡ Ok found
  pub adds : AddsMethods (IsDeclaredAt p c) found.items now.items
