-- This crate's own proofs alone rest on this module.
-- The initialiser that a class itself declares (JVMS 2.9).
use Rattle.std.specs.Prelude.{codes, ◌≡◌, ◌⊎◌, ℕ, List, Some, slice_get, IsTrue}
use Rattle.std.specs.List.{list_any}
use Rattle.jvm_model.specs.declared.class_file.ClassFile.{ClassFile}
use Rattle.jvm_model.specs.declared.class_file.Member.{Member}
use Rattle.jvm_model.specs.Programs.{Class, Program, Method, in_file}
use Rattle.jvm_model.specs.Soundness.{is_code, plain_descriptor}
use Rattle.program_model.specs.Numbers.{name_at, IsClassNumber}
use Rattle.program_model.specs.Whole.{IsThroughInterface}

-- The class declares <clinit> without parameters, and its class file has a Code attribute for it.
pub record DeclaresInitialiser (p : Program) (class : List ℕ) : Type 0 where
  pub number : ℕ
  pub method : Method
  pub stands : slice_get p.methods number ≡ Some method
  pub of_class : method.class ≡ class
  pub named : method.signature ≡ record { name = codes "<clinit>"; descriptor = plain_descriptor }
  pub file : ClassFile
  pub place : ℕ
  pub member : Member
  pub of_file : method.body ≡ in_file file place member
  pub code : IsTrue (list_any (is_code file.pool) member.attributes)

-- The class itself, or a supertype through one of its own superinterfaces, declares one.
pub record DeclaresAt (p : Program) (c : Class) : Type 0 where
  pub owner : ℕ
  pub within : IsClassNumber p owner
  pub is : DeclaresInitialiser p (name_at p owner)
  pub there : (name_at p owner ≡ c.name) ⊎ IsThroughInterface p c owner
