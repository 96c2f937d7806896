-- Public contracts rest on this module.
-- What a supplier of methods as nodes gives.
use Rattle.std.specs.Prelude.{◌≡◌, ◌↔◌, ℕ, Option, Some, Result, Err, slice_get}
use Rattle.failure.specs.declared.Failure.{Failure}
use Rattle.failure.specs.declared.Failure.TheVariants.{Cause, OutOfMemory}
use Rattle.jvm_model.specs.declared.class_file.ClassFile.{ClassFile}
use Rattle.jvm_model.specs.declared.class_file.Member.{Member}
use Rattle.jvm_model.specs.declared.reason.Refusal.{Refusal}
use Rattle.jvm_model.specs.Layout.{HasCodeAttribute}
use Rattle.jvm_model.specs.Programs.{Method, Program, in_file}
use Rattle.op_model.specs.declared.lowered.LoweredMethod.{LoweredMethod}

-- For each number of a method that is served the method as nodes, or its first refusal.
abbrev pub Given : Type 0
Given = ℕ → Option (Result LoweredMethod Refusal)

-- What the method of a number is given as.
abbrev pub GivenAs : Type 1
GivenAs = ℕ → Result LoweredMethod Refusal → Type 0

-- The method of the number is served: it is given as something.
abbrev pub IsServed : GivenAs → ℕ → Type 0
IsServed gives method = (answer : Result LoweredMethod Refusal) × gives method answer

-- The map has each method that is served, and what it is given as.
pub record IsMapOf (given : Given) (gives : GivenAs) : Type 0 where
  pub entries : (method : ℕ) (answer : Result LoweredMethod Refusal) → (given method ≡ Some answer) ↔ gives method answer

-- Each method is given as before.
pub record IsSameSupply (old new : GivenAs) : Type 0 where
  pub entries : (method : ℕ) (answer : Result LoweredMethod Refusal) → new method answer ↔ old method answer

-- The failure is the method's refusal. That memory runs out is left open.
abbrev pub IsRefusalOf : (Result LoweredMethod Refusal → Type 0) → Failure Refusal → Type 0
IsRefusalOf gives (Cause refusal) = gives (Err refusal)
IsRefusalOf gives OutOfMemory = Unit {0}

-- The method of the number is that of a class file, and has an attribute named Code there (JVMS 4.7.3).
pub record IsCodedMethod (p : Program) (number : ℕ) : Type 0 where
  pub method : Method
  pub stands : slice_get p.methods number ≡ Some method
  pub file : ClassFile
  pub place : ℕ
  pub member : Member
  pub of_file : method.body ≡ in_file file place member
  pub code : HasCodeAttribute file place
