-- This crate's own proofs alone rest on this module.
-- The file offsets of the methods of class files, by class.
use Rattle.std.specs.Prelude.{◌≡◌, ℕ, ◌<◌, List, length, Some, slice_get}
use Rattle.std.specs.BTreeMap.{BTreeMap, get}
use Rattle.std.specs.Ordering.{nat_cmp}
use Rattle.std.specs.Global.{Vec}
use Rattle.jvm_model.specs.declared.class_file.ClassFile.{ClassFile}
use Rattle.jvm_model.specs.declared.class_file.Member.{Member}
use Rattle.jvm_model.specs.Programs.{Method, Program, in_file}
use Rattle.code_reader.specs.Places.{method_offset}
use Rattle.program_model.specs.Numbers.{name_at}

-- The offset of each method of a class file, by the method's place.
pub record AreOffsets (file : ClassFile) (offsets : List ℕ) : Type 0 where
  pub each : (place : ℕ) → place < length file.methods → slice_get offsets place ≡ Some (method_offset file place)

-- The class file is that of the class: a method of the class is a member of it.
pub record IsClassFileOf (p : Program) (class : ℕ) (file : ClassFile) : Type 0 where
  pub number : ℕ
  pub method : Method
  pub stands : slice_get p.methods number ≡ Some method
  pub of_class : method.class ≡ name_at p class
  pub place : ℕ
  pub member : Member
  pub body : method.body ≡ in_file file place member

-- The offsets that were counted are those of the class files of their classes.
pub record AreCounted (p : Program) (counted : BTreeMap ℕ (Vec ℕ)) : Type 0 where
  pub each : (class : ℕ) (offsets : Vec ℕ) → get nat_cmp counted class ≡ Some offsets → (file : ClassFile) → IsClassFileOf p class file → AreOffsets file offsets.items
