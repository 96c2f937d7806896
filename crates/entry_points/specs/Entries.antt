-- Public contracts rest on this module.
-- The method that a program begins with (JVMS 5.2).
use Rattle.std.specs.Prelude.{codes, ◌≡◌, ◌≢◌, ℕ, List, Some, Contains, IsTrue, slice_get}
use Rattle.jvm_model.specs.declared.class_file.Member.{Member}
use Rattle.jvm_model.specs.declared.pool.PoolEntry.{PoolEntry}
use Rattle.jvm_model.specs.declared.program.NamedClass.{NamedClass}
use Rattle.jvm_model.specs.Programs.{Method, Program, is_static, name_of, text_or_none}
use Rattle.jvm_model.specs.Soundness.{plain_descriptor}
use Rattle.op_model.specs.Supplies.{IsCodedMethod}

-- The member has the name.
pub record HasName (pool : List PoolEntry) (name : List ℕ) (member : Member) : Type 0 where
  pub is : text_or_none pool member.name ≡ name

-- A member of the list has the name.
pub record HasMember (pool : List PoolEntry) (members : List Member) (name : List ℕ) : Type 0 where
  pub member : Member
  pub has : Contains members member
  pub named : HasName pool name member

-- The class file is that of the class, and has a method of the name.
pub record NamesMember (class method : List ℕ) (file : NamedClass) : Type 0 where
  pub of_class : name_of file.class ≡ class
  pub member : HasMember file.class.pool file.class.methods method

-- One of the class files is.
pub record NamesMethod (classes : List NamedClass) (class method : List ℕ) : Type 0 where
  pub file : NamedClass
  pub stands : Contains classes file
  pub names : NamesMember class method file

-- The method of the number is static, has code in a class file, and has this class, name and descriptor. It is no initialiser.
pub record IsStarting (p : Program) (class method descriptor : List ℕ) (number : ℕ) : Type 0 where
  pub found : Method
  pub stands : slice_get p.methods number ≡ Some found
  pub of_class : found.class ≡ class
  pub named : found.signature ≡ record { name = method; descriptor = descriptor }
  pub static : IsTrue (is_static found)
  pub coded : IsCodedMethod p number
  pub no_initialiser : method ≢ codes "<clinit>"

-- The descriptor of a method that takes an array of strings, and has no result.
abbrev pub strings_descriptor : List ℕ
strings_descriptor = codes "([Ljava/lang/String;)V"

-- The entry takes an array of strings; or, where no such method can start a program, it has no parameters.
pub data IsEntry (p : Program) (class method : List ℕ) (number : ℕ) : Type 0 where
  with_strings : IsStarting p class method strings_descriptor number → IsEntry p class method number
  plain : ((other : ℕ) → IsStarting p class method strings_descriptor other → ⊥) → IsStarting p class method plain_descriptor number
      → IsEntry p class method number
