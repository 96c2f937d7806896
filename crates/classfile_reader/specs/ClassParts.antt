-- This crate's own proofs alone rest on this module.
-- Reading a class file in parts: what stands before the constant pool, the three numbers after it, and the tables two by two.
use Rattle.std.specs.Prelude.{ℕ, List, Result, Ok}
use Rattle.std.specs.Int.{w16}
use Rattle.jvm_model.specs.declared.class_file.ClassFile.{ClassFile}
use Rattle.jvm_model.specs.declared.reason.Fault.{Fault}
use Rattle.byte_reader.specs.Reading.{Place, ◌>>=◌, number_at, table_at}
use Rattle.byte_reader.specs.Structures.{attribute_at, member_at}
use Rattle.classfile_reader.specs.PoolReading.{pool_at}
use Rattle.classfile_reader.specs.ClassReading.{magic_at, major_at}

-- The magic number, and then the minor and the major version.
unfoldable pub versions_at : Place → Result ((ℕ × ℕ) × Place) Fault
versions_at place = do
  magic ← magic_at place
  minor ← number_at w16 magic.1
  major ← major_at minor.1
  Ok ((minor.0, major.0), major.1)

-- The flags, the class and its superclass.
unfoldable pub names_at : Place → Result ((ℕ × ℕ × ℕ) × Place) Fault
names_at place = do
  flags ← number_at w16 place
  this_class ← number_at w16 flags.1
  super_class ← number_at w16 this_class.1
  Ok ((flags.0, this_class.0, super_class.0), super_class.1)

-- Two tables, one after the other.
unfoldable pub tables_at : {X Y : Type 0} → (Place → Result (X × Place) Fault) → (Place → Result (Y × Place) Fault) → Place → Result ((List X × List Y) × Place) Fault
tables_at first_at second_at place = do
  first ← table_at first_at place
  second ← table_at second_at first.1
  Ok ((first.0, second.0), second.1)

-- A class file, part after part.
unfoldable pub parts_at : Place → Result (ClassFile × Place) Fault
parts_at place = do
  versions ← versions_at place
  pool ← pool_at versions.1
  names ← names_at pool.1
  before ← tables_at (number_at w16) member_at names.1
  after ← tables_at member_at attribute_at before.1
  Ok (
    record {
      minor = versions.0.0;
      major = versions.0.1;
      pool = pool.0;
      flags = names.0.0;
      this_class = names.0.1;
      super_class = names.0.2;
      interfaces = before.0.0;
      fields = before.0.1;
      methods = after.0.0;
      attributes = after.0.1;
    },
    after.1,
  )
