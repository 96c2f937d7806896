-- Public contracts rest on this module.
-- Reading a class file (JVMS 4.1).
use Rattle.std.specs.Prelude.{◌≤◌, ℕ, List, length, Result, Ok, Err, nat_lt, ◌==◌, ◌||◌, if◌then◌else◌}
use Rattle.std.specs.Int.{w16, w32}
use Rattle.jvm_model.specs.declared.reason.Reason.TheVariants.{BadMagic, BadVersion, TrailingBytes, ClassTooLarge}
use Rattle.jvm_model.specs.declared.class_file.ClassFile.{ClassFile}
use Rattle.classfile_reader.specs.declared.limit.TheConstants.{CLASS_FILE_LIMIT}
use Rattle.jvm_model.specs.declared.reason.Fault.{Fault}
use Rattle.byte_reader.specs.Reading.{Place, ◌>>=◌, fault_at, number_at, table_at}
use Rattle.byte_reader.specs.Structures.{attribute_at, member_at}
use Rattle.classfile_reader.specs.PoolReading.{pool_at}
use Rattle.jvm_model.specs.Spelling.{IsSpelling}

-- The number that each class file begins with.
unfoldable pub magic_at : Place → Result (ℕ × Place) Fault
magic_at place = do
  magic ← number_at w32 place
  if magic.0 == 0xCAFEBABE then Ok magic else fault_at place BadMagic

-- A major version, from 45 to 52.
unfoldable pub major_at : Place → Result (ℕ × Place) Fault
major_at place = do
  major ← number_at w16 place
  if nat_lt major.0 45 || nat_lt 52 major.0 then fault_at place BadVersion else Ok major

-- A class file (JVMS 4.1).
unfoldable pub class_at : Place → Result (ClassFile × Place) Fault
class_at place = do
  magic ← magic_at place
  minor ← number_at w16 magic.1
  major ← major_at minor.1
  pool ← pool_at major.1
  flags ← number_at w16 pool.1
  this_class ← number_at w16 flags.1
  super_class ← number_at w16 this_class.1
  interfaces ← table_at (number_at w16) super_class.1
  fields ← table_at member_at interfaces.1
  methods ← table_at member_at fields.1
  attributes ← table_at attribute_at methods.1
  Ok (
    record {
      minor = minor.0;
      major = major.0;
      pool = pool.0;
      flags = flags.0;
      this_class = this_class.0;
      super_class = super_class.0;
      interfaces = interfaces.0;
      fields = fields.0;
      methods = methods.0;
      attributes = attributes.0;
    },
    attributes.1,
  )

-- All of the bytes, which are no more than the limit.
unfoldable pub class_of : List ℕ → Result ClassFile Fault
class_of bytes =
    if nat_lt CLASS_FILE_LIMIT (length bytes)
    then Err (record { offset = CLASS_FILE_LIMIT; reason = ClassTooLarge })
    else do
      class ← class_at (record { offset = 0; rest = bytes })
      if length class.1.rest == 0 then Ok class.0 else fault_at class.1 TrailingBytes

-- The bytes spell the class file, its version is one that is read, and they are no more than the limit.
pub record SpellsReadable (bytes : List ℕ) (c : ClassFile) : Type 0 where
  pub spelling : IsSpelling bytes c
  pub oldest : 45 ≤ c.major
  pub newest : c.major ≤ 52
  pub size : length bytes ≤ CLASS_FILE_LIMIT
