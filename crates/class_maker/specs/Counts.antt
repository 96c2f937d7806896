-- Public contracts rest on this module.
-- Lists that are no longer than their counts can say. A count of a table and the length of a text have two bytes, and the
-- length of an attribute's body has four (JVMS 4.1, 4.4.7, 4.5 to 4.7).
use Rattle.std.specs.Prelude.{◌≡◌, ℕ, ◌+◌, ◌<◌, ◌^◌, List, length, All}
use Rattle.jvm_model.specs.declared.pool.PoolEntry.{PoolEntry}
use Rattle.jvm_model.specs.declared.pool.PoolEntry.TheVariants.{Utf8}
use Rattle.jvm_model.specs.declared.class_file.ClassFile.{ClassFile}
use Rattle.jvm_model.specs.declared.class_file.Member.{Member}
use Rattle.jvm_model.specs.declared.class_file.Attribute.{Attribute}

-- An entry of the constant pool: if it is a text, its length fits.
abbrev pub IsCountedEntry : PoolEntry → Type 0
IsCountedEntry e = (bytes : List ℕ) → e ≡ Utf8 bytes → length bytes < 2 ^ 16

-- An attribute: the length of its body fits.
abbrev pub IsCountedAttribute : Attribute → Type 0
IsCountedAttribute a = length a.body < 2 ^ 32

-- A table: its count fits, and its items are counted too.
pub record IsCountedTable {X : Type 0} (counted : X → Type 0) (items : List X) : Type 0 where
  pub count : length items < 2 ^ 16
  pub each : All counted items

-- A field or a method: the table of its attributes is counted.
abbrev pub IsCountedMember : Member → Type 0
IsCountedMember m = IsCountedTable IsCountedAttribute m.attributes

-- A class file: the count of its constant pool, which is one more than its last index, fits, and so does each other count and length.
pub record IsCountedClass (c : ClassFile) : Type 0 where
  pub pool_count : length c.pool + 1 < 2 ^ 16
  pub pool : All IsCountedEntry c.pool
  pub interface_count : length c.interfaces < 2 ^ 16
  pub fields : IsCountedTable IsCountedMember c.fields
  pub methods : IsCountedTable IsCountedMember c.methods
  pub attributes : IsCountedTable IsCountedAttribute c.attributes
