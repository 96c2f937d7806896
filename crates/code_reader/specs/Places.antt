-- Public contracts rest on this module.
-- Where the methods of a class file stand, and the code in one (JVMS 4.6, 4.7.3).
use Rattle.std.specs.Prelude.{◌≡◌, ℕ, ◌+◌, List, length, take}
use Rattle.std.specs.List.{flat_map}
use Rattle.jvm_model.specs.declared.class_file.Attribute.{Attribute}
use Rattle.jvm_model.specs.declared.class_file.ClassFile.{ClassFile}
use Rattle.jvm_model.specs.declared.pool.PoolEntry.{PoolEntry}
use Rattle.jvm_model.specs.Layout.{IsFirstCode}
use Rattle.jvm_model.specs.Soundness.{methods_offset}
use Rattle.jvm_model.specs.Spelling.{attribute, member}

-- The file offset of the first byte of a method: the methods before it stand before it.
abbrev pub method_offset : ClassFile → ℕ → ℕ
method_offset c method = methods_offset c + length (flat_map member (take method c.methods))

-- The attribute is the first one named Code, and those before it take so many bytes.
pub record IsCodeAfter (pool : List PoolEntry) (attributes : List Attribute) (bytes : ℕ) (code : Attribute) : Type 0 where
  pub before : List Attribute
  pub after : List Attribute
  pub first : IsFirstCode pool attributes before code after
  pub counted : bytes ≡ length (flat_map attribute before)
