-- Public contracts rest on this module.
-- Where the code of a method stands in a class file (JVMS 4.7.3).
use Rattle.std.specs.Prelude.{◌≡◌, ℕ, ◌+◌, true, false, List, ◌∷◌, ◌++◌, length, take, Some}
use Rattle.std.specs.List.{flat_map, list_any, slice_get}
use Rattle.jvm_model.specs.declared.pool.PoolEntry.{PoolEntry}
use Rattle.jvm_model.specs.declared.class_file.ClassFile.{ClassFile}
use Rattle.jvm_model.specs.declared.class_file.Member.{Member}
use Rattle.jvm_model.specs.declared.class_file.Attribute.{Attribute}
use Rattle.jvm_model.specs.Spelling.{attribute, member, spell}
use Rattle.jvm_model.specs.Soundness.{is_code, methods_offset}

-- The class has a method at a place of its list, and the method has an attribute named Code.
pub record HasCodeAttribute (c : ClassFile) (method : ℕ) : Type 0 where
  pub owner : Member
  pub there : slice_get c.methods method ≡ Some owner
  pub has_code : list_any (is_code c.pool) owner.attributes ≡ true

-- The first attribute named Code, with those before it and those after it.
pub record IsFirstCode (pool : List PoolEntry) (attributes before : List Attribute) (code : Attribute) (after : List Attribute) : Type 0 where
  pub parts : attributes ≡ before ++ code ∷ after
  pub none_before : list_any (is_code pool) before ≡ false
  pub named_code : is_code pool code ≡ true

-- The attribute is the first one named Code.
pub record HasFirstCode (pool : List PoolEntry) (attributes : List Attribute) (code : Attribute) : Type 0 where
  pub before : List Attribute
  pub after : List Attribute
  pub first : IsFirstCode pool attributes before code after

-- The attribute is named Code, and no other one is, neither before it nor after it.
pub record IsOnlyCode (pool : List PoolEntry) (attributes : List Attribute) (code : Attribute) : Type 0 where
  pub before : List Attribute
  pub after : List Attribute
  pub parts : attributes ≡ before ++ code ∷ after
  pub named_code : is_code pool code ≡ true
  pub none_before : list_any (is_code pool) before ≡ false
  pub none_after : list_any (is_code pool) after ≡ false

-- The attributes before the first one named Code take so many bytes.
pub record IsBeforeCode (pool : List PoolEntry) (attributes : List Attribute) (bytes : ℕ) : Type 0 where
  pub before : List Attribute
  pub code : Attribute
  pub after : List Attribute
  pub first : IsFirstCode pool attributes before code after
  pub counted : bytes ≡ length (flat_map attribute before)

-- The file offset of the body of the first attribute named Code of a method. Before it stand the methods before this
-- one; the flags, the name and the descriptor of this one and the count of its attributes, which take eight bytes; the
-- attributes before this one; and the name and the length of this one, which take six.
pub record IsCodePlace (c : ClassFile) (method place : ℕ) : Type 0 where
  pub owner : Member
  pub there : slice_get c.methods method ≡ Some owner
  pub before : List Attribute
  pub code : Attribute
  pub after : List Attribute
  pub first : IsFirstCode c.pool owner.attributes before code after
  pub offset : place ≡ methods_offset c + length (flat_map member (take method c.methods)) + 8 + length (flat_map attribute before) + 6
  -- the body stands there in the file
  pub front : List ℕ
  pub rest : List ℕ
  pub spelled : spell c ≡ front ++ (code.body ++ rest)
  pub front_length : length front ≡ place
