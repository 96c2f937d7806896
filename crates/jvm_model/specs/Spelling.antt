-- Public contracts rest on this module.
-- The spelling of a class file as bytes, in the order of JVMS 4.1 to 4.7. It only writes.
use Rattle.std.specs.Prelude.{◌≡◌, ℕ, Bool, true, false, ◌+◌, ◌<◌, ◌^◌, List, [], ◌∷◌, ◌++◌, length}
use Rattle.std.specs.List.{flat_map, AllByRecursion}
use Rattle.std.specs.Int.{w16, w32, w64, to_be_bytes}
use Rattle.jvm_model.specs.declared.pool.PoolEntry.{PoolEntry}
use Rattle.jvm_model.specs.declared.pool.PoolEntry.TheVariants.{Utf8, Integer, Float, Long, Double, Class, Str, Fieldref, Methodref, InterfaceMethodref, NameAndType, MethodHandle, MethodType, InvokeDynamic, Taken}
use Rattle.jvm_model.specs.declared.class_file.ClassFile.{ClassFile}
use Rattle.jvm_model.specs.declared.class_file.Member.{Member}
use Rattle.jvm_model.specs.declared.class_file.Attribute.{Attribute}

-- A number of two, four or eight bytes, high byte first (JVMS 4).
abbrev pub u2 : ℕ → List ℕ
u2 n = to_be_bytes w16 n

abbrev pub u4 : ℕ → List ℕ
u4 n = to_be_bytes w32 n

abbrev pub u8 : ℕ → List ℕ
u8 n = to_be_bytes w64 n

-- A table: how many items it has, and then the items.
abbrev pub table : {X : Type 0} → (X → List ℕ) → List X → List ℕ
table item items = u2 (length items) ++ flat_map item items

-- An entry of the constant pool: its tag, and what the tag calls for (JVMS 4.4).
abbrev pub entry : PoolEntry → List ℕ
entry (Utf8 bytes) = 1 ∷ (u2 (length bytes) ++ bytes)
entry (Integer bits) = 3 ∷ u4 bits
entry (Float bits) = 4 ∷ u4 bits
entry (Long bits) = 5 ∷ u8 bits
entry (Double bits) = 6 ∷ u8 bits
entry (Class name) = 7 ∷ u2 name
entry (Str text) = 8 ∷ u2 text
entry (Fieldref class member) = 9 ∷ (u2 class ++ u2 member)
entry (Methodref class member) = 10 ∷ (u2 class ++ u2 member)
entry (InterfaceMethodref class member) = 11 ∷ (u2 class ++ u2 member)
entry (NameAndType name descriptor) = 12 ∷ (u2 name ++ u2 descriptor)
entry (MethodHandle kind reference) = 15 ∷ kind ∷ u2 reference
entry (MethodType descriptor) = 16 ∷ u2 descriptor
entry (InvokeDynamic bootstrap member) = 18 ∷ (u2 bootstrap ++ u2 member)
entry Taken = []

-- An attribute: its name, the length of its body, and the body (JVMS 4.7).
abbrev pub attribute : Attribute → List ℕ
attribute a = u2 a.name ++ u4 (length a.body) ++ a.body

-- A field or a method (JVMS 4.5, 4.6).
abbrev pub member : Member → List ℕ
member m = u2 m.flags ++ u2 m.name ++ u2 m.descriptor ++ table attribute m.attributes

-- The constant pool: its count, which is one more than its last index, and the entries (JVMS 4.1).
abbrev pub pool : List PoolEntry → List ℕ
pool entries = u2 (length entries + 1) ++ flat_map entry entries

-- A class file (JVMS 4.1).
abbrev pub spell : ClassFile → List ℕ
spell c =
    u4 0xCAFEBABE ++ u2 c.minor ++ u2 c.major ++ pool c.pool
    ++ u2 c.flags ++ u2 c.this_class ++ u2 c.super_class
    ++ table u2 c.interfaces ++ table member c.fields ++ table member c.methods ++ table attribute c.attributes

-- Each number fits its field, and each list its count.
abbrev pub EntryFits : PoolEntry → Type 0
EntryFits (Utf8 bytes) = (length bytes < 2 ^ 16) × AllByRecursion (λ b. b < 2 ^ 8) bytes
EntryFits (Integer bits) = bits < 2 ^ 32
EntryFits (Float bits) = bits < 2 ^ 32
EntryFits (Long bits) = bits < 2 ^ 64
EntryFits (Double bits) = bits < 2 ^ 64
EntryFits (Class name) = name < 2 ^ 16
EntryFits (Str text) = text < 2 ^ 16
EntryFits (Fieldref class member) = (class < 2 ^ 16) × (member < 2 ^ 16)
EntryFits (Methodref class member) = (class < 2 ^ 16) × (member < 2 ^ 16)
EntryFits (InterfaceMethodref class member) = (class < 2 ^ 16) × (member < 2 ^ 16)
EntryFits (NameAndType name descriptor) = (name < 2 ^ 16) × (descriptor < 2 ^ 16)
EntryFits (MethodHandle kind reference) = (kind < 2 ^ 8) × (reference < 2 ^ 16)
EntryFits (MethodType descriptor) = descriptor < 2 ^ 16
EntryFits (InvokeDynamic bootstrap member) = (bootstrap < 2 ^ 16) × (member < 2 ^ 16)
EntryFits Taken = Unit {0}

pub record AttributeFits (a : Attribute) : Type 0 where
  pub name : a.name < 2 ^ 16
  pub body : length a.body < 2 ^ 32
  pub bytes : AllByRecursion (λ b. b < 2 ^ 8) a.body

pub record MemberFits (m : Member) : Type 0 where
  pub flags : m.flags < 2 ^ 16
  pub name : m.name < 2 ^ 16
  pub descriptor : m.descriptor < 2 ^ 16
  pub count : length m.attributes < 2 ^ 16
  pub attributes : AllByRecursion AttributeFits m.attributes

-- A Long or a Double, which takes two indices (JVMS 4.4.5).
abbrev pub is_wide : PoolEntry → Bool
is_wide (Long bits) = true
is_wide (Double bits) = true
is_wide _ = false

abbrev pub is_taken : PoolEntry → Bool
is_taken Taken = true
is_taken _ = false

-- An entry is Taken exactly where the one before it is wide; before_is_wide is said of the entry before the list.
abbrev pub IsPairedAfter : Bool → List PoolEntry → Type 0
IsPairedAfter before_is_wide [] = before_is_wide ≡ false
IsPairedAfter before_is_wide (e ∷ entries) = (is_taken e ≡ before_is_wide) × IsPairedAfter (is_wide e) entries

-- A Taken stands right after each Long and Double, and nowhere else.
abbrev pub IsPaired : List PoolEntry → Type 0
IsPaired entries = IsPairedAfter false entries

pub record ClassFits (c : ClassFile) : Type 0 where
  pub minor : c.minor < 2 ^ 16
  pub major : c.major < 2 ^ 16
  pub pool_count : length c.pool + 1 < 2 ^ 16
  pub pool : AllByRecursion EntryFits c.pool
  pub pairs : IsPaired c.pool
  pub flags : c.flags < 2 ^ 16
  pub this_class : c.this_class < 2 ^ 16
  pub super_class : c.super_class < 2 ^ 16
  pub interface_count : length c.interfaces < 2 ^ 16
  pub interfaces : AllByRecursion (λ i. i < 2 ^ 16) c.interfaces
  pub field_count : length c.fields < 2 ^ 16
  pub fields : AllByRecursion MemberFits c.fields
  pub method_count : length c.methods < 2 ^ 16
  pub methods : AllByRecursion MemberFits c.methods
  pub attribute_count : length c.attributes < 2 ^ 16
  pub attributes : AllByRecursion AttributeFits c.attributes

-- The bytes spell the class file.
pub record IsSpelling (bytes : List ℕ) (c : ClassFile) : Type 0 where
  pub fits : ClassFits c
  pub spelled : bytes ≡ spell c
