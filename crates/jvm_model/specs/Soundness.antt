-- Public contracts rest on this module.
-- What makes a class file sound beyond its spelling (JVMS 4.2 to 4.7): each place where it uses an index, a text or a
-- name, in the order of the file, and what has to hold there.
use Rattle.std.specs.Prelude.{codes, ◌≡◌, ◌⊎◌, ℕ, ◌+◌, ◌*◌, ◌<◌, ◌^◌, Bool, true, false, ◌&&◌, ◌||◌, not, ◌==◌, nat_lt, nat_le, List, [], ◌∷◌, ◌++◌, length, map, Some, All, Contains, IsTrue, if◌then◌else◌}
use Rattle.std.specs.List.{flat_map, list_all, list_any}
use Rattle.std.specs.Str.{bytes_eq}
use Rattle.std.specs.Option.{option_map_or}
use Rattle.jvm_model.specs.declared.access.AccessFlag.TheVariants.{Native, Abstract}
use Rattle.jvm_model.specs.declared.grammar.Grammar.{Grammar}
use Rattle.jvm_model.specs.declared.grammar.Grammar.TheVariants.{ClassOrArray, FieldName, MethodName, FieldDescriptor, MethodDescriptor}
use Rattle.jvm_model.specs.declared.pool.EntryKind.{EntryKind}
use Rattle.jvm_model.specs.declared.pool.EntryKind.TheVariants as kinds
use Rattle.jvm_model.specs.declared.pool.PoolEntry.{PoolEntry}
use Rattle.jvm_model.specs.declared.pool.PoolEntry.TheVariants.{Utf8, Integer, Float, Long, Double, Class, Str, Fieldref, Methodref, InterfaceMethodref, NameAndType, MethodHandle, MethodType, InvokeDynamic, Taken}
use Rattle.jvm_model.specs.declared.class_file.ClassFile.{ClassFile}
use Rattle.jvm_model.specs.declared.class_file.Member.{Member}
use Rattle.jvm_model.specs.declared.class_file.Attribute.{Attribute}
use Rattle.jvm_model.specs.declared.reason.Reason.{Reason}
use Rattle.jvm_model.specs.declared.reason.Reason.TheVariants.{BadIndex, BadUtf8, BadDescriptor, CodeMissing, CodeUnexpected}
use Rattle.jvm_model.specs.Access.{has_flag}
use Rattle.jvm_model.specs.Descriptors.{IsFieldDescriptor, IsMethodDescriptor}
use Rattle.jvm_model.specs.Lookups.{entry_at, text_at, class_name_at}
use Rattle.jvm_model.specs.Names.{is_unqualified_name, is_method_name, IsClassName}
use Rattle.jvm_model.specs.Spelling.{entry, attribute, member, spell, ClassFits}

-- ---- texts

-- A byte that may stand in a text: none of 0 and 0xF0 to 0xFF (JVMS 4.4.7).
abbrev pub is_text_byte : ℕ → Bool
is_text_byte b = nat_lt 0 b && nat_lt b 0xF0

-- The descriptor of a method without parameters and result (JVMS 4.3.3).
abbrev pub plain_descriptor : List ℕ
plain_descriptor = codes "()V"

-- The text is the descriptor of an array, if it is one of a field: it begins with [ (JVMS 4.3.2).
abbrev pub is_array : List ℕ → Bool
is_array [] = false
is_array (b ∷ rest) = b == 91

-- The grammars of JVMS 4.2 and 4.3. A class entry names a class or an interface, or an array by its descriptor (4.4.1).
abbrev pub IsIn : Grammar → List ℕ → Type 0
IsIn ClassOrArray text = IsClassName text ⊎ (IsTrue (is_array text) × IsFieldDescriptor text)
IsIn FieldName text = IsTrue (is_unqualified_name text)
IsIn MethodName text = IsTrue (is_method_name text)
IsIn FieldDescriptor text = IsFieldDescriptor text
IsIn MethodDescriptor text = IsMethodDescriptor text

-- ---- entries

-- The entry is of a kind.
abbrev pub is_of_kind : EntryKind → PoolEntry → Bool
is_of_kind kinds.Text (Utf8 bytes) = true
is_of_kind kinds.Class (Class name) = true
is_of_kind kinds.Field (Fieldref class signature) = true
is_of_kind kinds.Method (Methodref class signature) = true
is_of_kind kinds.InterfaceMethod (InterfaceMethodref class signature) = true
is_of_kind kinds.NameAndType (NameAndType name descriptor) = true
is_of_kind kinds.Integer (Integer bits) = true
is_of_kind kinds.Float (Float bits) = true
is_of_kind kinds.Long (Long bits) = true
is_of_kind kinds.Double (Double bits) = true
is_of_kind kinds.Str (Str text) = true
is_of_kind kinds.MethodHandle (MethodHandle kind member) = true
is_of_kind kinds.MethodType (MethodType descriptor) = true
is_of_kind kinds.InvokeDynamic (InvokeDynamic bootstrap signature) = true
is_of_kind _ _ = false

-- The index leads to an entry of one of these kinds.
abbrev pub leads_to : List PoolEntry → List EntryKind → ℕ → Bool
leads_to pool allowed index = option_map_or (λ (e : PoolEntry). list_any (λ (k : EntryKind). is_of_kind k e) allowed) (entry_at pool index) false

-- What a method handle of a kind may be for, in a class file of a major version (JVMS 4.4.8).
abbrev pub handle_targets : ℕ → ℕ → List EntryKind
handle_targets major kind =
    if nat_le 1 kind && nat_le kind 4 then kinds.Field ∷ []
    else if kind == 5 || kind == 8 then kinds.Method ∷ []
    else if kind == 6 || kind == 7 then (if major == 52 then kinds.Method ∷ kinds.InterfaceMethod ∷ [] else kinds.Method ∷ [])
    else if kind == 9 then kinds.InterfaceMethod ∷ []
    else []

-- ---- code

-- The attribute is named Code.
abbrev pub is_code : List PoolEntry → Attribute → Bool
is_code pool a = option_map_or (bytes_eq (codes "Code")) (text_at pool a.name) false

-- The method is to have code: it is neither native nor abstract (JVMS 4.7.3).
abbrev pub wants_code : Member → Bool
wants_code m = not (has_flag m.flags Native || has_flag m.flags Abstract)

-- ---- uses, and what has to hold

pub data Use : Type 0 where
  -- the bytes of a text
  text_bytes : (bytes : List ℕ) → Use
  -- an index, which leads to an entry of one of these kinds
  leads : (allowed : List EntryKind) → (index : ℕ) → Use
  -- an index of a superclass, beside that of the class: only java/lang/Object has none, which is written 0
  superclass : (this_class index : ℕ) → Use
  -- a text at an index, which is in a grammar
  in_grammar : (grammar : Grammar) → (index : ℕ) → Use
  -- a name and a descriptor at an index, which are in two grammars
  signature : (names descriptors : Grammar) → (index : ℕ) → Use
  -- a name and a descriptor at two indices, which are those of a field or of a method
  either_signature : (name descriptor : ℕ) → Use
  -- a class at an index, which is no array
  no_array : (index : ℕ) → Use
  -- a member, whose name and descriptor are not those of an earlier one
  differs : (earlier : List Member) → (m : Member) → Use
  -- a method, which has code if it is to have it
  code_there : (m : Member) → Use
  -- an attribute of a method, which is no code if the method is to have none, or has one already
  code_allowed : (m : Member) → (earlier : List Attribute) → (a : Attribute) → Use

-- The text at an index, if there is one, is in the grammar.
abbrev pub TextIsIn : List PoolEntry → Grammar → ℕ → Type 0
TextIsIn pool grammar index = (text : List ℕ) → text_at pool index ≡ Some text → IsIn grammar text

abbrev pub UseHolds : List PoolEntry → Use → Type 0
UseHolds pool (text_bytes bytes) = list_all is_text_byte bytes ≡ true
UseHolds pool (leads allowed index) = leads_to pool allowed index ≡ true
UseHolds pool (superclass this_class index) =
    (leads_to pool (kinds.Class ∷ []) index ≡ true) ⊎ ((index ≡ 0) × (class_name_at pool this_class ≡ Some (codes "java/lang/Object")))
UseHolds pool (in_grammar grammar index) = TextIsIn pool grammar index
UseHolds pool (signature names descriptors index) =
    (name descriptor : ℕ) → entry_at pool index ≡ Some (NameAndType name descriptor) → TextIsIn pool names name × TextIsIn pool descriptors descriptor
UseHolds pool (either_signature name descriptor) =
    (TextIsIn pool MethodName name × TextIsIn pool MethodDescriptor descriptor) ⊎ (TextIsIn pool FieldName name × TextIsIn pool FieldDescriptor descriptor)
UseHolds pool (no_array index) = (name : List ℕ) → class_name_at pool index ≡ Some name → is_array name ≡ false
UseHolds pool (differs earlier m) =
    (name descriptor : List ℕ) → text_at pool m.name ≡ Some name → text_at pool m.descriptor ≡ Some descriptor
    → (e : Member) → Contains earlier e → text_at pool e.name ≡ Some name → text_at pool e.descriptor ≡ Some descriptor → ⊥
UseHolds pool (code_there m) = wants_code m ≡ true → list_any (is_code pool) m.attributes ≡ true
UseHolds pool (code_allowed m earlier a) = is_code pool a ≡ true → (wants_code m ≡ true) × (list_any (is_code pool) earlier ≡ false)

-- The reason where a use does not hold.
abbrev pub reason_of : Use → Reason
reason_of (text_bytes bytes) = BadUtf8
reason_of (leads allowed index) = BadIndex
reason_of (superclass this_class index) = BadIndex
reason_of (in_grammar grammar index) = BadDescriptor
reason_of (signature names descriptors index) = BadDescriptor
reason_of (either_signature name descriptor) = BadDescriptor
reason_of (no_array index) = BadDescriptor
reason_of (differs earlier m) = BadDescriptor
reason_of (code_there m) = CodeMissing
reason_of (code_allowed m earlier a) = CodeUnexpected

-- ---- the places of a class file

-- A use, and the file offset where its breach is reported.
pub record PlacedUse : Type 0 where
  pub offset : ℕ
  pub use_ : Use

-- Uses at one offset, in the order of their reasons.
abbrev pub at_offset : ℕ → List Use → List PlacedUse
at_offset offset uses = map (λ (u : Use). record { offset = offset; use_ = u }) uses

-- A text at an index, in a grammar.
abbrev pub text_uses : Grammar → ℕ → List Use
text_uses grammar index = leads (kinds.Text ∷ []) index ∷ in_grammar grammar index ∷ []

-- A class that the class file names beside its pool: an interface, for one.
abbrev pub class_uses : ℕ → List Use
class_uses index = leads (kinds.Class ∷ []) index ∷ no_array index ∷ []

-- A field or a method that an entry names: its class, and its name and descriptor (JVMS 4.4.2).
abbrev pub reference_uses : Grammar → Grammar → ℕ → ℕ → List Use
reference_uses names descriptors class member = leads (kinds.Class ∷ []) class ∷ leads (kinds.NameAndType ∷ []) member ∷ signature names descriptors member ∷ []

-- The uses in an entry: a breach of one is reported at its tag (JVMS 4.4).
abbrev pub entry_uses : ℕ → PoolEntry → List Use
entry_uses major (Utf8 bytes) = text_bytes bytes ∷ []
entry_uses major (Integer bits) = []
entry_uses major (Float bits) = []
entry_uses major (Long bits) = []
entry_uses major (Double bits) = []
entry_uses major (Class name) = text_uses ClassOrArray name
entry_uses major (Str text) = leads (kinds.Text ∷ []) text ∷ []
entry_uses major (Fieldref class member) = reference_uses FieldName FieldDescriptor class member
entry_uses major (Methodref class member) = reference_uses MethodName MethodDescriptor class member
entry_uses major (InterfaceMethodref class member) = reference_uses MethodName MethodDescriptor class member
entry_uses major (NameAndType name descriptor) = leads (kinds.Text ∷ []) name ∷ leads (kinds.Text ∷ []) descriptor ∷ either_signature name descriptor ∷ []
entry_uses major (MethodHandle kind reference) = leads (handle_targets major kind) reference ∷ []
entry_uses major (MethodType descriptor) = text_uses MethodDescriptor descriptor
entry_uses major (InvokeDynamic bootstrap member) = leads (kinds.NameAndType ∷ []) member ∷ signature MethodName MethodDescriptor member ∷ []
entry_uses major Taken = []

-- The places of items that stand one after the other, from an offset on: those of each item, at its offset and after
-- the earlier items, by the number of bytes that an item takes.
abbrev pub each_place : {X : Type 0} → (ℕ → List X → X → List PlacedUse) → (X → ℕ) → ℕ → List X → List X → List PlacedUse
each_place places size offset earlier [] = []
each_place places size offset earlier (x ∷ items) = places offset earlier x ++ each_place places size (offset + size x) (earlier ++ x ∷ []) items

-- An entry of the constant pool.
abbrev pub entry_places : ℕ → ℕ → List PoolEntry → PoolEntry → List PlacedUse
entry_places major offset earlier e = at_offset offset (entry_uses major e)

-- An attribute of the class or of a field (JVMS 4.7).
abbrev pub attribute_places : ℕ → List Attribute → Attribute → List PlacedUse
attribute_places offset earlier a = at_offset offset (leads (kinds.Text ∷ []) a.name ∷ [])

-- An attribute of a method (JVMS 4.7.3).
abbrev pub code_places : Member → ℕ → List Attribute → Attribute → List PlacedUse
code_places m offset earlier a = at_offset offset (leads (kinds.Text ∷ []) a.name ∷ code_allowed m earlier a ∷ [])

-- The name and the descriptor of a member, two bytes each.
abbrev pub name_places : Grammar → Grammar → ℕ → List Member → Member → List PlacedUse
name_places names descriptors offset earlier m = at_offset offset (text_uses names m.name ++ differs earlier m ∷ []) ++ at_offset (offset + 2) (text_uses descriptors m.descriptor)

-- A field (JVMS 4.5).
abbrev pub field_places : ℕ → List Member → Member → List PlacedUse
field_places offset earlier m =
    name_places FieldName FieldDescriptor (offset + 2) earlier m ++ each_place attribute_places (λ a. length (attribute a)) (offset + 8) [] m.attributes

-- A method (JVMS 4.6).
abbrev pub method_places : ℕ → List Member → Member → List PlacedUse
method_places offset earlier m =
    at_offset offset (code_there m ∷ [])
    ++ (name_places MethodName MethodDescriptor (offset + 2) earlier m ++ each_place (code_places m) (λ a. length (attribute a)) (offset + 8) [] m.attributes)

-- Where the flags of the class stand, right after the constant pool; the first interface; the first field; the first
-- method; and the first attribute of the class.
abbrev pub flags_offset : ClassFile → ℕ
flags_offset c = 10 + length (flat_map entry c.pool)

-- The index of the class itself, and that of its superclass, stand after the flags, two bytes each.
abbrev pub this_class_offset : ClassFile → ℕ
this_class_offset c = flags_offset c + 2

abbrev pub super_class_offset : ClassFile → ℕ
super_class_offset c = flags_offset c + 4

abbrev pub interfaces_offset : ClassFile → ℕ
interfaces_offset c = flags_offset c + 8

abbrev pub fields_offset : ClassFile → ℕ
fields_offset c = interfaces_offset c + 2 * length c.interfaces + 2

abbrev pub methods_offset : ClassFile → ℕ
methods_offset c = fields_offset c + length (flat_map member c.fields) + 2

abbrev pub attributes_offset : ClassFile → ℕ
attributes_offset c = methods_offset c + length (flat_map member c.methods) + 2

-- The class, its superclass and its interfaces.
abbrev pub header_places : ClassFile → List PlacedUse
header_places c =
    at_offset (this_class_offset c) (class_uses c.this_class)
    ++ (at_offset (super_class_offset c) (superclass c.this_class c.super_class ∷ no_array c.super_class ∷ [])
    ++ each_place (λ offset earlier index. at_offset offset (class_uses index)) (λ index. 2) (interfaces_offset c) [] c.interfaces)

-- The fields, the methods and the attributes of the class.
abbrev pub body_places : ClassFile → List PlacedUse
body_places c =
    each_place field_places (λ m. length (member m)) (fields_offset c) [] c.fields
    ++ (each_place method_places (λ m. length (member m)) (methods_offset c) [] c.methods
    ++ each_place attribute_places (λ a. length (attribute a)) (attributes_offset c) [] c.attributes)

-- All places, in the order of the file.
abbrev pub places_of : ClassFile → List PlacedUse
places_of c = each_place (entry_places c.major) (λ e. length (entry e)) 10 [] c.pool ++ (header_places c ++ body_places c)

-- Each use holds.
abbrev pub IsSoundClass : ClassFile → Type 0
IsSoundClass c = All (λ (p : PlacedUse). UseHolds c.pool p.use_) (places_of c)

-- A class file that was checked (JVMS 4.8): each number fits its field, each use holds, and four bytes count its bytes.
pub record IsChecked (c : ClassFile) : Type 0 where
  pub fits : ClassFits c
  pub sound : IsSoundClass c
  pub size : length (spell c) < 2 ^ 32
