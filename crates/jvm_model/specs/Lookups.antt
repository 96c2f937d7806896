-- Public contracts rest on this module.
-- What an index of the constant pool stands for.
use Rattle.std.specs.Prelude.{ℕ, zero, suc, List, Option, Some, None, option_and_then, option_map, slice_get}
use Rattle.jvm_model.specs.declared.lookup.MemberReference.{MemberReference as LentReference}
use Rattle.jvm_model.specs.declared.lookup.Signature.{Signature as LentSignature}
use Rattle.jvm_model.specs.declared.pool.PoolEntry.{PoolEntry}
use Rattle.jvm_model.specs.declared.pool.PoolEntry.TheVariants.{Utf8, Class, Methodref, NameAndType}

-- The entry at an index. Indices count from 1 (JVMS 4.1).
abbrev pub entry_at : List PoolEntry → ℕ → Option PoolEntry
entry_at pool zero = None
entry_at pool (suc place) = slice_get pool place

-- The bytes of an entry that is a text.
abbrev pub text_in : PoolEntry → Option (List ℕ)
text_in (Utf8 bytes) = Some bytes
text_in _ = None

-- The bytes of the text at an index (JVMS 4.4.7).
abbrev pub text_at : List PoolEntry → ℕ → Option (List ℕ)
text_at pool index = option_and_then text_in (entry_at pool index)

abbrev pub class_index_in : PoolEntry → Option ℕ
class_index_in (Class name) = Some name
class_index_in _ = None

-- The name of the class at an index (JVMS 4.4.1).
abbrev pub class_name_at : List PoolEntry → ℕ → Option (List ℕ)
class_name_at pool index = option_and_then (text_at pool) (option_and_then class_index_in (entry_at pool index))

-- A name and a descriptor.
pub record Signature : Type 0 where
  pub name : List ℕ
  pub descriptor : List ℕ

-- The name and the descriptor that are lent.
abbrev pub lent_signature : LentSignature → Signature
lent_signature s = record { name = s.name.now; descriptor = s.descriptor.now }

abbrev pub signature_in : List PoolEntry → PoolEntry → Option Signature
signature_in pool (NameAndType name descriptor) =
    option_and_then (λ (n : List ℕ). option_map (λ (d : List ℕ). record { name = n; descriptor = d }) (text_at pool descriptor)) (text_at pool name)
signature_in pool _ = None

-- The name and the descriptor at an index (JVMS 4.4.6).
abbrev pub signature_at : List PoolEntry → ℕ → Option Signature
signature_at pool index = option_and_then (signature_in pool) (entry_at pool index)

-- A field or a method that is named: its class, and its name and descriptor.
pub record MemberReference : Type 0 where
  pub class : List ℕ
  pub signature : Signature

-- The reference that is lent.
abbrev pub lent_reference : LentReference → MemberReference
lent_reference m = record { class = m.class.now; signature = lent_signature m.signature }

abbrev pub method_in : List PoolEntry → PoolEntry → Option MemberReference
method_in pool (Methodref class signature) =
    option_and_then (λ (c : List ℕ). option_map (λ (s : Signature). record { class = c; signature = s }) (signature_at pool signature)) (class_name_at pool class)
method_in pool _ = None

-- The method that a Methodref at an index names (JVMS 4.4.2).
abbrev pub method_at : List PoolEntry → ℕ → Option MemberReference
method_at pool index = option_and_then (method_in pool) (entry_at pool index)
