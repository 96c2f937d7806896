-- Only the proofs of this crate rest on this module.
-- Members that have the name and the descriptor of an earlier one.
use Rattle.std.specs.Prelude.{◌≡◌, ℕ, Bool, true, false, ◌&&◌, List, length, take, Contains, Option, Some, None, nat_eq, slice_get}
use Rattle.std.specs.HashSet.{HashSet, contains}
use Rattle.std.specs.Option.{option_map_or}
use Rattle.jvm_model.specs.declared.class_file.Member.{Member}
use Rattle.jvm_model.specs.declared.pool.PoolEntry.{PoolEntry}
use Rattle.jvm_model.specs.Lookups.{text_at}
use Rattle.jvm_model.specs.Soundness.{UseHolds}
use Rattle.jvm_model.specs.Soundness.Use.{differs}
use Rattle.classfile_reader.specs.TextNumbers.{HasNumber}
use Rattle.classfile_reader.specs.declared.soundness.repeats.NumberedSignature.{NumberedSignature}
use Rattle.classfile_reader.specs.declared.soundness.text_numbers.TextNumbers.{TextNumbers}

-- The answer says whether the member has the name and the descriptor of an earlier one.
pub record IsRepeat (pool : List PoolEntry) (earlier : List Member) (m : Member) (answer : Bool) : Type 0 where
  pub fresh : answer ≡ false → UseHolds pool (differs earlier m)
  pub repeated : answer ≡ true → UseHolds pool (differs earlier m) → ⊥

-- The answers tell of each member, in turn, whether an earlier one has its name and its descriptor.
pub record AreRepeats (pool : List PoolEntry) (members : List Member) (answers : List Bool) : Type 0 where
  pub long : length answers ≡ length members
  pub each : (k : ℕ) (m : Member) (answer : Bool) → slice_get members k ≡ Some m → slice_get answers k ≡ Some answer → IsRepeat pool (take k members) m answer

-- Two pairs of numbers are the same.
abbrev pub signature_eq : NumberedSignature → NumberedSignature → Bool
signature_eq s t = nat_eq s.name t.name && nat_eq s.descriptor t.descriptor

-- The member's name and descriptor are texts, and these are their numbers.
pub record HasNumbers (pool : List PoolEntry) (numbers : TextNumbers) (m : Member) (s : NumberedSignature) : Type 0 where
  pub name : HasNumber pool numbers m.name s.name
  pub descriptor : HasNumber pool numbers m.descriptor s.descriptor

-- The numbers of the member's name and descriptor, if both are texts.
abbrev pub IsSignature : List PoolEntry → TextNumbers → Member → Option NumberedSignature → Type 0
IsSignature pool numbers m None = (name descriptor : List ℕ) → text_at pool m.name ≡ Some name → text_at pool m.descriptor ≡ Some descriptor → ⊥
IsSignature pool numbers m (Some s) = HasNumbers pool numbers m s

-- The member's numbers, if it has them, are among the signatures.
pub record IsListed {S : Type 0} (pool : List PoolEntry) (numbers : TextNumbers) (signatures : HashSet NumberedSignature S) (m : Member) : Type 0 where
  pub signature : Option NumberedSignature
  pub is : IsSignature pool numbers m signature
  pub listed : option_map_or (contains signature_eq signatures) signature true ≡ true

-- The signatures are those of the earlier members.
pub record AreEarlier {S : Type 0} (pool : List PoolEntry) (earlier : List Member) (numbers : TextNumbers) (signatures : HashSet NumberedSignature S) : Type 0 where
  pub among : (s : NumberedSignature) → contains signature_eq signatures s ≡ true → (m : Member) × Contains earlier m × HasNumbers pool numbers m s
  pub each : (m : Member) → Contains earlier m → IsListed pool numbers signatures m
