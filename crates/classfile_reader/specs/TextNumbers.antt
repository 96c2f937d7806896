-- Only the proofs of this crate rest on this module.
-- Numbers for texts of a constant pool, which are the same exactly where the bytes are the same.
use Rattle.std.specs.Prelude.{◌≡◌, ℕ, List, Option, Some, None, nat_eq}
use Rattle.std.specs.Borrow.{Bor}
use Rattle.std.specs.HashMap.{HashMap, get, get_by}
use Rattle.std.specs.Str.{bytes_eq}
use Rattle.jvm_model.specs.declared.pool.PoolEntry.{PoolEntry}
use Rattle.jvm_model.specs.Lookups.{text_at}
use Rattle.classfile_reader.specs.declared.soundness.text_numbers.TextNumbers.{TextNumbers}

-- The number that a text has, if it has one.
abbrev pub number_of : {S : Type 0} → HashMap (Bor (List ℕ)) ℕ S → List ℕ → Option ℕ
number_of by_text text = get_by (λ (known : Bor (List ℕ)). bytes_eq text known.now) by_text

-- There is a text at the index, and this is its number.
pub record HasNumber (pool : List PoolEntry) (numbers : TextNumbers) (index number : ℕ) : Type 0 where
  pub text : List ℕ
  pub stands : text_at pool index ≡ Some text
  pub numbered : number_of numbers.by_text text ≡ Some number

-- The number at an index, if there is a text.
abbrev pub IsNumberAt : List PoolEntry → TextNumbers → ℕ → Option ℕ → Type 0
IsNumberAt pool numbers index None = text_at pool index ≡ None
IsNumberAt pool numbers index (Some number) = HasNumber pool numbers index number

-- The number of a text is an index at which it stands. An index that was asked for has the number of its text.
pub record AreNumbers (pool : List PoolEntry) (numbers : TextNumbers) : Type 0 where
  pub texts : (text : List ℕ) (number : ℕ) → number_of numbers.by_text text ≡ Some number → text_at pool number ≡ Some text
  pub indices : (index number : ℕ) → get nat_eq numbers.by_index index ≡ Some number → HasNumber pool numbers index number

-- A text that has a number keeps it.
pub record StayNumbered (old new : TextNumbers) : Type 0 where
  pub stay : (text : List ℕ) (number : ℕ) → number_of old.by_text text ≡ Some number → number_of new.by_text text ≡ Some number
