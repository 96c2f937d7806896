-- Public contracts rest on this module.
-- Rows of words of 64 bits. Number n is bit n % 64 of word n / 64. A row has words one after another, and the number of the first of them.
use Rattle.std.specs.Prelude.{◌==◌, ℕ, ◌-◌, ◌/◌, ◌%◌, ◌^◌, ◌<◌, ◌≤◌, Bool, List, length, nat_lt, slice_index, if◌then◌else◌}
use Rattle.std.specs.Int.{bit_at}

-- The word with this number, where the first of the words has the number `first`. It is 0 before the first word and behind the last one.
abbrev pub word_at : ℕ → List ℕ → ℕ → ℕ
word_at first words place = if nat_lt place first then 0 else slice_index words (place - first)

-- Whether a number is in a row: the bit of its word.
abbrev pub row_has : ℕ → List ℕ → ℕ → Bool
row_has first words n = bit_at (word_at first words (n / 64)) (n % 64) == 1

-- The word with this number of a row that has one number alone.
abbrev pub word_of_one : ℕ → ℕ → ℕ
word_of_one n place = if n / 64 == place then 2 ^ (n % 64) else 0

-- Neither the first word nor the last one is 0. So there is one, and the row is as short as it can be.
pub record IsTrimmed (words : List ℕ) : Type 0 where
  pub first : 0 < slice_index words 0
  pub last : 0 < slice_index words (length words - 1)

-- The number passes, is not below `low`, and is the least such number.
pub record IsNextOf (passes : ℕ → Type 0) (low n : ℕ) : Type 0 where
  pub from : low ≤ n
  pub there : passes n
  pub before : (k : ℕ) → low ≤ k → k < n → passes k → ⊥

-- No number passes from this one on.
pub record HasNoneFrom (passes : ℕ → Type 0) (low : ℕ) : Type 0 where
  pub none : (k : ℕ) → low ≤ k → passes k → ⊥
