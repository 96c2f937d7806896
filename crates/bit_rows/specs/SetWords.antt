-- This crate's own proofs alone rest on this module.
-- Rows and sets as words of 64 bits, and the bits that a set gets from others.
use Rattle.std.specs.Prelude.{◌≡◌, ℕ, ◌+◌, ◌*◌, true, List, length, bit_and, bit_xor}
use Rattle.std.specs.List.{filter, range_with_len}
use Rattle.bit_rows.specs.declared.row.BitRow.{BitRow}
use Rattle.bit_rows.specs.declared.set.NumberSet.{NumberSet}
use Rattle.bit_rows.specs.declared.set.NumberSet.TheVariants.{Empty, One, Many}
use Rattle.bit_rows.specs.Words.{row_has, word_at, word_of_one}

-- The word of a row with this number.
abbrev pub row_word : BitRow → ℕ → ℕ
row_word row place = word_at row.first row.words.items place

-- The number is in the row.
abbrev pub IsInRow : BitRow → ℕ → Type 0
IsInRow row n = row_has row.first row.words.items n ≡ true

-- The numbers of a row, in ascending order.
abbrev pub row_numbers : BitRow → List ℕ
row_numbers row = filter (row_has row.first row.words.items) (range_with_len 0 (64 * (row.first + length row.words.items)))

-- The rows have the same words.
abbrev pub IsSameRow : BitRow → BitRow → Type 0
IsSameRow old new = (new.first ≡ old.first) × (new.words.items ≡ old.words.items)

-- The word with this number of the bits of a set.
abbrev pub word_of : NumberSet → ℕ → ℕ
word_of Empty place = 0
word_of (One held) place = word_of_one held place
word_of (Many row) place = row_word row place

-- The bits of a word that are new: of those that are offered and fit, the ones that are not held.
abbrev pub new_bits : (held offered mask : ℕ) → ℕ
new_bits held offered mask = let fitting = bit_and offered mask in bit_xor fitting (bit_and fitting held)

-- The new bits of the word with this number.
abbrev pub new_word : (held offered mask : NumberSet) (place : ℕ) → ℕ
new_word held offered mask place = new_bits (word_of held place) (word_of offered place) (word_of mask place)
