-- Public contracts rest on this module.
-- Sets of numbers: which numbers are in a set, all of them in ascending order, and what changes when numbers are added.
use Rattle.std.specs.Prelude.{◌≡◌, ◌==◌, ◌↔◌, ◌⊎◌, ℕ, suc, ◌+◌, ◌*◌, Bool, true, false, List, length}
use Rattle.std.specs.List.{filter, range_with_len}
use Rattle.bit_rows.specs.declared.set.NumberSet.{NumberSet}
use Rattle.bit_rows.specs.declared.set.NumberSet.TheVariants.{Empty, One, Many}
use Rattle.bit_rows.specs.Words.{row_has}

-- Whether a number is in a set.
abbrev pub has_number : NumberSet → ℕ → Bool
has_number Empty n = false
has_number (One held) n = held == n
has_number (Many row) n = row_has row.first row.words.items n

-- The number is in the set.
pub record IsIn (set : NumberSet) (n : ℕ) : Type 0 where
  pub there : has_number set n ≡ true

-- A number above all of a set.
abbrev pub end_of : NumberSet → ℕ
end_of Empty = 0
end_of (One held) = suc held
end_of (Many row) = 64 * (row.first + length row.words.items)

-- The numbers of a set, in ascending order.
unfoldable pub numbers_of : NumberSet → List ℕ
numbers_of set = filter (has_number set) (range_with_len 0 (end_of set))

-- The number is in both sets.
pub record IsInBoth (one other : NumberSet) (n : ℕ) : Type 0 where
  pub left : IsIn one n
  pub right : IsIn other n

-- ---- one set after another

-- The new set has what the old one has, and no more.
pub record HasSame (old new : NumberSet) : Type 0 where
  pub each : (n : ℕ) → IsIn new n ↔ IsIn old n

-- What is in the old set is in the new one, and besides it nothing but numbers with P.
pub record HasAtMost (old new : NumberSet) (P : ℕ → Type 0) : Type 0 where
  pub kept : (n : ℕ) → IsIn old n → IsIn new n
  pub only : (n : ℕ) → IsIn new n → IsIn old n ⊎ P n

-- The new set has what is in the old one, and all numbers with P, and no others.
pub record HasMore (old new : NumberSet) (P : ℕ → Type 0) : Type 0 where
  pub at_most : HasAtMost old new P
  pub added : (n : ℕ) → P n → IsIn new n

-- The number has P, and is not held yet.
pub record IsNew (held : NumberSet) (P : ℕ → Type 0) (n : ℕ) : Type 0 where
  pub offered : P n
  pub absent : IsIn held n → ⊥

-- No number that has P is in the set.
pub record HasNone (set : NumberSet) (P : ℕ → Type 0) : Type 0 where
  pub none : (n : ℕ) → P n → IsIn set n → ⊥
