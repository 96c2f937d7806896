-- Public contracts rest on this module.
-- What callers see of a pool: its rows, and how much more it takes without memory.
use Rattle.std.specs.Prelude.{◌≡◌, ℕ, ◌+◌, ◌≤◌, List, [], ◌∷◌, ◌++◌, Some, length, take, slice_get, sum_by, Contains}
use Rattle.fact_pool.specs.declared.row.Mark.{Mark}

-- The rows of a pool, each of which stands at its number. So many more rows, and so many more words, take no memory.
pub record PoolRows : Type 0 where
  pub rows : List (List ℕ)
  pub spare_rows : ℕ
  pub spare_words : ℕ

-- How many words rows have together.
abbrev pub word_count : List (List ℕ) → ℕ
word_count rows = sum_by (λ row. length row) rows

-- No two rows have the same words.
pub record AreDistinct (rows : List (List ℕ)) : Type 0 where
  pub one_place : (i j : ℕ) (row : List ℕ) → slice_get rows i ≡ Some row → slice_get rows j ≡ Some row → i ≡ j

-- Words are made a row: they were one, and nothing has changed; or they were not, and are the last row now.
pub data IsInterned (old new : PoolRows) (words : List ℕ) : Type 0 where
  was_held : Contains old.rows words → new ≡ old → IsInterned old new words
  is_added : (Contains old.rows words → ⊥) → new.rows ≡ old.rows ++ words ∷ [] → IsInterned old new words

-- So many more rows and words take no memory.
pub record HasSpare (pool : PoolRows) (rows words : ℕ) : Type 0 where
  pub rows_fit : rows ≤ pool.spare_rows
  pub words_fit : words ≤ pool.spare_words

-- How many rows a pool has room for, with those that it holds.
abbrev pub row_room : PoolRows → ℕ
row_room pool = length pool.rows + pool.spare_rows

-- How many words it has room for, with those of its rows.
abbrev pub word_room : PoolRows → ℕ
word_room pool = word_count pool.rows + pool.spare_words

-- There is no less room than there was.
pub record KeepsRoom (old new : PoolRows) : Type 0 where
  pub rows_stay : row_room old ≤ row_room new
  pub words_stay : word_room old ≤ word_room new

-- The mark stands after some front of the rows, with their words.
pub record IsMarked (rows : List (List ℕ)) (mark : Mark) : Type 0 where
  pub within : mark.rows ≤ length rows
  pub words_before : word_count (take mark.rows rows) ≡ mark.words
