-- Proofs of this crate alone rest on this module.
-- How rows lie in memory: their words one after another, and an entry for each.
use Rattle.std.specs.Prelude.{◌≡◌, ℕ, ◌≤◌, List, [], ◌∷◌, drop, map, take}
use Rattle.fact_pool.specs.declared.entry.Entry.{Entry}
use Rattle.fact_pool.specs.Hashes.{bucket_of, hash_of}

-- Where the words of each row end.
abbrev pub ends_of : List Entry → List ℕ
ends_of entries = map (λ (e : Entry). e.end) entries

-- The rows that end at these places, where the first begins at `start`.
abbrev pub rows_from : List ℕ → ℕ → List ℕ → List (List ℕ)
rows_from words start [] = []
rows_from words start (end ∷ ends) = drop start (take end words) ∷ rows_from words end ends

-- The rows of words and entries.
abbrev pub rows_of : List ℕ → List Entry → List (List ℕ)
rows_of words entries = rows_from words 0 (ends_of entries)

-- The bucket of each row, among so many.
abbrev pub buckets_of : List (List ℕ) → ℕ → List ℕ
buckets_of rows count = map (λ (row : List ℕ). bucket_of (hash_of row) count) rows

-- Ends ascend from `start`, and the last one is `total`.
abbrev pub Ascend : ℕ → List ℕ → ℕ → Type 0
Ascend start [] total = start ≡ total
Ascend start (end ∷ ends) total = (start ≤ end) × Ascend end ends total
