-- Proofs of this crate alone rest on this module.
-- The rows of a bucket form a chain, from the last one down. A chain names a row by one more than its number, and ends with 0.
use Rattle.std.specs.Prelude.{◌≡◌, ℕ, suc, ◌<◌, ◌≤◌, List, Some, length, slice_get}
use Rattle.std.specs.List.{slice_index}
use Rattle.fact_pool.specs.declared.entry.Entry.{Entry}
use Rattle.fact_pool.specs.Hashes.{bucket_of, hash_of}
use Rattle.fact_pool.specs.Layout.{Ascend, buckets_of, ends_of, rows_of}

-- Of the rows below n, the last one in a bucket is named: `buckets` has the bucket of each row.
pub record IsLast (buckets : List ℕ) (n bucket named : ℕ) : Type 0 where
  pub below : named ≤ n
  pub there : (r : ℕ) → named ≡ suc r → slice_get buckets r ≡ Some bucket
  pub none_later : (r : ℕ) → named ≤ r → r < n → slice_get buckets r ≡ Some bucket → ⊥

-- The head of each bucket's chain names the last of the rows below n that is in it.
pub record AreHeads (buckets : List ℕ) (n : ℕ) (heads : List ℕ) : Type 0 where
  pub at_bucket : (bucket : ℕ) → IsLast buckets n bucket (slice_index heads bucket)

-- The entry of each row below n names the last row before it that is in its bucket, among `count`.
pub record AreLinked (rows : List (List ℕ)) (entries : List Entry) (count n : ℕ) : Type 0 where
  pub at_row : (r : ℕ) (e : Entry) (row : List ℕ) → r < n → slice_get entries r ≡ Some e → slice_get rows r ≡ Some row
      → IsLast (buckets_of rows count) r (bucket_of (hash_of row) count) e.next

-- Entries and heads form the chains of rows.
pub record AreChained (rows : List (List ℕ)) (entries : List Entry) (heads : List ℕ) : Type 0 where
  pub heads_last : AreHeads (buckets_of rows (length heads)) (length entries) heads
  pub links_last : AreLinked rows entries (length heads) (length entries)

-- Words, entries and heads are a table of rows: each row has an entry, and is found by its words.
pub record IsTable (words : List ℕ) (entries : List Entry) (heads : List ℕ) : Type 0 where
  pub ends_ascend : Ascend 0 (ends_of entries) (length words)
  pub row_each : length (rows_of words entries) ≡ length entries
  pub chained : AreChained (rows_of words entries) entries heads
