-- How a row is found: along the chain of its bucket, from the last row down.
use Rattle.std.proofs.Common.{◌≡◌, ℕ, ◌-◌, ◌<◌, ◌≤◌, List, length, get_or, Some, sym, ◌∙◌, ap, subst, arith, inl, inr}
use Rattle.std.specs.List.{slice_get}
use Rattle.std.proofs.lemmas.Bool.{cases_eq, cases_lt}
use Rattle.std.proofs.lemmas.List.{length-map}
use Rattle.std.proofs.lemmas.Option.{get_or_from_slice_get, slice_get_within}
use Rattle.list_laws.proofs.Places.{at_map, map_at, stands_below}
use Rattle.fact_pool.specs.declared.entry.Entry.{Entry}
use Rattle.fact_pool.specs.Chains.{AreLinked, IsLast}
use Rattle.fact_pool.specs.Hashes.{bucket_of, hash_of}
use Rattle.fact_pool.specs.Layout.{buckets_of, ends_of, rows_of}
use Rattle.fact_pool.proofs.RowLists.{length-rows_from}

-- there is an entry for each row
pub length-rows_of : (words : List ℕ) (entries : List Entry) → length (rows_of words entries) ≡ length entries
length-rows_of words entries = length-rows_from words 0 (ends_of entries) ∙ length-map entries (λ (e : Entry). e.end)

-- a row is in the bucket of its words
pub in_bucket : (rows : List (List ℕ)) (count r : ℕ) (row : List ℕ) → slice_get rows r ≡ Some row → slice_get (buckets_of rows count) r ≡ Some (bucket_of (hash_of row) count)
in_bucket rows count r row at = at_map (λ (words : List ℕ). bucket_of (hash_of words) count) rows r row at

-- the row that a row of a bucket names is the last one before it in the bucket
pub next_last : (rows : List (List ℕ)) (entries : List Entry) (count bucket r : ℕ) (d : Entry) → length rows ≡ length entries → AreLinked rows entries count (length entries)
    → slice_get (buckets_of rows count) r ≡ Some bucket
    → IsLast (buckets_of rows count) r bucket (get_or entries r d).next
next_last rows entries count bucket r d same linked at =
    let found = map_at (λ (words : List ℕ). bucket_of (hash_of words) count) rows r bucket at in
    let within : r < length entries = omega (arith, slice_get_within rows r found.0 found.1, same) in
    let own = stands_below entries r within in
    let read : get_or entries r d ≡ own.0 = get_or_from_slice_get entries r own.0 d own.1 in
    subst (λ (e : Entry). IsLast (buckets_of rows count) r bucket e.next) (sym read)
    (subst (λ (b : ℕ). IsLast (buckets_of rows count) r b own.0.next) found.2 (linked.at_row r own.0 found.0 within own.1 found.1))

-- where a chain begins, no later row has the words
pub none_after : (words : List ℕ) (entries : List Entry) (count named : ℕ) (wanted : List ℕ)
    → IsLast (buckets_of (rows_of words entries) count) (length entries) (bucket_of (hash_of wanted) count) named
    → (r : ℕ) → named ≤ r → slice_get (rows_of words entries) r ≡ Some wanted → ⊥
none_after words entries count named wanted last r from at =
    last.none_later r from (omega (arith, slice_get_within (rows_of words entries) r wanted at, length-rows_of words entries))
    (in_bucket (rows_of words entries) count r wanted at)

-- nor after the next of the chain, where the row that was looked at has others
pub none_after_next : (rows : List (List ℕ)) (count named next : ℕ) (wanted : List ℕ) → 0 < named
    → IsLast (buckets_of rows count) (named - 1) (bucket_of (hash_of wanted) count) next
    → (slice_get rows (named - 1) ≡ Some wanted → ⊥)
    → ((r : ℕ) → named ≤ r → slice_get rows r ≡ Some wanted → ⊥)
    → (r : ℕ) → next ≤ r → slice_get rows r ≡ Some wanted → ⊥
none_after_next rows count named next wanted some last others later r from at = elim (cases_eq r (named - 1)) [
  | inl same ↦ others (ap (slice_get rows) (sym same) ∙ at)
  | inr apart ↦ elim (cases_lt r named) [
    | inl less ↦ last.none_later r from (omega arith) (in_bucket rows count r wanted at)
    | inr more ↦ later r more at
  ]
]
