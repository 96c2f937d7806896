use Rattle.std.proofs.Common.{◌≡◌, ℕ, suc, ◌≤◌, Some, length}
use Rattle.std.specs.List.{slice_get}
use Rattle.fact_pool.specs.Hashes.{bucket_of}
use Rattle.fact_pool.specs.Layout.{buckets_of, rows_of}
use Rattle.fact_pool.proofs.chains.find.Given as goal

-- No row from the named one on has the words; and the named one is in their bucket.
abbrev pub invariant-loop-named : goal.invariant-loop-named
invariant-loop-named l = record {
  within : l.named ≤ length l.entries;
  there : (r : ℕ) → l.named ≡ suc r → slice_get (buckets_of (rows_of l.words l.entries) (length l.heads)) r ≡ Some (bucket_of l.hash (length l.heads));
  none : (r : ℕ) → l.named ≤ r → slice_get (rows_of l.words l.entries) r ≡ Some l.wanted → ⊥;
}

abbrev pub decreases-loop-named : goal.decreases-loop-named
decreases-loop-named l = l.named
