use Rattle.std.proofs.Common.{◌≤◌, length}
use Rattle.fact_pool.specs.Chains.{AreHeads}
use Rattle.fact_pool.specs.Layout.{buckets_of, rows_of}
use Rattle.fact_pool.proofs.chains.unlink.Given as goal

abbrev pub invariant-loop-held : goal.invariant-loop-held
invariant-loop-held l = record {
  within : l.held ≤ length l.entries;
  no_further : l.kept ≤ l.held;
  heads_last : AreHeads (buckets_of (rows_of l.words l.entries) (length l.heads)) l.held l.heads;
}

abbrev pub decreases-loop-held : goal.decreases-loop-held
decreases-loop-held l = l.held
