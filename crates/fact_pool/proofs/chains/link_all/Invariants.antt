use Rattle.std.proofs.Common.{◌≡◌, length}
use Rattle.fact_pool.specs.Chains.{AreHeads, AreLinked}
use Rattle.fact_pool.specs.Layout.{buckets_of, ends_of, rows_of}
use Rattle.fact_pool.proofs.chains.link_all.Given as goal

abbrev pub invariant-loop-row : goal.invariant-loop-row
invariant-loop-row l = record {
  same_ends : ends_of l.entries ≡ ends_of l.initial.entries;
  heads_last : AreHeads (buckets_of (rows_of l.words l.initial.entries) (length l.heads)) l.row l.heads;
  links_last : AreLinked (rows_of l.words l.initial.entries) l.entries (length l.heads) l.row;
}
