-- Proofs of this crate alone rest on this module.
-- A pool as its rows, and what always holds of its parts.
use Rattle.std.specs.Prelude.{◌-◌, ◌≤◌, ◌<◌, ◌^◌, min, vec_len, vec_capacity}
use Rattle.fact_pool.specs.declared.pool.FactPool.TheInside.{Inside}
use Rattle.fact_pool.specs.Rows.{AreDistinct, PoolRows}
use Rattle.fact_pool.specs.Layout.{rows_of}
use Rattle.fact_pool.specs.Chains.{IsTable}

-- The rows of a pool; a row for each bucket that is left, and the words that their vector has room for, up to 2^32 - 1.
abbrev pub pool_rows : Inside → PoolRows
pool_rows p = record {
  rows = rows_of p.words.items p.entries.items;
  spare_rows = vec_len p.heads - vec_len p.entries;
  spare_words = min (vec_capacity p.words) 4294967295 - vec_len p.words;
}

-- The parts are a table of different rows. There are as many buckets as rows at least, and there is room for an entry for each bucket.
pub record IsPool (p : Inside) : Type 0 where
  pub table : IsTable p.words.items p.entries.items p.heads.items
  pub distinct : AreDistinct (rows_of p.words.items p.entries.items)
  pub bucket_each : vec_len p.entries ≤ vec_len p.heads
  pub entry_each : vec_len p.heads ≤ vec_capacity p.entries
  pub few : vec_len p.heads < 2 ^ 32
  pub few_words : vec_len p.words < 2 ^ 32
