-- The room of a pool: a row for each bucket, and the words that their vector has room for.
use Rattle.std.proofs.Common.{◌≡◌, ℕ, ◌+◌, ◌-◌, ◌≤◌, List, length, arith}
use Rattle.fact_pool.specs.declared.entry.Entry.{Entry}
use Rattle.fact_pool.specs.Layout.{Ascend, ends_of, rows_of}
use Rattle.fact_pool.specs.Rows.{word_count}
use Rattle.fact_pool.proofs.Finding.{length-rows_of}
use Rattle.fact_pool.proofs.Releasing.{word_count-rows}

pub row_room_is : (words : List ℕ) (entries : List Entry) (held buckets : ℕ) → held ≡ length entries → held ≤ buckets
    → length (rows_of words entries) + (buckets - held) ≡ buckets
row_room_is words entries held buckets all within = omega (arith, length-rows_of words entries)

pub word_room_is : (words : List ℕ) (entries : List Entry) (held room : ℕ) → Ascend 0 (ends_of entries) (length words) → held ≡ length words → held ≤ room
    → word_count (rows_of words entries) + (room - held) ≡ room
word_room_is words entries held room up all within = omega (arith, word_count-rows words entries up)
