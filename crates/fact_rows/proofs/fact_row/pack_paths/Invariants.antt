use Rattle.std.proofs.Common.{◌≡◌, ◌+◌, take}
use Rattle.arrayvec.specs.ArrayVec.{array_vec_len}
use Rattle.fact_rows.specs.Packing.{GetsRows, GrowsBy}
use Rattle.fact_rows.proofs.fact_row.pack_paths.Given as goal

abbrev pub invariant-loop-path : goal.invariant-loop-path
invariant-loop-path l =
    GetsRows l.pool.rows (take l.path-index l.fn.set) l.initial.words.items l.words.items
    × (array_vec_len l.words ≡ array_vec_len l.initial.words + l.path-index)
    × GrowsBy l.path-index l.initial.pool l.pool
