use Rattle.std.proofs.Common.{◌≡◌, List, take}
use Rattle.access_paths.specs.Paths.{Path}
use Rattle.fact_rows.specs.FactRows.{SetHasRows}
use Rattle.fact_rows.proofs.fact_row.unpack_paths.Given as goal

abbrev pub invariant-loop-number : goal.invariant-loop-number
invariant-loop-number l = (set : List Path) → SetHasRows l.pool.rows set l.numbers → l.set ≡ take l.number-index set
