-- Proofs of this crate alone rest on this module.
-- How a pool grows while the paths of a fact are made rows.
use Rattle.std.specs.Prelude.{◌≡◌, ℕ, ◌+◌, ◌*◌, ◌≤◌, List, ◌++◌, length}
use Rattle.access_paths.specs.Paths.{Path}
use Rattle.fact_pool.specs.Rows.{HasSpare, KeepsRoom, PoolRows}
use Rattle.fact_rows.specs.PathRows.{KeepsRows}
use Rattle.fact_rows.specs.FactRows.{HaveRows}

-- At most so many rows were added, of at most five words each.
pub record GrowsBy (n : ℕ) (old new : PoolRows) : Type 0 where
  pub kept : KeepsRows old.rows new.rows
  pub few : length new.rows ≤ length old.rows + n
  pub room : KeepsRoom old new
  pub spare : (rows words : ℕ) → HasSpare old (rows + n) (words + 5 * n) → HasSpare new rows words

-- The rows of these paths went behind the words.
pub record GetsRows (rows : List (List ℕ)) (paths : List Path) (old new : List ℕ) : Type 0 where
  pub numbers : List ℕ
  pub behind : new ≡ old ++ numbers
  pub have : HaveRows rows paths numbers
