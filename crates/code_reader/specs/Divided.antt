-- Only the proofs of this crate rest on this module.
-- What the code's division of a code array says.
use Rattle.std.specs.Prelude.{◌≡◌, ℕ, false, List, get_or}
use Rattle.jvm_model.specs.declared.pool.PoolEntry.{PoolEntry}
use Rattle.code_reader.specs.declared.division.Division.{Division as Divided}
use Rattle.code_reader.specs.Division.{Divides, starts}

-- Its table says where instructions start.
pub record KnowsStarts (d : Divided) : Type 0 where
  pub there : (offset : ℕ) → get_or d.starts.items offset false ≡ starts d.spots.items offset

-- It is the division of the code.
pub record IsDivision (pool : List PoolEntry) (code : List ℕ) (d : Divided) : Type 0 where
  pub divided : Divides pool code d.stop 0 d.spots.items
  pub starts_known : KnowsStarts d
