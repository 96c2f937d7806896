-- This crate's own proofs alone rest on this module.
-- Reading a handler as two pairs of numbers.
use Rattle.std.specs.Prelude.{ℕ, List, Result, Ok}
use Rattle.std.specs.Int.{w16}
use Rattle.jvm_model.specs.declared.code.Handler.{Handler}
use Rattle.jvm_model.specs.declared.pool.PoolEntry.{PoolEntry}
use Rattle.jvm_model.specs.declared.reason.Fault.{Fault}
use Rattle.byte_reader.specs.Reading.{Place, ◌>>=◌, number_at}
use Rattle.code_reader.specs.declared.spot.Spot.{Spot}
use Rattle.code_reader.specs.CodeReading.{judged}

-- Two numbers of two bytes.
unfoldable pub pair_at : Place → Result ((ℕ × ℕ) × Place) Fault
pair_at place = do
  first ← number_at w16 place
  second ← number_at w16 first.1
  Ok ((first.0, second.0), second.1)

-- The handler, if it is one of code that is so long and is divided so.
unfoldable pub by_pairs_at : List PoolEntry → ℕ → List Spot → Place → Result (Handler × Place) Fault
by_pairs_at pool long spots place = do
  bounds ← pair_at place
  others ← pair_at bounds.1
  judged pool long spots place (record { start = bounds.0.0; finish = bounds.0.1; target = others.0.0; catch_type = others.0.1 }, others.1)
