-- Reading a handler number after number is reading it as two pairs.
use Rattle.std.proofs.Common.{◌≡◌, ℕ, List, Result, Ok, Err, refl}
use Rattle.jvm_model.specs.declared.pool.PoolEntry.{PoolEntry}
use Rattle.jvm_model.specs.declared.reason.Fault.{Fault}
use Rattle.byte_reader.specs.Reading.{Place, ◌>>=◌}
use Rattle.code_reader.specs.declared.spot.Spot.{Spot}
use Rattle.code_reader.specs.CodeReading.{handler_at}
use Rattle.code_reader.specs.HandlerParts.{pair_at, by_pairs_at}

-- a reading that is the end of an earlier one goes on as that one does
then_then : {A B C : Type 0} (r : Result A Fault) (f : A → Result B Fault) (g : B → Result C Fault) → ((r >>= f) >>= g) ≡ (r >>= λ x. f x >>= g)
then_then (Ok x) f g = refl
then_then (Err e) f g = refl

pub handler_in_pairs : (pool : List PoolEntry) (long : ℕ) (spots : List Spot) (place : Place) → handler_at pool long spots place ≡ by_pairs_at pool long spots place
unfolding handler_at pair_at by_pairs_at
handler_in_pairs pool long spots place = simp then_then
