-- What is answered on the body of a Code attribute is what it gives.
use Rattle.std.proofs.Common.{◌≡◌, ℕ, List, Option, None, Err, length, refl, subst, sym}
use Rattle.jvm_model.specs.declared.pool.PoolEntry.{PoolEntry}
use Rattle.jvm_model.specs.declared.reason.Reason.{Reason}
use Rattle.failure.specs.declared.Failure.{Failure}
use Rattle.jvm_model.specs.declared.reason.Fault.{Fault}
use Rattle.failure.specs.declared.Failure.TheVariants.{Cause, OutOfMemory}
use Rattle.byte_reader.specs.Reading.{Place, Fails}
use Rattle.code_reader.specs.Bodies.{IsInCode, TellsBody}
use Rattle.code_reader.specs.CodeReading.{Head, head_at, tail_at, BeginsWith, code_fault, cut_before, wrong_after}
use Rattle.code_reader.specs.Division.{Spot}

-- the body is refused before its handlers
pub refused_before : (pool : List PoolEntry) (parameters : ℕ) (place : Place) (refusal told : Failure Fault) → IsInCode refusal told → Fails refusal (head_at place)
    → TellsBody pool parameters place (Err told)
refused_before pool parameters place OutOfMemory told is fails = subst (λ (t : Failure Fault). TellsBody pool parameters place (Err t)) (sym is) tt
refused_before pool parameters place (Cause fault) told is fails =
    subst (λ (t : Failure Fault). TellsBody pool parameters place (Err t)) (sym is) (cut_before fault fails refl)

-- or in what follows the code
pub refused_after : (pool : List PoolEntry) (parameters : ℕ) (place : Place) (head : Head) (after : Place) (spots : List Spot) (stop : Option (ℕ × Reason)) (refusal told : Failure Fault)
    → IsInCode refusal told → BeginsWith pool place head after spots stop → code_fault pool parameters head spots stop ≡ None → Fails refusal (tail_at pool (length head.bytes) spots after)
    → TellsBody pool parameters place (Err told)
refused_after pool parameters place head after spots stop OutOfMemory told is begins none fails = subst (λ (t : Failure Fault). TellsBody pool parameters place (Err t)) (sym is) tt
refused_after pool parameters place head after spots stop (Cause fault) told is begins none fails =
    subst (λ (t : Failure Fault). TellsBody pool parameters place (Err t)) (sym is) (wrong_after head after spots stop fault begins none fails refl)
