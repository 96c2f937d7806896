-- Reading the indices of the constant pool one after the other, as a loop does.
use Rattle.std.proofs.Common.{◌≡◌, ℕ, suc, ◌-◌, ◌+◌, ◌≤◌, ◌<◌, List, [], ◌∷◌, ◌++◌, Option, Some, None, Result, Ok, Err, refl, sym, ap, ◌∙◌, arith}
use Rattle.std.proofs.lemmas.List.{append-nil}
use Rattle.jvm_model.specs.declared.reason.Reason.TheVariants.{BadIndex}
use Rattle.failure.specs.declared.Failure.{Failure}
use Rattle.jvm_model.specs.declared.reason.Fault.{Fault}
use Rattle.failure.specs.declared.Failure.TheVariants.{Cause, OutOfMemory}
use Rattle.jvm_model.specs.declared.pool.PoolEntry.{PoolEntry}
use Rattle.byte_reader.specs.Reading.{Place, Fails}
use Rattle.byte_reader.proofs.Loop.{with_front, regroup}
use Rattle.classfile_reader.specs.PoolReading.{index_at, indices_at}

pub indices_go_on : (front : List PoolEntry) (count i : ℕ) (wide : Option ℕ) (place : Place) (entry : PoolEntry) (next : Option ℕ) (stopped : Place) (total : Result (List PoolEntry × Place) Fault) → i < count → index_at wide place ≡ Ok ((entry, next), stopped)
    → with_front front (indices_at (count - i) wide place) ≡ total → with_front (front ++ entry ∷ []) (indices_at (count - (i + 1)) next stopped) ≡ total
unfolding indices_at
indices_go_on front count i wide place entry next stopped total lt h so_far =
    let k : count - i ≡ suc (count - (i + 1)) = omega arith in
    let one : with_front front (indices_at (count - i) wide place) ≡ with_front (front ++ entry ∷ []) (indices_at (count - (i + 1)) next stopped) = rw (k, h) (regroup front entry (indices_at (count - (i + 1)) next stopped)) in
    sym one ∙ so_far

pub indices_end : (e : Failure Fault) (front : List PoolEntry) (count i : ℕ) (wide : Option ℕ) (place : Place) (total : Result (List PoolEntry × Place) Fault) → i < count → Fails e (index_at wide place)
    → with_front front (indices_at (count - i) wide place) ≡ total → Fails e total
unfolding indices_at
indices_end OutOfMemory front count i wide place total lt h so_far = tt
indices_end (Cause fault) front count i wide place total lt h so_far =
    let k : count - i ≡ suc (count - (i + 1)) = omega arith in
    let one : with_front front (indices_at (count - i) wide place) ≡ Err fault = rw (k, h) refl in
    sym so_far ∙ one

pub indices_are_done : (front : List PoolEntry) (count i : ℕ) (wide : Option ℕ) (place : Place) (total : Result (List PoolEntry × Place) Fault) → count ≤ i → wide ≡ None → with_front front (indices_at (count - i) wide place) ≡ total → total ≡ Ok (front, place)
unfolding indices_at
indices_are_done front count i wide place total le none so_far =
    let k : count - i ≡ 0 = omega arith in
    let one : with_front front (indices_at (count - i) wide place) ≡ Ok (front, place) = rw (k, none) (ap (λ (ns : List PoolEntry). Ok (ns, place)) (append-nil front)) in
    sym so_far ∙ one

pub lacks_an_index : (front : List PoolEntry) (count i tag : ℕ) (wide : Option ℕ) (place : Place) (total : Result (List PoolEntry × Place) Fault) → count ≤ i → wide ≡ Some tag → with_front front (indices_at (count - i) wide place) ≡ total → total ≡ Err (record { offset = tag; reason = BadIndex })
unfolding indices_at
lacks_an_index front count i tag wide place total le some so_far =
    let k : count - i ≡ 0 = omega arith in
    let one : with_front front (indices_at (count - i) wide place) ≡ Err (record { offset = tag; reason = BadIndex }) = rw (k, some) refl in
    sym so_far ∙ one
