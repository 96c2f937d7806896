-- Reading items one after the other, as a loop does.
use Rattle.std.proofs.Common.{◌≡◌, ℕ, suc, ◌-◌, ◌+◌, ◌≤◌, ◌<◌, List, [], ◌∷◌, ◌++◌, Result, Ok, Err, refl, sym, ap, ◌∙◌, append_assoc, arith}
use Rattle.std.proofs.lemmas.List.{append-nil}
use Rattle.failure.specs.declared.Failure.{Failure}
use Rattle.jvm_model.specs.declared.reason.Fault.{Fault}
use Rattle.failure.specs.declared.Failure.TheVariants.{Cause, OutOfMemory}
use Rattle.byte_reader.specs.Reading.{Place, ◌>>=◌, Fails, items_at}

-- what was read before, and what is still read
abbrev pub with_front : {X : Type 0} → List X → Result (List X × Place) Fault → Result (List X × Place) Fault
with_front front read = read >>= λ x. Ok (front ++ x.0, x.1)

pub regroup : {X : Type 0} (front : List X) (n : X) (read : Result (List X × Place) Fault) → with_front front (read >>= λ x. Ok (n ∷ x.0, x.1)) ≡ with_front (front ++ n ∷ []) read
regroup {X} front n (Ok x) = ap (λ (ns : List X). Ok (ns, x.1)) (simp append_assoc)
regroup front n (Err f) = refl

-- ---- items of one kind

pub goes_on : {X : Type 0} (item_at : Place → Result (X × Place) Fault) (front : List X) (count i : ℕ) (place : Place) (item : X) (stopped : Place) (total : Result (List X × Place) Fault) → i < count → item_at place ≡ Ok (item, stopped)
    → with_front front (items_at item_at (count - i) place) ≡ total → with_front (front ++ item ∷ []) (items_at item_at (count - (i + 1)) stopped) ≡ total
unfolding items_at
goes_on item_at front count i place item stopped total lt h so_far =
    let k : count - i ≡ suc (count - (i + 1)) = omega arith in
    let one : with_front front (items_at item_at (count - i) place) ≡ with_front (front ++ item ∷ []) (items_at item_at (count - (i + 1)) stopped) = rw (k, h) (regroup front item (items_at item_at (count - (i + 1)) stopped)) in
    sym one ∙ so_far

pub ends : {X : Type 0} (item_at : Place → Result (X × Place) Fault) (e : Failure Fault) (front : List X) (count i : ℕ) (place : Place) (total : Result (List X × Place) Fault) → i < count → Fails e (item_at place)
    → with_front front (items_at item_at (count - i) place) ≡ total → Fails e total
unfolding items_at
ends item_at OutOfMemory front count i place total lt h so_far = tt
ends item_at (Cause fault) front count i place total lt h so_far =
    let k : count - i ≡ suc (count - (i + 1)) = omega arith in
    let one : with_front front (items_at item_at (count - i) place) ≡ Err fault = rw (k, h) refl in
    sym so_far ∙ one

pub is_done : {X : Type 0} (item_at : Place → Result (X × Place) Fault) (front : List X) (count i : ℕ) (place : Place) (total : Result (List X × Place) Fault) → count ≤ i → with_front front (items_at item_at (count - i) place) ≡ total → total ≡ Ok (front, place)
unfolding items_at
is_done {X} item_at front count i place total le so_far =
    let k : count - i ≡ 0 = omega arith in
    let one : with_front front (items_at item_at (count - i) place) ≡ Ok (front, place) = rw k (ap (λ (ns : List X). Ok (ns, place)) (append-nil front)) in
    sym so_far ∙ one
