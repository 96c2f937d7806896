-- Reading the targets of a switch one after the other, as a loop does.
use Rattle.std.proofs.Common.{◌≡◌, ℕ, suc, ◌+◌, ◌*◌, ◌-◌, ◌<◌, ◌≤◌, List, [], ◌∷◌, ◌++◌, length, drop, Option, sym, ap, ◌∙◌, append_assoc, arith}
use Rattle.std.proofs.lemmas.List.{length-drop}
use Rattle.std.proofs.Math.Nat.{mul-suc}
use Rattle.jvm_model.specs.Instructions.{table_targets, far_target, word}

pub one_more : (front : List (Option ℕ)) (offset entry count k : ℕ) (rest : List ℕ) (total : List (Option ℕ)) → k < count
    → front ++ table_targets offset entry (count - k) rest ≡ total
    → (front ++ far_target offset (word rest) ∷ []) ++ table_targets offset entry (count - (k + 1)) (drop entry rest) ≡ total
one_more front offset entry count k rest total lt so_far =
    let e : count - k ≡ suc (count - (k + 1)) = omega arith in
    append_assoc front (far_target offset (word rest) ∷ []) (table_targets offset entry (count - (k + 1)) (drop entry rest))
    ∙ sym (ap (λ n. front ++ table_targets offset entry n rest) e) ∙ so_far

pub long_enough : (entry count k : ℕ) (rest : List ℕ) → 4 ≤ entry → k < count → (k < count → entry * (count - k) + 4 ≤ length rest + entry)
    → (k + 1 < count → entry * (count - (k + 1)) + 4 ≤ length (drop entry rest) + entry)
long_enough entry count k rest four lt before more =
    let e : count - k ≡ suc (count - (k + 1)) = omega arith in
    let p : entry * (count - k) ≡ entry * (count - (k + 1)) + entry = ap (λ n. entry * n) e ∙ mul-suc entry (count - (k + 1)) in
    let f : count - (k + 1) ≡ suc (count - (k + 2)) = omega arith in
    let q : entry * (count - (k + 1)) ≡ entry * (count - (k + 2)) + entry = ap (λ n. entry * n) f ∙ mul-suc entry (count - (k + 2)) in
    omega (arith, length-drop entry rest, before lt, p, q)

-- the first four bytes of an entry are there
pub entry_there : (entry count k : ℕ) (rest : List ℕ) → 4 ≤ entry → k < count → (k < count → entry * (count - k) + 4 ≤ length rest + entry) → 4 ≤ length rest
entry_there entry count k rest four lt before =
    let e : count - k ≡ suc (count - (k + 1)) = omega arith in
    let p : entry * (count - k) ≡ entry * (count - (k + 1)) + entry = ap (λ n. entry * n) e ∙ mul-suc entry (count - (k + 1)) in
    omega (arith, before lt, p)
