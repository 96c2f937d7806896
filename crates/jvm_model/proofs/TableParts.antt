-- A part of a list, by its places.
use Rattle.std.proofs.Common.{◌≡◌, ℕ, zero, suc, ◌+◌, ◌-◌, ◌<◌, ◌≤◌, List, [], ◌∷◌, take, drop, refl, ap, ◌∙◌, arith}
use Rattle.std.specs.List.{slice_get}

-- past a front, a place counts on from the front
pub past_front : {X : Type 0} (n : ℕ) (xs : List X) (i j : ℕ) → n + i ≡ j → slice_get (drop n xs) i ≡ slice_get xs j
past_front zero xs i j e = ap (slice_get xs) (omega (arith, e))
past_front (suc n) [] i j e = refl
past_front (suc n) (x ∷ xs) i zero e = absurd (omega (arith, e))
past_front (suc n) (x ∷ xs) i (suc j) e = past_front n xs i j (omega (arith, e))

-- a place within a front
pub within_front : {X : Type 0} (n : ℕ) (xs : List X) (i : ℕ) → i < n → slice_get (take n xs) i ≡ slice_get xs i
within_front zero xs i l = absurd (omega arith)
within_front (suc n) [] i l = refl
within_front (suc n) (x ∷ xs) zero l = refl
within_front (suc n) (x ∷ xs) (suc i) l = within_front n xs i (omega arith)

-- a place of the whole that lies in a part
pub in_part : {X : Type 0} (first n : ℕ) (xs : List X) (place : ℕ) → first ≤ place → place < first + n
    → slice_get (take n (drop first xs)) (place - first) ≡ slice_get xs place
in_part first n xs place from until =
    within_front n (drop first xs) (place - first) (omega arith) ∙ past_front first xs (place - first) place (omega arith)
