-- Lists with the same elements, whose elements come before those behind them, are one.
use Rattle.std.proofs.Common.{◌≡◌, ◌⊎◌, inl, inr, ◌∙◌, ◌<◌, ℕ, suc, List, [], ◌∷◌, Some, Contains, refl, sym, subst, arith}
use Rattle.std.specs.Prelude.{slice_get}
use Rattle.least_sets.proofs.Places.{place_of, first, first_or_later, later, nothing_in}

-- The elements of the one list are in the other.
pub record AreAmong {X : Type 0} (xs ys : List X) : Type 0 where
  pub there : (x : X) → Contains xs x → Contains ys x

module _ {X : Type 0} (Before : X → X → Type 0) (one_before : (x y : X) → Before x y → Before y x → ⊥) where
  -- Each element comes before those behind it.
  pub record Ascends (xs : List X) : Type 0 where
    pub each : (i j : ℕ) (x y : X) → i < j → slice_get xs i ≡ Some x → slice_get xs j ≡ Some y → Before x y

  before_rest : (x : X) (xs : List X) → Ascends (x ∷ xs) → (y : X) → Contains xs y → Before x y
  before_rest x xs up y there = let at = place_of xs y there in up.each 0 (suc at.0) x y (omega arith) refl at.1

  rest_ascends : (x : X) (xs : List X) → Ascends (x ∷ xs) → Ascends xs
  rest_ascends x xs up = record { each = λ i j y z lt at_i at_j. up.each (suc i) (suc j) y z (omega arith) at_i at_j }

  -- what is in two lists that begin alike is in the rest of the second, where it is in the rest of the first
  rest_among : (x y : X) (xs ys : List X) → x ≡ y → Ascends (x ∷ xs) → AreAmong (x ∷ xs) (y ∷ ys) → AreAmong xs ys
  rest_among x y xs ys e up to = record { there = λ z h. at z h (first_or_later y ys z (to.there z (later x xs z h))) }
    where
      at : (z : X) → Contains xs z → (y ≡ z) ⊎ Contains ys z → Contains ys z
      at z h (inl is) = let here = subst (λ (u : X). Before x u) (sym (e ∙ is)) (before_rest x xs up z h) in absurd (one_before x x here here)
      at z h (inr there) = there

  pub same_lists : (xs ys : List X) → Ascends xs → Ascends ys → AreAmong xs ys → AreAmong ys xs → xs ≡ ys
  same_lists [] [] up up2 to back = refl
  same_lists [] (y ∷ ys) up up2 to back = absurd (nothing_in y (back.there y (first y ys)))
  same_lists (x ∷ xs) [] up up2 to back = absurd (nothing_in x (to.there x (first x xs)))
  same_lists (x ∷ xs) (y ∷ ys) up up2 to back = by (same_lists xs ys (rest_ascends x xs up) (rest_ascends y ys up2))
    where
      heads : (y ≡ x) ⊎ Contains ys x → (x ≡ y) ⊎ Contains xs y → x ≡ y
      heads (inl e) other = sym e
      heads (inr h) (inl e) = e
      heads (inr h) (inr h2) = absurd (one_before x y (before_rest x xs up y h2) (before_rest y ys up2 x h))

      head : x ≡ y
      head = heads (first_or_later y ys x (to.there x (first x xs))) (first_or_later x xs y (back.there y (first y ys)))

      by : (AreAmong xs ys → AreAmong ys xs → xs ≡ ys) → (x ∷ xs) ≡ (y ∷ ys)
      by rest = let tail = rest (rest_among x y xs ys head up to) (rest_among y x ys xs (sym head) up2 back) in (λ i. head i ∷ tail i)
