-- Numbers of which something is known: where it is decided of each number, and holds below a limit alone, the least one is
-- found, or there is none.
use Rattle.std.proofs.Common.{◌≡◌, ◌⊎◌, inl, inr, ℕ, zero, suc, ◌<◌, ◌≤◌, subst, arith}
use Rattle.std.proofs.Math.Nat.{eq-or-lt_of_le}
use Rattle.std.proofs.lemmas.Bool.{cases_lt}
use Rattle.std.proofs.lemmas.Bool.Decides.{eqb_tells}
use Rattle.program_laws.proofs.Choices.{OrNot}

-- some number has it, or none has
abbrev pub SomeOrNone : (ℕ → Type 0) → Type 0
SomeOrNone P = ((k : ℕ) × P k) ⊎ ((k : ℕ) → P k → ⊥)

-- the least number that has it
abbrev pub Least : (ℕ → Type 0) → Type 0
Least P = (k : ℕ) × P k × ((j : ℕ) → P j → k ≤ j)

abbrev LeastBelow : (ℕ → Type 0) → ℕ → Type 0
LeastBelow P n = (k : ℕ) × (k < n) × P k × ((j : ℕ) → P j → k ≤ j)

abbrev NoneBelow : (ℕ → Type 0) → ℕ → Type 0
NoneBelow P n = (j : ℕ) → j < n → P j → ⊥

least_below : (P : ℕ → Type 0) → ((k : ℕ) → OrNot (P k)) → (n : ℕ) → LeastBelow P n ⊎ NoneBelow P n
least_below P choose zero = inr (λ j l h. absurd (omega (arith, l)))
least_below P choose (suc n) = by (least_below P choose n) (choose n)
  where
    low : NoneBelow P n → (j : ℕ) → P j → (j < n) ⊎ (n ≤ j) → n ≤ j
    low none j h (inl l) = absurd (none j l h)
    low none j h (inr l) = l

    neither : (P n → ⊥) → NoneBelow P n → (j : ℕ) → P j → (j ≡ n) ⊎ (j < n) → ⊥
    neither not_so none j h (inl e) = not_so (subst P e h)
    neither not_so none j h (inr l) = none j l h

    which : (j : ℕ) → j < suc n → (j ≡ n) ⊎ (j < n)
    which j l = eq-or-lt_of_le (omega (arith, l))

    by : LeastBelow P n ⊎ NoneBelow P n → OrNot (P n) → LeastBelow P (suc n) ⊎ NoneBelow P (suc n)
    by (inl h) rest = let l = h.1 in inl (h.0, omega (arith, l), h.2, h.3)
    by (inr none) (inl h) = inl (n, omega arith, h, λ j holds. low none j holds (cases_lt j n))
    by (inr none) (inr not_so) = inr (λ j l h. neither not_so none j h (which j l))

pub least_or_none : (P : ℕ → Type 0) → ((k : ℕ) → OrNot (P k)) → (limit : ℕ) → ((k : ℕ) → P k → k < limit) → Least P ⊎ ((k : ℕ) → P k → ⊥)
least_or_none P choose limit within = by (least_below P choose limit)
  where
    by : LeastBelow P limit ⊎ NoneBelow P limit → Least P ⊎ ((k : ℕ) → P k → ⊥)
    by (inl h) = inl (h.0, h.2, h.3)
    by (inr none) = inr (λ k h. none k (within k h) h)

pub some_or_none : (P : ℕ → Type 0) → ((k : ℕ) → OrNot (P k)) → (limit : ℕ) → ((k : ℕ) → P k → k < limit) → SomeOrNone P
some_or_none P choose limit within = by (least_or_none P choose limit within)
  where
    by : Least P ⊎ ((k : ℕ) → P k → ⊥) → SomeOrNone P
    by (inl h) = inl (h.0, h.1)
    by (inr none) = inr none

-- ---- numbers

pub equal_or_not : (i j : ℕ) → OrNot (i ≡ j)
equal_or_not i j = elim (eqb_tells i j) [ inl h ↦ inl h.1 | inr h ↦ inr h.1 ]

pub not_or_not : {P : Type 0} → OrNot P → OrNot (P → ⊥)
not_or_not (inl h) = inr (λ not_so. not_so h)
not_or_not (inr not_so) = inl not_so
