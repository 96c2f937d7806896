-- What holds or does not: of parts that each do, and of something that stands in a list.
use Rattle.std.proofs.Common.{◌≡◌, ◌⊎◌, inl, inr, ℕ, Bool, true, false, List, [], ◌∷◌, Option, Some, None, refl, sym, subst}
use Rattle.std.specs.Bool.{IsTrue}
use Rattle.std.specs.List.{Contains}
use Rattle.std.specs.Str.{bytes_eq}
use Rattle.std.proofs.lemmas.Bool.{true≢false}
use Rattle.std.proofs.lemmas.Bool.Decides.{not_from_Decides}
use Rattle.std.proofs.lemmas.Slice.Eq.{bytes_eq-Decides}
use Rattle.std.proofs.lemmas.Option.{none-some, same_Some}
use Rattle.list_laws.proofs.Members.{contains_cases, contains_first, contains_later, contains_none}
use Rattle.program_laws.proofs.Orders.{this_or_other}

abbrev pub OrNot : Type 0 → Type 0
OrNot P = P ⊎ (P → ⊥)

-- ---- parts

-- what holds exactly where something else does
pub carried_over : {P Q : Type 0} → (P → Q) → (Q → P) → OrNot P → OrNot Q
carried_over to back (inl h) = inl (to h)
carried_over to back (inr not_so) = inr (λ h. not_so (back h))

pub either_or_not : {P Q : Type 0} → OrNot P → OrNot Q → OrNot (P ⊎ Q)
either_or_not (inl h) other = inl (inl h)
either_or_not (inr not_so) (inl h) = inl (inr h)
either_or_not {P = P} {Q = Q} (inr not_so) (inr nor) = inr neither
  where
    neither : P ⊎ Q → ⊥
    neither (inl h) = not_so h
    neither (inr h) = nor h

-- the second part is asked of only where the first holds
pub both_or_not : {P Q : Type 0} → OrNot P → (P → OrNot Q) → OrNot (P × Q)
both_or_not (inr not_so) then = inr (λ h. not_so h.0)
both_or_not {P = P} {Q = Q} (inl first) then = by (then first)
  where
    by : OrNot Q → OrNot (P × Q)
    by (inl h) = inl (first, h)
    by (inr not_so) = inr (λ h. not_so h.1)

-- ---- tests and names

pub true_or_not : (b : Bool) → OrNot (IsTrue b)
true_or_not true = inl refl
true_or_not false = inr (λ e. true≢false (sym e))

pub same_or_not : (m n : List ℕ) → OrNot (m ≡ n)
same_or_not m n = by (this_or_other m n)
  where
    by : (m ≡ n) ⊎ (bytes_eq m n ≡ false) → OrNot (m ≡ n)
    by (inl e) = inl e
    by (inr other) = inr (not_from_Decides (bytes_eq m n) (bytes_eq-Decides m n) other)

-- ---- what stands somewhere

pub held_or_not : {X : Type 0} (P : X → Type 0) → ((x : X) → OrNot (P x)) → (o : Option X) → OrNot ((x : X) × (o ≡ Some x) × P x)
held_or_not P choose None = inr (λ h. none-some h.0 h.1)
held_or_not {X = X} P choose (Some x) = by (choose x)
  where
    by : OrNot (P x) → OrNot ((y : X) × (Some x ≡ Some y) × P y)
    by (inl h) = inl (x, refl, h)
    by (inr not_so) = inr (λ h. not_so (subst P (sym (same_Some x h.0 h.1)) h.2))

pub some_or_not : {X : Type 0} (P : X → Type 0) → ((x : X) → OrNot (P x)) → (xs : List X) → OrNot ((x : X) × Contains xs x × P x)
some_or_not P choose [] = inr (λ h. contains_none h.0 h.1)
some_or_not {X = X} P choose (x ∷ xs) = by (choose x) (some_or_not P choose xs)
  where
    by : OrNot (P x) → OrNot ((y : X) × Contains xs y × P y) → OrNot ((y : X) × Contains (x ∷ xs) y × P y)
    by (inl h) rest = inl (x, contains_first x xs, h)
    by (inr not_so) (inl h) = inl (h.0, contains_later x h.0 xs h.1, h.2)
    by (inr not_so) (inr none) = inr (λ h. neither h.0 h.2 (contains_cases x h.0 xs h.1))
      where
        neither : (y : X) → P y → (x ≡ y) ⊎ Contains xs y → ⊥
        neither y h (inl e) = not_so (subst P (sym e) h)
        neither y h (inr there) = none (y, there, h)
