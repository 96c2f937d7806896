-- What is added to a list: one line, and for each number below a limit.
use Rattle.std.proofs.Common.{◌≡◌, ◌<◌, ◌≤◌, ◌+◌, ◌⊎◌, ℕ, List, inl, inr, subst, arith}
use Rattle.std.proofs.lemmas.Bool.{cases_lt}
use Rattle.ground.specs.Added.{AreAdded}
use Rattle.ground.proofs.Adding.{added_as, added_both, added_none}
use Rattle.certificate_printing.specs.Collected.{OfBelow}

module _ {Y : Type 0} where
  -- one thing, and what has the property is that alone
  pub added_one : (Q : Y → Type 0) (y : Y) (old new : List Y) → AreAdded (λ (o : Y). y ≡ o) old new → Q y → ((o : Y) → Q o → y ≡ o) → AreAdded Q old new
  added_one Q y old new added own only = added_as (λ (o : Y). y ≡ o) Q old new (λ o is. subst Q is own) only added

module _ {Y : Type 0} (R : ℕ → Y → Type 0) where
  -- for no number
  pub below_none : (xs : List Y) → AreAdded (OfBelow R 0) xs xs
  below_none xs = added_none (OfBelow R 0) xs (λ y some. let less = some.1 in omega (arith, less))

  -- for one more
  pub below_more : (i : ℕ) (a b c : List Y) → AreAdded (OfBelow R i) a b → AreAdded (R i) b c → AreAdded (OfBelow R (i + 1)) a c
  below_more i a b c before one =
      added_as (λ (y : Y). OfBelow R i y ⊎ R i y) (OfBelow R (i + 1)) a c
      (λ y either. elim either [
        | inl (k, less, r) ↦ (k, omega (arith, less), r)
        | inr r ↦ (i, omega arith, r)
      ])
      (λ y some.
      let less = some.1 in
      elim (cases_lt some.0 i) [
        | inl under ↦ inl (some.0, under, some.2)
        | inr last ↦
            let same : some.0 ≡ i = (omega (arith, less, last)) in
            inr (subst (λ (j : ℕ). R j y) same some.2)
      ])
      (added_both (OfBelow R i) (R i) a b c before one)

  -- for all of them
  pub below_all : (i limit : ℕ) → i ≤ limit → limit ≤ i → (a b : List Y) → AreAdded (OfBelow R i) a b → AreAdded (OfBelow R limit) a b
  below_all i limit up down a b added =
      let same : i ≡ limit = (omega (arith, up, down)) in
      subst (λ (n : ℕ). AreAdded (OfBelow R n) a b) same added
