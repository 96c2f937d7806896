use Rattle.std.proofs.Common.{◌≡◌, ℕ, ◌/◌, ◌%◌, inl, inr, ap, ◌∙◌, arith}
use Rattle.std.specs.Int.{bit_at}
use Rattle.std.proofs.lemmas.Bool.{cases_lt}
use Rattle.std.proofs.lemmas.Nat.Bits.{bit_at-zero}
use Rattle.bit_rows.proofs.Sets.{bit_by_in, bit_of}
use Rattle.bit_rows.proofs.set.NumberSet.well_formed.Goals as goal

pub returns : goal.returns
returns c n is = elim (cases_lt (n / 64) c.span.result.1) [
  | inl l ↦ omega (arith, c.span.ensures.few)
  | inr l ↦
      let set = c.args.self.now in
      let one = bit_by_in set n is in
      let none : bit_of set n ≡ 0 = ap (λ (w : ℕ). bit_at w (n % 64)) (c.span.ensures.behind (n / 64) l) ∙ bit_at-zero (n % 64) in
      absurd (omega arith)
]
