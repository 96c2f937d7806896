use Rattle.std.proofs.Common.{◌≡◌, ℕ, ◌/◌, ◌%◌, ◌^◌, sym, ap, ◌∙◌, eq-eqb}
use Rattle.std.specs.Prelude.{bit_and}
use Rattle.std.proofs.lemmas.Bool.{eqb-true}
use Rattle.std.proofs.lemmas.Nat.Bits.{shr_and_one}
use Rattle.bit_rows.proofs.Sets.{bit_by_in, bit_of, in_by_bit}
use Rattle.bit_rows.proofs.set.NumberSet.contains.Goals as goal

pub returns : goal.returns
returns c =
    let set = c.args.self.now in
    let n = c.args.number in
    let bit : bit_and (c.word.result / 2 ^ (n % 64)) 1 ≡ bit_of set n =
    ap (λ (w : ℕ). bit_and (w / 2 ^ (n % 64)) 1) c.word.ensures ∙ shr_and_one _ (n % 64) in
    (λ is. in_by_bit set n (sym bit ∙ eqb-true _ 1 is), λ is. eq-eqb _ 1 (bit ∙ bit_by_in set n is))
