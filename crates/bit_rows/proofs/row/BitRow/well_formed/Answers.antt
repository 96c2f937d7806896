use Rattle.std.proofs.Common.{◌≡◌, ℕ, ◌+◌, ◌*◌, ◌/◌, ◌^◌, ◌<◌, length, get_or, ◌∙◌, subst, inl, inr, arith}
use Rattle.std.specs.Int.{w64, trailing_zeros}
use Rattle.std.proofs.lemmas.Bool.{cases_lt}
use Rattle.std.proofs.lemmas.List.{get_or_default, get_or_past}
use Rattle.bit_rows.proofs.Bits.{next_in_rest}
use Rattle.bit_rows.proofs.row.BitRow.well_formed.Goals as goal

-- the least number of the first word
pub returns : goal.returns
returns c =
    let row = c.args.self.now in
    let words = row.words.items in
    let word = c.index-first.result.now in
    let first = row.trimmed.first in
    let some : 0 < length words = elim (cases_lt 0 (length words)) [ inl l ↦ l | inr l ↦ let none = get_or_past words 0 0 (omega arith) in absurd (omega arith) ] in
    let read : word ≡ get_or words 0 0 = c.index-first.ensures ∙ get_or_default words 0 word 0 some in
    let small : word < 2 ^ 64 = omega arith in
    let whole : word ≡ get_or words 0 0 / 2 ^ 0 = omega (arith, read) in
    let next = next_in_rest row.first words 0 0 word (omega arith) (subst (λ (w : ℕ). w < 2 ^ 64) read small) whole small (λ e. absurd (omega (arith, read))) in
    (64 * (row.first + 0) + 0 + trailing_zeros w64 word, next.1.there)
