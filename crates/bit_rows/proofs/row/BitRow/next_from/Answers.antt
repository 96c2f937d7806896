use Rattle.std.proofs.Common.{◌≡◌, ℕ, ◌+◌, ◌-◌, ◌*◌, ◌/◌, ◌%◌, ◌^◌, ◌<◌, true, get_or, sym, ap, ◌∙◌, subst, arith}
use Rattle.std.specs.Int.{w64, trailing_zeros}
use Rattle.std.proofs.lemmas.List.{get_or_default}
use Rattle.std.proofs.lemmas.Nat.{shr_le}
use Rattle.bit_rows.specs.Words.{row_has, IsNextOf}
use Rattle.bit_rows.proofs.Bits.{found_lower, next_in_rest, none_in_rest}
use Rattle.bit_rows.proofs.row.BitRow.next_from.Goals as goal
use Rattle.bit_rows.proofs.row.BitRow.next_from.Goals.{Then-rest-ne0}

-- the rest of the word of the number has its next number
next : (c : Then-rest-ne0) →
    let row = c.args.self.now in
    let k = c.args.number / 64 - row.first in
    let t = trailing_zeros w64 (c.index.result.now / 2 ^ (c.args.number % 64)) in
    (c.args.number % 64 + t < 64) × IsNextOf (λ n. row_has row.first row.words.items n ≡ true) (64 * (row.first + k) + c.args.number % 64) (64 * (row.first + k) + c.args.number % 64 + t)
next c =
    let row = c.args.self.now in
    let k = c.args.number / 64 - row.first in
    let bit = c.args.number % 64 in
    let word = c.index.result.now in
    let read : word ≡ get_or row.words.items k 0 =
    c.index.ensures ∙ get_or_default row.words.items k word 0 (omega (arith, c.if-index-len.false, c.len.ensures, row.words.ok.0)) in
    let small : word < 2 ^ 64 = omega arith in
    let less = shr_le word bit in
    next_in_rest row.first row.words.items k bit (word / 2 ^ bit) (omega arith) (subst (λ (w : ℕ). w < 2 ^ 64) read small) (ap (λ (w : ℕ). w / 2 ^ bit) read) (omega arith) c.if-rest-ne0.true

pub overflow_add-result : goal.overflow_add-result
overflow_add-result c =
    let row = c.args.self.now in
    let h = (next c).0 in
    omega (arith, row.within, c.if-index-len.false, c.len.ensures, row.words.ok.0, c.if-place-self.false, h)

pub returns-then-rest-ne0 : goal.returns-then-rest-ne0
returns-then-rest-ne0 c =
    let row = c.args.self.now in
    let P : ℕ → Type 0 = λ n. row_has row.first row.words.items n ≡ true in
    let low = 64 * (row.first + (c.args.number / 64 - row.first)) + c.args.number % 64 in
    let same : low ≡ c.args.number = omega (arith, c.if-place-self.false) in
    subst (λ (n : ℕ). IsNextOf P n (n + trailing_zeros w64 (c.index.result.now / 2 ^ (c.args.number % 64)))) same (next c).1

pub returns : goal.returns
returns c =
    let row = c.args.self.now in
    let P : ℕ → Type 0 = λ n. row_has row.first row.words.items n ≡ true in
    let k = c.args.number / 64 - row.first in
    let bit = c.args.number % 64 in
    let word = c.index.result.now in
    let read : word ≡ get_or row.words.items k 0 =
    c.index.ensures ∙ get_or_default row.words.items k word 0 (omega (arith, c.if-index-len.false, c.len.ensures, row.words.ok.0)) in
    found_lower P c.args.number (64 * (row.first + (k + 1))) (omega (arith, c.if-place-self.false))
    (λ n from below. none_in_rest row.first row.words.items k bit (omega arith) (ap (λ (w : ℕ). w / 2 ^ bit) (sym read) ∙ c.if-rest-ne0.false) n (omega (arith, c.if-place-self.false)) below)
    c.first_from-2.result c.first_from-2.ensures
