use Rattle.std.proofs.Common.{◌≡◌, ℕ, ◌+◌, ◌*◌, ◌/◌, ◌^◌, ◌<◌, true, get_or, sym, ◌∙◌, subst, arith, inl, inr}
use Rattle.std.specs.Int.{w64, trailing_zeros}
use Rattle.std.proofs.lemmas.Bool.{cases_lt}
use Rattle.std.proofs.lemmas.List.{get_or_default}
use Rattle.bit_rows.specs.Words.{row_has, IsNextOf}
use Rattle.bit_rows.proofs.Bits.{next_in_rest, next_lower, none_in_word}
use Rattle.bit_rows.proofs.row.BitRow.first_from.Goals as goal

pub loop-k-preserved : goal.loop-k-preserved
loop-k-preserved c = record {
  none = λ n from below has. elim (cases_lt n (64 * (c.args.self.now.first + c.loop-k.k))) [
    | inl l ↦ c.loop-k.invariant.none n from l has
    | inr l ↦
        let row = c.args.self.now in
        let word = c.index-word.result.now in
        let read = c.index-word.ensures ∙ get_or_default row.words.items c.loop-k.k word 0 (omega (arith, c.loop-k-test.true, c.len-k-end.ensures, row.words.ok.0)) in
        none_in_word row.first row.words.items c.loop-k.k (sym read ∙ c.if-word-ne0.false) n l below has
  ];
}

pub returns-then-word-ne0 : goal.returns-then-word-ne0
returns-then-word-ne0 c =
    let row = c.args.self.now in
    let P : ℕ → Type 0 = λ n. row_has row.first row.words.items n ≡ true in
    let k = c.loop-k.k in
    let word = c.index-word.result.now in
    let read : word ≡ get_or row.words.items k 0 =
    c.index-word.ensures ∙ get_or_default row.words.items k word 0 (omega (arith, c.loop-k-test.true, c.len-k-end.ensures, row.words.ok.0)) in
    let small : word < 2 ^ 64 = omega arith in
    let whole : word ≡ get_or row.words.items k 0 / 2 ^ 0 = omega (arith, read) in
    let next = next_in_rest row.first row.words.items k 0 word (omega arith) (subst (λ (w : ℕ). w < 2 ^ 64) read small) whole small c.if-word-ne0.true in
    let t = trailing_zeros w64 word in
    let same : 64 * (row.first + k) + 0 + t ≡ (row.first + k) * 64 + t = omega arith in
    subst (λ (n : ℕ). IsNextOf P (64 * (row.first + c.args.index)) n) same
    (next_lower P (64 * (row.first + c.args.index)) (64 * (row.first + k) + 0) (64 * (row.first + k) + 0 + t) (omega (arith, c.loop-k.auto.k))
    (λ n from below. c.loop-k.invariant.none n from (omega arith)) next.1)
