use Rattle.std.proofs.Common.{◌≡◌, ℕ, ◌+◌, ◌*◌, ◌^◌, ◌<◌, List, length, get_or, sym, ap, ◌∙◌, subst, arith}
use Rattle.std.specs.Int.Count.{ones, ones-le}
use Rattle.bit_rows.specs.Words.{row_has}
use Rattle.bit_rows.proofs.Bits.{count_more, count_none}
use Rattle.bit_rows.proofs.Counting.{count_below, count_filtered, count_within, same_below}
use Rattle.bit_rows.proofs.row.BitRow.count.Goals as goal

pub loop-word-init : goal.loop-word-init
loop-word-init c = let row = c.args.self.now in record { counted = sym (count_none row.first row.words.items) }

pub overflow_add-count : goal.overflow_add-count
overflow_add-count c =
    let row = c.args.self.now in
    let words = c.deref-word-items.result.now in
    let few = count_within (row_has row.first row.words.items) (64 * (row.first + c.loop-word.word-index)) in
    let more = ones-le 64 (get_or words c.loop-word.word-index 0) (c.type_inv.word-items c.loop-word.word-index).fits in
    omega (arith, row.within, ap (λ (ws : List ℕ). length ws) c.deref-word-items.ensures.value, c.loop-word.invariant.counted, c.from-count.ensures)

pub loop-word-preserved : goal.loop-word-preserved
loop-word-preserved c =
    let row = c.args.self.now in
    let k = c.loop-word.word-index in
    let same : get_or c.deref-word-items.result.now k 0 ≡ get_or row.words.items k 0 = ap (λ (ws : List ℕ). get_or ws k 0) c.deref-word-items.ensures.value in
    let more = count_more row.first row.words.items k (subst (λ (w : ℕ). w < 2 ^ 64) same (c.type_inv.word-items k).fits) in
    let here : c.from-count.result ≡ ones (get_or row.words.items k 0) = c.from-count.ensures ∙ ap ones same in
    record { counted = omega (arith, c.loop-word.invariant.counted) }

pub returns : goal.returns
returns c =
    let row = c.args.self.now in
    let has = row_has row.first row.words.items in
    let long : c.loop-word.word-index ≡ length row.words.items =
    omega (arith, c.loop-word-test.false, c.loop-word.auto.word-index-end, ap (λ (ws : List ℕ). length ws) c.deref-word-items.ensures.value) in
    let all = count_filtered has 0 (64 * (row.first + length row.words.items)) in
    let same = same_below (λ k. has (0 + k)) has (64 * (row.first + length row.words.items)) (λ k l. ap has (omega arith)) in
    c.loop-word.invariant.counted ∙ (ap (λ (k : ℕ). count_below has (64 * (row.first + k))) long ∙ sym (all ∙ same))
