use Rattle.std.proofs.Common.{◌≡◌, ℕ, List, sym, ap, ◌∙◌}
use Rattle.std.specs.Prelude.{bit_or}
use Rattle.std.specs.Int.Bits.{or_comm}
use Rattle.bit_rows.specs.declared.set.NumberSet.{NumberSet}
use Rattle.bit_rows.specs.Words.{word_at, word_of_one}
use Rattle.bit_rows.specs.SetWords.{word_of}
use Rattle.bit_rows.proofs.set.NumberSet.add_row.Goals as goal

pub returns-in_ok-insert-in-One-clause-united : goal.returns-in_ok-insert-in-One-clause-united
returns-in_ok-insert-in-One-clause-united c place =
    let row = c.in_ok-row-in-One.row in
    let other = c.args.other.now in
    let copied = c.in_ok-row-in-One.ensures in
    let word : word_at row.first row.words.items place ≡ word_at other.first other.words.items place =
    ap (λ (f : ℕ). word_at f row.words.items place) copied.0 ∙ ap (λ (ws : List ℕ). word_at other.first ws place) copied.1 in
    let one = word_of_one c.in-One.held place in
    c.in_ok-insert-in-One.ensures.joined place
    ∙ (or_comm (word_at row.first row.words.items place) one
    ∙ (ap (λ (w : ℕ). bit_or one w) word ∙ ap (λ (s : NumberSet). bit_or (word_of s place) (word_at other.first other.words.items place)) (sym c.in-One.is)))
