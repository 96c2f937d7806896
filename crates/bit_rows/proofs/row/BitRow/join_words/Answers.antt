use Rattle.std.proofs.Common.{◌≡◌, ℕ, ◌+◌, ◌-◌, ◌≤◌, ◌⊎◌, length, min, max, ap, ◌∙◌, arith, inl, inr}
use Rattle.std.specs.Prelude.{bit_or}
use Rattle.std.proofs.lemmas.Bool.{cases_lt}
use Rattle.bit_rows.specs.Words.{word_at}
use Rattle.bit_rows.proofs.Places.{joined_at, joined_trimmed}
use Rattle.bit_rows.proofs.row.BitRow.join_words.Goals as goal

-- the least of two numbers, and the greatest
least : (a b m : ℕ) → m ≡ min a b → (m ≤ a) × (m ≤ b) × ((a ≡ m) ⊎ (b ≡ m))
least a b m e = elim (cases_lt b a) [ inl l ↦ (omega arith, omega arith, inr (omega arith)) | inr l ↦ (omega arith, omega arith, inl (omega arith)) ]

greatest : (a b m : ℕ) → m ≡ max a b → (m ≡ a) ⊎ (m ≡ b)
greatest a b m e = elim (cases_lt b a) [ inl l ↦ inl (omega arith) | inr l ↦ inr (omega arith) ]

pub invariant_of-self-2 : goal.invariant_of-self-2
invariant_of-self-2 c =
    let row = c.args.self.now in
    let low = c.min-low.result in
    let new = c.add_bits.new.words.items in
    let lower = least row.first c.args.first low c.min-low.ensures in
    let from = lower.0 in
    let over = lower.1 in
    let made = c.in_ok-widen.ensures.count in
    let count = c.add_bits.ensures.count in
    let high : low + length new ≡ max (row.first + length row.words.items) (c.args.first + length c.args.words.now) =
    omega (arith, made, count, c.max-high.ensures, c.end-end.ensures.value) in
    let ends = greatest (row.first + length row.words.items) (c.args.first + length c.args.words.now) (low + length new) high in
    record {
      within = omega (arith, high, row.within, c.requires.within);
      trimmed = joined_trimmed low row.first c.args.first row.words.items c.args.words.now new from over
          (λ k. c.add_bits.ensures.added k ∙ ap (λ (w : ℕ). bit_or w (word_at (c.args.first - low) c.args.words.now k)) (c.in_ok-widen.ensures.moved k))
          row.trimmed c.requires.trimmed lower.2 ends;
    }

pub returns-clause-joined : goal.returns-clause-joined
returns-clause-joined c =
    let row = c.args.self.now in
    let low = c.min-low.result in
    let lower = least row.first c.args.first low c.min-low.ensures in
    joined_at low row.first c.args.first row.words.items c.args.words.now c.add_bits.new.words.items lower.0 lower.1
    (λ k. c.add_bits.ensures.added k ∙ ap (λ (w : ℕ). bit_or w (word_at (c.args.first - low) c.args.words.now k)) (c.in_ok-widen.ensures.moved k))
