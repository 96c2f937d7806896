-- The words with new bits, as a row.
use Rattle.std.proofs.Common.{◌≡◌, ℕ, ◌+◌, ◌-◌, ◌<◌, ◌≤◌, List, length, get_or, ap, sym, ◌∙◌, arith, inl, inr}
use Rattle.std.proofs.lemmas.Bool.{cases_lt}
use Rattle.bit_rows.specs.declared.set.NumberSet.{NumberSet}
use Rattle.bit_rows.specs.Words.{word_at}
use Rattle.bit_rows.specs.SetWords.{new_bits, new_word, word_of}
use Rattle.bit_rows.proofs.Places.{word_before, word_behind, word_inside}

module _ (held offered mask : NumberSet) where
  -- where nothing is offered, nothing is new
  pub not_offered : (place : ℕ) → word_of offered place ≡ 0 → new_word held offered mask place ≡ 0
  not_offered place none = ap (λ (w : ℕ). new_bits (word_of held place) w (word_of mask place)) none

  module _ (first bound : ℕ) (before : (place : ℕ) → place < first → word_of offered place ≡ 0) (behind : (place : ℕ) → bound ≤ place → word_of offered place ≡ 0) where
    -- no new bit where a search found none
    pub nothing_new : (low : ℕ) → bound ≤ low → ((place : ℕ) → first ≤ place → place < low → new_word held offered mask place ≡ 0) → (place : ℕ) → new_word held offered mask place ≡ 0
    nothing_new low l none place = elim (cases_lt place first) [
      | inl h ↦ not_offered place (before place h)
      | inr h ↦ elim (cases_lt place low) [ inl m ↦ none place h m | inr m ↦ not_offered place (behind place (omega arith)) ]
    ]

    -- the words between two places, outside which there is no new bit
    pub gathered : (low end : ℕ) (words : List ℕ) → ((place : ℕ) → first ≤ place → place < low → new_word held offered mask place ≡ 0)
        → ((place : ℕ) → end ≤ place → place < bound → new_word held offered mask place ≡ 0) → low + length words ≡ end
        → ((k : ℕ) → low + k < end → get_or words k 0 ≡ new_word held offered mask (low + k)) → (place : ℕ) → word_at low words place ≡ new_word held offered mask place
    gathered low end words lower higher count each place = elim (cases_lt place low) [
      | inl l ↦ word_before low words place l ∙ sym (below l)
      | inr l ↦ elim (cases_lt place end) [
        | inl m ↦
            let e : low + (place - low) ≡ place = omega arith in
            ap (λ (p : ℕ). word_at low words p) (sym e) ∙ (word_inside low words (place - low)
            ∙ (each (place - low) (omega arith) ∙ ap (λ (p : ℕ). new_word held offered mask p) e))
        | inr m ↦ word_behind low words place (omega arith) ∙ sym (above m)
      ]
    ]
      where
        below : place < low → new_word held offered mask place ≡ 0
        below l = elim (cases_lt place first) [ inl h ↦ not_offered place (before place h) | inr h ↦ lower place h l ]

        above : end ≤ place → new_word held offered mask place ≡ 0
        above m = elim (cases_lt place bound) [ inl h ↦ higher place m h | inr h ↦ not_offered place (behind place h) ]
