-- Numbers in a range, from numbers in the widest one.
use Rattle.std.proofs.Common.{◌≡◌, ◌∙◌, ℕ, ◌<◌, ◌≤◌, ◌^◌, List, length, Option, Some, None, IfSome, IsTrue, sym, subst, arith}
use Rattle.std.specs.List.{list_all}
use Rattle.command_words.specs.Requests.{Spells, is_digit, number_of}
use Rattle.command_words.proofs.Digits.{below_power}

module _ (least most : ℕ) (text : List ℕ) where
  -- a number that the text spells, in the range
  pub spells_within : (n : ℕ) → Spells 0 99999999 text n → (least ≤ n) × (n ≤ most) → Spells least most text n
  spells_within n s h = record { some = s.some; few = s.few; digits = s.digits; value = s.value; at_least = h.0; at_most = h.1 }

  -- and one that is not in the range
  pub spells_other : (n : ℕ) → Spells 0 99999999 text n → ((least ≤ n) × (n ≤ most) → ⊥) → (m : ℕ) → Spells least most text m → ⊥
  spells_other n s out m t = out (subst (λ (k : ℕ). (least ≤ k) × (k ≤ most)) (t.value ∙ sym s.value) (t.at_least, t.at_most))

  -- a text that spells no number at all
  pub spells_none : ((n : ℕ) → Spells 0 99999999 text n → ⊥) → (m : ℕ) → Spells least most text m → ⊥
  spells_none none m t =
      let below : number_of text < 10 ^ 8 = below_power text 8 t.digits t.few in
      let is : m ≡ number_of text = t.value in
      none m (record { some = t.some; few = t.few; digits = t.digits; value = t.value; at_least = omega arith; at_most = omega arith })

-- what digits alone spell, up to eight of them
pub spells_widest : (text : List ℕ) (o : Option ℕ) → 1 ≤ length text → length text ≤ 8
    → IfSome o (λ n. IsTrue (list_all is_digit text) × (n ≡ number_of text)) → IfSome o (Spells 0 99999999 text)
spells_widest text None some few h = h
spells_widest text (Some n) some few h =
    let below : number_of text < 10 ^ 8 = below_power text 8 h.0 few in
    let is : n ≡ number_of text = h.1 in
    record { some = some; few = few; digits = h.0; value = is; at_least = omega arith; at_most = omega arith }
