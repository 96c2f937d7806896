-- Numbers as bits of words: what is counted in one word more, and which number comes next.
use Rattle.std.proofs.Common.{◌≡◌, ℕ, ◌+◌, ◌-◌, ◌*◌, ◌/◌, ◌%◌, ◌^◌, ◌<◌, ◌≤◌, Bool, true, false, eqb, List, Option, Some, None, MatchOption, length, get_or, refl, sym, ap, ◌∙◌, arith, inl, inr}
use Rattle.std.specs.Int.{bit_at, w64, trailing_zeros}
use Rattle.std.specs.Int.Count.{ones}
use Rattle.std.proofs.lemmas.Bool.{cases_lt, false≢true, eqb-true, eq-eqb}
use Rattle.std.proofs.lemmas.Nat.{shr-shr}
use Rattle.std.proofs.lemmas.Nat.Bits.{bit_at-zero, bit_at_above, bit_at-trailing_zeros}
use Rattle.bit_rows.specs.Words.{HasNoneFrom, IsNextOf, row_has, word_at}
use Rattle.bit_rows.proofs.Counting.{count_below, count_bits, joined_below, none_below, same_below}
use Rattle.bit_rows.proofs.Places.{word_before, word_behind, word_inside}

-- ---- one number

-- a number by its word and its bit
pub has_by : (first : ℕ) (words : List ℕ) (n place bit word : ℕ) → n / 64 ≡ place → n % 64 ≡ bit → word_at first words place ≡ word
    → row_has first words n ≡ eqb (bit_at word bit) 1
has_by first words n place bit word p b w =
    ap (λ (q : ℕ). eqb (bit_at (word_at first words q) (n % 64)) 1) p
    ∙ (ap (λ (i : ℕ). eqb (bit_at (word_at first words place) i) 1) b ∙ ap (λ (v : ℕ). eqb (bit_at v bit) 1) w)

pub set_bit : (first : ℕ) (words : List ℕ) (n : ℕ) → row_has first words n ≡ true → bit_at (word_at first words (n / 64)) (n % 64) ≡ 1
set_bit first words n has = eqb-true _ 1 has

-- a number whose bit is 0
pub no_bit : (first : ℕ) (words : List ℕ) (n place bit word : ℕ) → n / 64 ≡ place → n % 64 ≡ bit → word_at first words place ≡ word → bit_at word bit ≡ 0
    → row_has first words n ≡ false
no_bit first words n place bit word p b w none = has_by first words n place bit word p b w ∙ ap (λ (v : ℕ). eqb v 1) none

pub none_in_zero : (first : ℕ) (words : List ℕ) (n : ℕ) → word_at first words (n / 64) ≡ 0 → row_has first words n ≡ false
none_in_zero first words n w = no_bit first words n (n / 64) (n % 64) 0 refl refl w (bit_at-zero (n % 64))

-- a row has no number before its first word, and none behind its last one
pub none_before : (first : ℕ) (words : List ℕ) (n : ℕ) → n < 64 * first → row_has first words n ≡ false
none_before first words n l = none_in_zero first words n (word_before first words (n / 64) (omega arith))

pub none_behind : (first : ℕ) (words : List ℕ) (n : ℕ) → 64 * (first + length words) ≤ n → row_has first words n ≡ false
none_behind first words n l = none_in_zero first words n (word_behind first words (n / 64) (omega arith))

pub not_both : {b : Bool} → b ≡ false → b ≡ true → ⊥
not_both none some = false≢true (sym none ∙ some)

-- ---- counts

pub count_none : (first : ℕ) (words : List ℕ) → count_below (row_has first words) (64 * (first + 0)) ≡ 0
count_none first words = none_below (row_has first words) (64 * (first + 0)) (λ n l. none_before first words n (omega arith))

pub count_more : (first : ℕ) (words : List ℕ) (k : ℕ) → get_or words k 0 < 2 ^ 64
    → count_below (row_has first words) (64 * (first + (k + 1))) ≡ count_below (row_has first words) (64 * (first + k)) + ones (get_or words k 0)
count_more first words k small =
    let low = 64 * (first + k) in
    let word = get_or words k 0 in
    let e : 64 * (first + (k + 1)) ≡ low + 64 = omega arith in
    let parts = joined_below (row_has first words) low 64 in
    let moved : count_below (λ i. row_has first words (low + i)) 64 ≡ count_below (λ i. eqb (bit_at word i) 1) 64 =
    same_below _ _ 64 (λ i l. has_by first words (low + i) (first + k) i word (omega arith) (omega arith) (word_inside first words k)) in
    let bits = count_bits 64 word small in
    ap (λ (n : ℕ). count_below (row_has first words) n) e ∙ (parts ∙ ap (λ (n : ℕ). count_below (row_has first words) low + n) (moved ∙ bits))

-- ---- the next number

pub next_lower : (P : ℕ → Type 0) (low high n : ℕ) → low ≤ high → ((k : ℕ) → low ≤ k → k < high → P k → ⊥) → IsNextOf P high n → IsNextOf P low n
next_lower P low high n l none next = record {
  from = let h = next.from in omega arith;
  there = next.there;
  before = λ k from below p. elim (cases_lt k high) [ inl h ↦ none k from h p | inr h ↦ next.before k h below p ];
}

-- what is next from a number on is next from a lower one on, where there is none between
pub found_lower : (P : ℕ → Type 0) (low high : ℕ) → low ≤ high → ((k : ℕ) → low ≤ k → k < high → P k → ⊥) → (r : Option ℕ)
    → MatchOption r (HasNoneFrom P high) (IsNextOf P high) → MatchOption r (HasNoneFrom P low) (IsNextOf P low)
found_lower P low high l none None rest =
    record { none = λ k from p. elim (cases_lt k high) [ inl h ↦ none k from h p | inr h ↦ rest.none k h p ] }
found_lower P low high l none (Some n) next = next_lower P low high n l none next

-- there is no number in a word that is 0
pub none_in_word : (first : ℕ) (words : List ℕ) (k : ℕ) → get_or words k 0 ≡ 0 → (n : ℕ) → 64 * (first + k) ≤ n → n < 64 * (first + (k + 1))
    → row_has first words n ≡ true → ⊥
none_in_word first words k none n from below has =
    let place : n / 64 ≡ first + k = omega arith in
    not_both (none_in_zero first words n (ap (λ (p : ℕ). word_at first words p) place ∙ (word_inside first words k ∙ none))) has

-- the least number of a word that is not 0, from a bit on
pub next_in_rest : (first : ℕ) (words : List ℕ) (k bit rest : ℕ) → bit < 64 → get_or words k 0 < 2 ^ 64 → rest ≡ get_or words k 0 / 2 ^ bit → rest < 2 ^ 64 → (rest ≡ 0 → ⊥)
    → (bit + trailing_zeros w64 rest < 64) × IsNextOf (λ n. row_has first words n ≡ true) (64 * (first + k) + bit) (64 * (first + k) + bit + trailing_zeros w64 rest)
next_in_rest first words k bit rest l small is fits some = (
  inside,
  record {
    from = omega arith;
    there = has_by first words (low + bit + t) (first + k) (bit + t) word (omega (arith, inside)) (omega (arith, inside)) (word_inside first words k) ∙ eq-eqb _ 1 (shifted t ∙ trailing.1);
    before = λ n from below has.
        let i = n - (low + bit) in
        let in_word : n / 64 ≡ first + k = omega (arith, inside) in
        let at : n % 64 ≡ bit + i = omega (arith, inside) in
        not_both (no_bit first words n (first + k) (bit + i) word in_word at (word_inside first words k) (shifted i ∙ trailing.2 i (omega arith))) has;
  },
)
  where
    low : ℕ
    low = 64 * (first + k)

    word : ℕ
    word = get_or words k 0

    t : ℕ
    t = trailing_zeros w64 rest

    positive : 0 < rest
    positive = elim (cases_lt 0 rest) [ inl h ↦ h | inr h ↦ absurd (some (omega arith)) ]

    trailing : (t < 64) × (bit_at rest t ≡ 1) × ((i : ℕ) → i < t → bit_at rest i ≡ 0)
    trailing = bit_at-trailing_zeros w64 rest positive fits

    shifted : (i : ℕ) → bit_at word (bit + i) ≡ bit_at rest i
    shifted i = ap (λ (v : ℕ). v % 2) (sym (shr-shr word bit i)) ∙ ap (λ (v : ℕ). bit_at v i) (sym is)

    inside : bit + t < 64
    inside = elim (cases_lt (bit + t) 64) [
      | inl h ↦ h
      | inr h ↦ let none = bit_at_above word 64 (bit + t) small h in let one = shifted t ∙ trailing.1 in absurd (omega arith)
    ]

-- no number of a word from a bit on, where none of these bits is set
pub none_in_rest : (first : ℕ) (words : List ℕ) (k bit : ℕ) → bit < 64 → get_or words k 0 / 2 ^ bit ≡ 0 → (n : ℕ) → 64 * (first + k) + bit ≤ n → n < 64 * (first + (k + 1))
    → row_has first words n ≡ true → ⊥
none_in_rest first words k bit l empty n from below has =
    let word = get_or words k 0 in
    let i = n - (64 * (first + k) + bit) in
    let in_word : n / 64 ≡ first + k = omega arith in
    let at : n % 64 ≡ bit + i = omega arith in
    let none : bit_at word (bit + i) ≡ 0 = ap (λ (v : ℕ). v % 2) (sym (shr-shr word bit i)) ∙ (ap (λ (v : ℕ). bit_at v i) empty ∙ bit_at-zero i) in
    not_both (no_bit first words n (first + k) (bit + i) word in_word at (word_inside first words k) none) has
