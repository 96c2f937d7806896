-- Words by their numbers, and what stands where after a row was widened and another one was added.
use Rattle.std.proofs.Common.{◌≡◌, ℕ, ◌+◌, ◌-◌, ◌<◌, ◌≤◌, List, [], length, get_or, take, set, sym, ap, ◌∙◌, subst, arith, ◌⊎◌, inl, inr}
use Rattle.std.specs.Prelude.{bit_or}
use Rattle.std.specs.Int.Bits.{or_zero_r}
use Rattle.std.specs.List.{RotatedRight}
use Rattle.std.proofs.lemmas.Bool.{cases_eq, cases_lt, cond-true, cond-false, lt-ltb, le-ltb}
use Rattle.std.proofs.lemmas.List.{get_or_past, get_or-set_same, get_or-set_other, get_or-take, length-take}
use Rattle.std.proofs.lemmas.Nat.{le_or_l, le_or_r}
use Rattle.bit_rows.specs.Words.{IsTrimmed, word_at}

pub word_before : (first : ℕ) (words : List ℕ) (place : ℕ) → place < first → word_at first words place ≡ 0
word_before first words place l = cond-true _ 0 (get_or words (place - first) 0) (lt-ltb place first l)

pub word_from : (first : ℕ) (words : List ℕ) (place : ℕ) → first ≤ place → word_at first words place ≡ get_or words (place - first) 0
word_from first words place l = cond-false _ 0 (get_or words (place - first) 0) (le-ltb place first l)

-- the word at an index
pub word_inside : (first : ℕ) (words : List ℕ) (k : ℕ) → word_at first words (first + k) ≡ get_or words k 0
word_inside first words k =
    let e : first + k - first ≡ k = omega arith in
    word_from first words (first + k) (omega arith) ∙ ap (λ (i : ℕ). get_or words i 0) e

pub word_behind : (first : ℕ) (words : List ℕ) (place : ℕ) → first + length words ≤ place → word_at first words place ≡ 0
word_behind first words place l = word_from first words place (omega arith) ∙ get_or_past words (place - first) 0 (omega arith)

pub word_none : (first place : ℕ) → word_at first [] place ≡ 0
word_none first place = elim (cases_lt place first) [ inl l ↦ word_before first [] place l | inr l ↦ word_from first [] place l ]

-- words whose numbers are counted from another one
pub word_moved : (low first : ℕ) (words : List ℕ) (place : ℕ) → low ≤ first → low ≤ place → word_at (first - low) words (place - low) ≡ word_at first words place
word_moved low first words place l m = elim (cases_lt place first) [
  | inl before ↦ word_before (first - low) words (place - low) (omega arith) ∙ sym (word_before first words place before)
  | inr from ↦
      let e : (place - low) - (first - low) ≡ place - first = omega arith in
      word_from (first - low) words (place - low) (omega arith) ∙ (ap (λ (i : ℕ). get_or words i 0) e ∙ sym (word_from first words place from))
]

-- ---- more words

-- words that were filled up with 0, and then turned
pub widened : (before behind : ℕ) (old filled new : List ℕ) → length filled ≡ before + length old + behind → length new ≡ length filled
    → ((k : ℕ) → k < length old → get_or filled k 0 ≡ get_or old k 0) → ((k : ℕ) → length old ≤ k → k < length filled → get_or filled k 0 ≡ 0)
    → RotatedRight filled new (length filled) before → (place : ℕ) → get_or new place 0 ≡ word_at before old place
widened before behind old filled new long same front zeros turned place = elim (cases_lt place before) [
  | inl l ↦ turned.0 place 0 l ∙ (zeros (length filled - before + place) (omega arith) (omega arith) ∙ sym (word_before before old place l))
  | inr from ↦ elim (cases_lt place (length filled)) [
    | inl within ↦ elim (cases_lt (place - before) (length old)) [
      | inl held ↦ turned.1 place 0 from within ∙ (front (place - before) held ∙ sym (word_from before old place from))
      | inr past ↦ turned.1 place 0 from within ∙ (zeros (place - before) past (omega arith) ∙ sym (word_behind before old place (omega arith)))
    ]
    | inr past ↦ get_or_past new place 0 (omega arith) ∙ sym (word_behind before old place (omega arith))
  ]
]

-- ---- more bits

-- one word more was added
pub added_more : (old now : List ℕ) (start k word : ℕ) (more : List ℕ) → k < length more → start + length more ≤ length now → word ≡ get_or more k 0
    → ((place : ℕ) → get_or now place 0 ≡ bit_or (get_or old place 0) (word_at start (take k more) place))
    → (place : ℕ) → get_or (set now (start + k) (bit_or (get_or now (start + k) 0) word)) place 0 ≡ bit_or (get_or old place 0) (word_at start (take (k + 1) more) place)
added_more old now start k word more within fits is before place = elim (cases_eq place (start + k)) [
  | inl e ↦ subst (λ (p : ℕ). get_or (set now (start + k) (bit_or (get_or now (start + k) 0) word)) p 0 ≡ bit_or (get_or old p 0) (word_at start (take (k + 1) more) p)) (sym e) here
  | inr other ↦ get_or-set_other now (start + k) place (bit_or (get_or now (start + k) 0) word) 0 other
      ∙ (before place ∙ ap (λ (w : ℕ). bit_or (get_or old place 0) w) (elsewhere other))
]
  where
    none_yet : word_at start (take k more) (start + k) ≡ 0
    none_yet = word_inside start (take k more) k ∙ get_or_past (take k more) k 0 (omega (arith, length-take k more))

    now_there : word_at start (take (k + 1) more) (start + k) ≡ word
    now_there = word_inside start (take (k + 1) more) k ∙ (get_or-take (k + 1) more k 0 (omega arith) ∙ sym is)

    here : get_or (set now (start + k) (bit_or (get_or now (start + k) 0) word)) (start + k) 0 ≡ bit_or (get_or old (start + k) 0) (word_at start (take (k + 1) more) (start + k))
    here = get_or-set_same now (start + k) (bit_or (get_or now (start + k) 0) word) 0 (omega arith)
        ∙ (ap (λ (w : ℕ). bit_or w word) (before (start + k) ∙ (ap (λ (w : ℕ). bit_or (get_or old (start + k) 0) w) none_yet ∙ or_zero_r _))
        ∙ ap (λ (w : ℕ). bit_or (get_or old (start + k) 0) w) (sym now_there))

    elsewhere : (place ≡ start + k → ⊥) → word_at start (take k more) place ≡ word_at start (take (k + 1) more) place
    elsewhere other = elim (cases_lt place start) [
      | inl l ↦ word_before start (take k more) place l ∙ sym (word_before start (take (k + 1) more) place l)
      | inr from ↦ elim (cases_lt (place - start) k) [
        | inl l ↦ word_from start (take k more) place from ∙ (get_or-take k more (place - start) 0 l
            ∙ sym (word_from start (take (k + 1) more) place from ∙ get_or-take (k + 1) more (place - start) 0 (omega arith)))
        | inr past ↦ word_behind start (take k more) place (omega (arith, length-take k more))
            ∙ sym (word_behind start (take (k + 1) more) place (omega (arith, length-take (k + 1) more, other)))
      ]
    ]

-- ---- two rows as one

module _ (low first other : ℕ) (words more new : List ℕ) (from : low ≤ first) (over : low ≤ other)
    (each : (k : ℕ) → get_or new k 0 ≡ bit_or (word_at (first - low) words k) (word_at (other - low) more k)) where
  pub joined_at : (place : ℕ) → word_at low new place ≡ bit_or (word_at first words place) (word_at other more place)
  joined_at place = elim (cases_lt place low) [
    | inl l ↦ word_before low new place l ∙ sym (ap (λ (w : ℕ). bit_or w (word_at other more place)) (word_before first words place (omega arith)) ∙ word_before other more place (omega arith))
    | inr l ↦ word_from low new place l ∙ (each (place - low)
        ∙ (ap (λ (w : ℕ). bit_or w (word_at (other - low) more (place - low))) (word_moved low first words place from l)
        ∙ ap (λ (w : ℕ). bit_or (word_at first words place) w) (word_moved low other more place over l)))
  ]

  left_there : (k : ℕ) → 0 < word_at (first - low) words k → 0 < get_or new k 0
  left_there k l = let e = each k in let h = le_or_l (word_at (first - low) words k) (word_at (other - low) more k) in omega arith

  right_there : (k : ℕ) → 0 < word_at (other - low) more k → 0 < get_or new k 0
  right_there k l = let e = each k in let h = le_or_r (word_at (first - low) words k) (word_at (other - low) more k) in omega arith

  pub joined_trimmed : IsTrimmed words → IsTrimmed more → (first ≡ low) ⊎ (other ≡ low)
      → (low + length new ≡ first + length words) ⊎ (low + length new ≡ other + length more) → IsTrimmed new
  joined_trimmed left right begins ends = record {
    first = elim begins [
      | inl e ↦ left_there 0 (subst (λ (w : ℕ). 0 < w) (sym (at_first first words e)) left.first)
      | inr e ↦ right_there 0 (subst (λ (w : ℕ). 0 < w) (sym (at_first other more e)) right.first)
    ];
    last = elim ends [
      | inl e ↦ left_there (length new - 1) (subst (λ (w : ℕ). 0 < w) (sym (at_last first words from left.last e)) left.last)
      | inr e ↦ right_there (length new - 1) (subst (λ (w : ℕ). 0 < w) (sym (at_last other more over right.last e)) right.last)
    ];
  }
    where
      at_first : (f : ℕ) (ws : List ℕ) → f ≡ low → word_at (f - low) ws 0 ≡ get_or ws 0 0
      at_first f ws e = let z : f - low ≡ 0 = omega arith in ap (λ (i : ℕ). word_at i ws 0) z ∙ word_inside 0 ws 0

      some : (ws : List ℕ) → 0 < get_or ws (length ws - 1) 0 → 0 < length ws
      some ws l = elim (cases_lt 0 (length ws)) [ inl h ↦ h | inr h ↦ let z = get_or_past ws (length ws - 1) 0 (omega arith) in absurd (omega arith) ]

      at_last : (f : ℕ) (ws : List ℕ) → low ≤ f → 0 < get_or ws (length ws - 1) 0 → low + length new ≡ f + length ws → word_at (f - low) ws (length new - 1) ≡ get_or ws (length ws - 1) 0
      at_last f ws l h e =
          let nonempty = some ws h in
          let index : (length new - 1) - (f - low) ≡ length ws - 1 = omega arith in
          word_from (f - low) ws (length new - 1) (omega arith) ∙ ap (λ (i : ℕ). get_or ws i 0) index
