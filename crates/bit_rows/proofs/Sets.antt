-- Which numbers are in sets, by the bits of their words; and how many there are.
use Rattle.std.proofs.Common.{◌≡◌, ◌⊎◌, inl, inr, ℕ, zero, suc, ◌+◌, ◌/◌, ◌%◌, ◌^◌, ◌<◌, ◌≤◌, min, max, Bool, true, false, eqb, length, refl, sym, ap, ◌∙◌, arith}
use Rattle.std.specs.Prelude.{bit_and, bit_or}
use Rattle.std.specs.Int.{bit_at}
use Rattle.std.proofs.lemmas.Bool.{cases_Bool, cases_eq, cond-true, cond-false, eq-eqb, ne_eqb, false≢true}
use Rattle.std.proofs.lemmas.Nat.Bits.{bit_at-zero, bit_at-lt, bit_at_and, bit_at_or, bit_at_xor, bit_at-pow_same, bit_at-pow_other}
use Rattle.bit_rows.specs.declared.set.NumberSet.{NumberSet}
use Rattle.bit_rows.specs.declared.set.NumberSet.TheVariants.{Empty, One, Many}
use Rattle.bit_rows.specs.Words.{word_at, word_of_one}
use Rattle.bit_rows.specs.Sets.{HasMore, HasNone, HasSame, IsIn, IsInBoth, IsNew, end_of, has_number, numbers_of}
use Rattle.bit_rows.specs.SetWords.{new_word, word_of}
use Rattle.bit_rows.proofs.Counting.{count_below, count_filtered, none_beyond, one_if, parted_below, same_below}
use Rattle.bit_rows.proofs.Bits.{none_behind}

-- ---- by bits

-- the bit of a number
abbrev pub bit_of : NumberSet → ℕ → ℕ
bit_of set n = bit_at (word_of set (n / 64)) (n % 64)

one_bit : (held n : ℕ) → bit_at (word_of_one held (n / 64)) (n % 64) ≡ one_if (eqb held n)
one_bit held n = elim (cases_eq held n) [
  | inl e ↦
      ap (λ (w : ℕ). bit_at w (n % 64)) (cond-true _ (2 ^ (held % 64)) 0 (eq-eqb (held / 64) (n / 64) (ap (λ (k : ℕ). k / 64) e)))
      ∙ (ap (λ (k : ℕ). bit_at (2 ^ (k % 64)) (n % 64)) e ∙ (bit_at-pow_same (n % 64) ∙ sym (ap one_if (eq-eqb held n e))))
  | inr other ↦ elim (cases_eq (held / 64) (n / 64)) [
    | inl here ↦
        ap (λ (w : ℕ). bit_at w (n % 64)) (cond-true _ (2 ^ (held % 64)) 0 (eq-eqb (held / 64) (n / 64) here))
        ∙ (bit_at-pow_other (held % 64) (n % 64) (λ same. other (omega arith)) ∙ sym (ap one_if (ne_eqb held n other)))
    | inr away ↦
        ap (λ (w : ℕ). bit_at w (n % 64)) (cond-false _ (2 ^ (held % 64)) 0 (ne_eqb (held / 64) (n / 64) away))
        ∙ (bit_at-zero (n % 64) ∙ sym (ap one_if (ne_eqb held n other)))
  ]
]

bit_as_test : (b : ℕ) → b < 2 → one_if (eqb b 1) ≡ b
bit_as_test zero l = refl
bit_as_test (suc zero) l = refl
bit_as_test (suc (suc b)) l = absurd (omega arith)

-- a bit is 1 where its number is in the set, and else 0
pub bit_is : (set : NumberSet) (n : ℕ) → bit_of set n ≡ one_if (has_number set n)
bit_is Empty n = bit_at-zero (n % 64)
bit_is (One held) n = one_bit held n
bit_is (Many row) n = sym (bit_as_test _ (bit_at-lt (word_at row.first row.words.items (n / 64)) (n % 64)))

one_if_true : (b : Bool) → one_if b ≡ 1 → b ≡ true
one_if_true true e = refl
one_if_true false e = absurd (omega arith)

one_if_false : (b : Bool) → (b ≡ true → ⊥) → one_if b ≡ 0
one_if_false true missing = absurd (missing refl)
one_if_false false missing = refl

pub in_by_bit : (set : NumberSet) (n : ℕ) → bit_of set n ≡ 1 → IsIn set n
in_by_bit set n e = record { there = one_if_true (has_number set n) (sym (bit_is set n) ∙ e) }

pub bit_by_in : (set : NumberSet) (n : ℕ) → IsIn set n → bit_of set n ≡ 1
bit_by_in set n is = bit_is set n ∙ ap one_if is.there

pub no_bit_by : (set : NumberSet) (n : ℕ) → (IsIn set n → ⊥) → bit_of set n ≡ 0
no_bit_by set n missing = bit_is set n ∙ one_if_false (has_number set n) (λ h. missing (record { there = h }))

pub in_or_not : (set : NumberSet) (n : ℕ) → IsIn set n ⊎ (IsIn set n → ⊥)
in_or_not set n = elim (cases_Bool (has_number set n)) [
  | inl h ↦ inl (record { there = h })
  | inr h ↦ inr (λ is. false≢true (sym h ∙ is.there))
]

-- ---- words that say which numbers are in a set

module _ (old more new : NumberSet) (words : (place : ℕ) → word_of new place ≡ bit_or (word_of old place) (word_of more place)) where
  united_bit : (n : ℕ) → bit_of new n ≡ max (bit_of old n) (bit_of more n)
  united_bit n = ap (λ (w : ℕ). bit_at w (n % 64)) (words (n / 64)) ∙ bit_at_or (word_of old (n / 64)) (word_of more (n / 64)) (n % 64)

  -- a set of which each word is that of two sets has the numbers of both
  pub united : HasMore old new (IsIn more)
  united = record {
    at_most = record {
      kept = λ n is. in_by_bit new n (let e = united_bit n in let h = bit_by_in old n is in let l = bit_at-lt (word_of more (n / 64)) (n % 64) in omega arith);
      only = λ n is. elim (in_or_not old n) [
        | inl h ↦ inl h
        | inr missing ↦ inr (in_by_bit more n (let e = united_bit n in let h = bit_by_in new n is in let z = no_bit_by old n missing in omega arith))
      ];
    };
    added = λ n is. in_by_bit new n (let e = united_bit n in let h = bit_by_in more n is in let l = bit_at-lt (word_of old (n / 64)) (n % 64) in omega arith);
  }

pub same_by_words : (old new : NumberSet) → ((place : ℕ) → word_of new place ≡ word_of old place) → HasSame old new
same_by_words old new words = record {
  each = λ n.
      let e : bit_of new n ≡ bit_of old n = ap (λ (w : ℕ). bit_at w (n % 64)) (words (n / 64)) in
      (λ is. in_by_bit old n (sym e ∙ bit_by_in new n is), λ is. in_by_bit new n (e ∙ bit_by_in old n is));
}

module _ (held offered mask fresh : NumberSet) (words : (place : ℕ) → word_of fresh place ≡ new_word held offered mask place) where
  fresh_bit : (n : ℕ) → bit_of fresh n ≡ (min (bit_of offered n) (bit_of mask n) + min (min (bit_of offered n) (bit_of mask n)) (bit_of held n)) % 2
  fresh_bit n =
      let i = n % 64 in
      let a = word_of held (n / 64) in
      let b = word_of offered (n / 64) in
      let m = word_of mask (n / 64) in
      ap (λ (w : ℕ). bit_at w i) (words (n / 64)) ∙ (bit_at_xor (bit_and b m) (bit_and (bit_and b m) a) i
      ∙ (ap (λ (v : ℕ). (bit_at (bit_and b m) i + v) % 2) (bit_at_and (bit_and b m) a i)
      ∙ ap (λ (v : ℕ). (v + min v (bit_at a i)) % 2) (bit_at_and b m i)))

  pub fresh_is_new : (n : ℕ) → IsIn fresh n → IsNew held (IsInBoth offered mask) n
  fresh_is_new n is =
      let e = fresh_bit n in
      let h = bit_by_in fresh n is in
      let o = bit_at-lt (word_of offered (n / 64)) (n % 64) in
      let m = bit_at-lt (word_of mask (n / 64)) (n % 64) in
      record {
        offered = record { left = in_by_bit offered n (omega arith); right = in_by_bit mask n (omega arith) };
        absent = λ there. let one = bit_by_in held n there in absurd (omega arith);
      }

  pub new_is_fresh : (n : ℕ) → IsNew held (IsInBoth offered mask) n → IsIn fresh n
  new_is_fresh n new = in_by_bit fresh n
      (let e = fresh_bit n in
      let o = bit_by_in offered n new.offered.left in
      let m = bit_by_in mask n new.offered.right in
      let z = no_bit_by held n new.absent in
      omega arith)

-- ---- how many

-- no number of a set is as high as its end
pub none_from_end : (set : NumberSet) (n : ℕ) → end_of set ≤ n → has_number set n ≡ false
none_from_end Empty n l = refl
none_from_end (One held) n l = ne_eqb held n (λ e. absurd (omega arith))
none_from_end (Many row) n l = none_behind row.first row.words.items n l

pub counted : (set : NumberSet) (n : ℕ) → end_of set ≤ n → length (numbers_of set) ≡ count_below (has_number set) n
unfolding numbers_of
counted set n l =
    count_filtered (has_number set) 0 (end_of set)
    ∙ (same_below (λ k. has_number set (0 + k)) (has_number set) (end_of set) (λ k h. ap (λ (i : ℕ). has_number set i) (omega arith))
    ∙ sym (none_beyond (has_number set) (end_of set) n l (none_from_end set)))

-- a set that has the numbers of another one besides, none of which was in it before, has as many more
pub count_added : (old more new : NumberSet) → HasMore old new (IsIn more) → HasNone old (IsIn more)
    → length (numbers_of new) ≡ length (numbers_of old) + length (numbers_of more)
count_added old more new grown apart =
    let n = end_of old + end_of more + end_of new in
    let a = counted old n (omega arith) in
    let b = counted more n (omega arith) in
    let c = counted new n (omega arith) in
    let parts = parted_below (has_number new) (has_number old) (has_number more) n (λ k l. part k (in_or_not old k) (in_or_not more k)) in
    omega arith
  where
    present : (set : NumberSet) (k : ℕ) → IsIn set k → one_if (has_number set k) ≡ 1
    present set k is = ap one_if is.there

    absent : (set : NumberSet) (k : ℕ) → (IsIn set k → ⊥) → one_if (has_number set k) ≡ 0
    absent set k missing = one_if_false (has_number set k) (λ h. missing (record { there = h }))

    part : (k : ℕ) → IsIn old k ⊎ (IsIn old k → ⊥) → IsIn more k ⊎ (IsIn more k → ⊥) → one_if (has_number new k) ≡ one_if (has_number old k) + one_if (has_number more k)
    part k (inl a) (inl b) = absurd (apart.none k b a)
    part k (inl a) (inr missing) = let n = present new k (grown.at_most.kept k a) in let o = present old k a in let m = absent more k missing in omega arith
    part k (inr missing) (inl b) = let n = present new k (grown.added k b) in let o = absent old k missing in let m = present more k b in omega arith
    part k (inr missing) (inr none) =
        let n = absent new k (λ is. elim (grown.at_most.only k is) [ inl h ↦ missing h | inr h ↦ none h ]) in
        let o = absent old k missing in
        let m = absent more k none in
        omega arith
