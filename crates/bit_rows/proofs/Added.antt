-- What a set has after numbers were added, and after memory ran out.
use Rattle.std.proofs.Common.{◌≡◌, inl, inr, ℕ, suc, ◌+◌, eqb, length, refl, sym, ap, ◌∙◌, arith, Result, Ok, Err, OnErr}
use Rattle.std.specs.Prelude.{bit_or}
use Rattle.std.proofs.lemmas.Bool.{eq-eqb, eqb-true, ne_eqb}
use Rattle.bit_rows.specs.declared.set.NumberSet.{NumberSet}
use Rattle.bit_rows.specs.declared.set.NumberSet.TheVariants.{One}
use Rattle.bit_rows.specs.Sets.{HasAtMost, HasMore, HasNone, IsIn, IsInBoth, IsNew, has_number, numbers_of}
use Rattle.bit_rows.specs.SetWords.{new_word, word_of}
use Rattle.bit_rows.proofs.Counting.{none_below, one_if}
use Rattle.bit_rows.proofs.Sets.{count_added, counted, fresh_is_new, in_or_not, new_is_fresh, same_by_words, united}

pub on_err_given : {T E Q : Type 0} (r : Result T E) → Q → OnErr r Q
on_err_given (Ok x) q = tt
on_err_given (Err e) q = q

pub at_most_by : (old new : NumberSet) (P Q : ℕ → Type 0) → ((n : ℕ) → P n → Q n) → HasAtMost old new P → HasAtMost old new Q
at_most_by old new P Q gives most = record {
  kept = most.kept;
  only = λ n is. elim (most.only n is) [ inl h ↦ inl h | inr p ↦ inr (gives n p) ];
}

pub more_by : (old new : NumberSet) (P Q : ℕ → Type 0) → ((n : ℕ) → P n → Q n) → ((n : ℕ) → Q n → P n) → HasMore old new P → HasMore old new Q
more_by old new P Q gives takes more = record {
  at_most = at_most_by old new P Q gives more.at_most;
  added = λ n q. more.added n (takes n q);
}

pub nothing_by : (set : NumberSet) (P Q : ℕ → Type 0) → ((n : ℕ) → Q n → P n) → HasNone set P → HasNone set Q
nothing_by set P Q takes nothing = record { none = λ n q is. nothing.none n (takes n q) is }

pub at_most_same : (old new : NumberSet) (P : ℕ → Type 0) → ((place : ℕ) → word_of new place ≡ word_of old place) → HasAtMost old new P
at_most_same old new P words =
    let same = same_by_words old new words in
    record { kept = λ n is. (same.each n).1 is; only = λ n is. inl ((same.each n).0 is) }

-- ---- one number

pub in_one : (held n : ℕ) → n ≡ held → IsIn (One held) n
in_one held n e = record { there = eq-eqb held n (sym e) }

pub only_one : (held n : ℕ) → IsIn (One held) n → n ≡ held
only_one held n is = sym (eqb-true held n is.there)

pub count_one : (held : ℕ) → length (numbers_of (One held)) ≡ 1
count_one held =
    let all = counted (One held) (suc held) (omega arith) in
    let lower = none_below (has_number (One held)) held (λ k l. ne_eqb held k (λ e. absurd (omega arith))) in
    let here : one_if (eqb held held) ≡ 1 = ap one_if (eq-eqb held held refl) in
    omega arith

module _ (old new : NumberSet) (number : ℕ) (words : (place : ℕ) → word_of new place ≡ bit_or (word_of old place) (word_of (One number) place)) where
  pub inserted : HasMore old new (λ n. n ≡ number)
  inserted = more_by old new (IsIn (One number)) (λ n. n ≡ number) (only_one number) (in_one number) (united old (One number) new words)

  pub count_inserted : (IsIn old number → ⊥) → length (numbers_of new) ≡ length (numbers_of old) + 1
  count_inserted absent =
      let apart : HasNone old (IsIn (One number)) = record { none = λ n is there. absent (at n (only_one number n is) there) } in
      count_added old (One number) new (united old (One number) new words) apart ∙ ap (λ (k : ℕ). length (numbers_of old) + k) (count_one number)
    where
      at : (n : ℕ) → n ≡ number → IsIn old n → IsIn old number
      at n e is = record { there = sym (ap (has_number old) e) ∙ is.there }

-- ---- the numbers of another set

module _ (held offered mask fresh : NumberSet) (words : (place : ℕ) → word_of fresh place ≡ new_word held offered mask place) where
  -- the set from which the new ones were told apart
  pub added_fitting : (new : NumberSet) → HasMore held new (IsIn fresh) → HasMore held new (IsInBoth offered mask)
  added_fitting new more = record {
    at_most = at_most_by held new (IsIn fresh) (IsInBoth offered mask) (λ n is. (fresh_is_new held offered mask fresh words n is).offered) more.at_most;
    added = λ n fits. elim (in_or_not held n) [
      | inl there ↦ more.at_most.kept n there
      | inr absent ↦ more.added n (new_is_fresh held offered mask fresh words n (record { offered = fits; absent = absent }))
    ];
  }

  pub count_fitting : (new : NumberSet) → HasMore held new (IsIn fresh) → length (numbers_of new) ≡ length (numbers_of held) + length (numbers_of fresh)
  count_fitting new more = count_added held fresh new more (record { none = λ n is there. (fresh_is_new held offered mask fresh words n is).absent there })

  -- a set that gets the new ones
  pub added_new : (old new : NumberSet) → HasMore old new (IsIn fresh) → HasMore old new (IsNew held (IsInBoth offered mask))
  added_new old new more =
      more_by old new (IsIn fresh) (IsNew held (IsInBoth offered mask)) (fresh_is_new held offered mask fresh words) (new_is_fresh held offered mask fresh words) more

  pub count_new : (old new : NumberSet) → HasMore old new (IsIn fresh) → HasNone old (IsNew held (IsInBoth offered mask))
      → length (numbers_of new) ≡ length (numbers_of old) + length (numbers_of fresh)
  count_new old new more nothing = count_added old fresh new more (nothing_by old (IsNew held (IsInBoth offered mask)) (IsIn fresh) (fresh_is_new held offered mask fresh words) nothing)
