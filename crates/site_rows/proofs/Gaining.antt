-- What rows have after sites were added to one of them.
use Rattle.std.proofs.Common.{◌≡◌, ◌⊎◌, inl, inr, ℕ, ◌+◌, ◌<◌, List, Some, length, set, refl, sym, ◌∙◌, subst, arith}
use Rattle.std.specs.List.{slice_get, Contains}
use Rattle.std.proofs.lemmas.Bool.{cases_eq}
use Rattle.bit_rows.specs.declared.set.NumberSet.{NumberSet}
use Rattle.bit_rows.specs.declared.set.NumberSet.TheVariants.{Empty}
use Rattle.bit_rows.specs.declared.set.NumberSet.TheVariants as bit_rows_sets
use Rattle.bit_rows.specs.Sets.{HasMore, IsIn, IsNew, numbers_of}
use Rattle.site_rows.specs.declared.row.SiteRow.{SiteRow}
use Rattle.site_rows.specs.Rows.{AreIdle, AreWaiting, Gains, HasSameRows, fresh_among, fresh_at, fresh_count, held_at, held_count, pairs_in}
use Rattle.site_rows.specs.Sound.{AreWithin}
use Rattle.site_rows.proofs.Setting.{fresh_before, fresh_else, fresh_here, held_before, held_else, held_here, sum_set}

-- nothing is added to a set
pub more_none : (old : NumberSet) (P : ℕ → Type 0) → ((n : ℕ) → P n → ⊥) → HasMore old old P
more_none old P none = record { at_most = record { kept = λ n is. is; only = λ n is. inl is }; added = λ n p. absurd (none n p) }

-- the same by other words for what is added
pub more_as : (old new : NumberSet) (P Q : ℕ → Type 0) → ((n : ℕ) → P n → Q n) → ((n : ℕ) → Q n → P n) → HasMore old new P → HasMore old new Q
more_as old new P Q to back h = record {
  at_most = record { kept = h.at_most.kept; only = λ n is. elim (h.at_most.only n is) [ inl before ↦ inl before | inr p ↦ inr (to n p) ] };
  added = λ n q. h.added n (back n q);
}

-- The row at a place got the sites with P.
module _ (old rows : List SiteRow) (same : HasSameRows old rows) (place : ℕ) (row new : SiteRow) (within : place < length rows) (stands : slice_get rows place ≡ Some row) (P : ℕ → Type 0)
    (held : HasMore row.held new.held P) (fresh : HasMore row.fresh new.fresh (IsNew row.held P)) where
  abbrev after : List SiteRow
  after = set rows place new

  abbrev Here : ℕ → ℕ → Type 0
  Here q n = (q ≡ place) × P n

  held_was : held_at old place ≡ row.held
  held_was = sym (same.held place) ∙ held_before rows place row new within stands

  fresh_was : fresh_at old place ≡ row.fresh
  fresh_was = sym (same.fresh place) ∙ fresh_before rows place row new within stands

  held_at_place : HasMore (held_at old place) (held_at after place) (Here place)
  held_at_place = more_as (held_at old place) (held_at after place) P (Here place) (λ n p. (refl, p)) (λ n p. p.1)
      (subst (λ (s : NumberSet). HasMore s (held_at after place) P) (sym held_was)
      (subst (λ (s : NumberSet). HasMore row.held s P) (sym (held_here rows place row new within stands)) held))

  fresh_at_place : HasMore (fresh_at old place) (fresh_at after place) (IsNew (held_at old place) (Here place))
  fresh_at_place = more_as (fresh_at old place) (fresh_at after place) (IsNew (held_at old place) P) (IsNew (held_at old place) (Here place))
      (λ n new. record { offered = (refl, new.offered); absent = new.absent }) (λ n new. record { offered = new.offered.1; absent = new.absent })
      (subst (λ (s : NumberSet). HasMore (fresh_at old place) (fresh_at after place) (IsNew s P)) (sym held_was)
      (subst (λ (s : NumberSet). HasMore s (fresh_at after place) (IsNew row.held P)) (sym fresh_was)
      (subst (λ (s : NumberSet). HasMore row.fresh s (IsNew row.held P)) (sym (fresh_here rows place row new within stands)) fresh)))

  pub gained : Gains old after Here
  gained = record {
    held = λ q. elim (cases_eq q place) [
      | inl e ↦ subst (λ (k : ℕ). HasMore (held_at old k) (held_at after k) (Here k)) (sym e) held_at_place
      | inr other ↦ subst (λ (s : NumberSet). HasMore (held_at old q) s (Here q)) (sym (held_else rows place row new within stands q other ∙ same.held q)) (more_none (held_at old q) (Here q) (λ n p. other p.0))
    ];
    fresh = λ q. elim (cases_eq q place) [
      | inl e ↦ subst (λ (k : ℕ). HasMore (fresh_at old k) (fresh_at after k) (IsNew (held_at old k) (Here k))) (sym e) fresh_at_place
      | inr other ↦ subst (λ (s : NumberSet). HasMore (fresh_at old q) s (IsNew (held_at old q) (Here q))) (sym (fresh_else rows place row new within stands q other ∙ same.fresh q))
          (more_none (fresh_at old q) (IsNew (held_at old q) (Here q)) (λ n p. other p.offered.0))
    ];
  }

  pub pairs_gained : (count : ℕ) → length (numbers_of new.held) ≡ length (numbers_of row.held) + count → pairs_in after ≡ pairs_in old + count
  pairs_gained count more = let s = sum_set rows place row new within stands held_count in let e = same.pairs in omega arith

  pub fresh_gained : (count : ℕ) → length (numbers_of new.fresh) ≡ length (numbers_of row.fresh) + count → fresh_among after ≡ fresh_among old + count
  fresh_gained count more = let s = sum_set rows place row new within stands fresh_count in let e = same.fresh_ones in omega arith

  pub waiting_gained : (waiting more : List ℕ) → AreWaiting old waiting → ((q : ℕ) → Contains waiting q → Contains more q)
      → (row.fresh ≡ Empty → (new.fresh ≡ Empty → ⊥) → Contains more place) → (row.fresh ≡ Empty) ⊎ (row.fresh ≡ Empty → ⊥) → AreWaiting after more
  waiting_gained waiting more before kept wakes was = record {
    each = λ q some. elim (cases_eq q place) [
      | inl e ↦ subst (λ (k : ℕ). Contains more k) (sym e) (elim was [
        | inl idle ↦ wakes idle (λ none. some (subst (λ (k : ℕ). fresh_at after k ≡ Empty) (sym e) (fresh_here rows place row new within stands ∙ none)))
        | inr busy ↦ kept place (before.each place (λ none. busy (sym fresh_was ∙ none)))
      ])
      | inr other ↦ kept q (before.each q (λ none. some (fresh_else rows place row new within stands q other ∙ same.fresh q ∙ none)))
    ];
  }

-- fresh sites are still among the sites
pub within_gained : (old new : List SiteRow) (P : ℕ → ℕ → Type 0) → Gains old new P → AreWithin old → AreWithin new
within_gained old new P gains within = record {
  each = λ place site is. elim ((gains.fresh place).at_most.only site is) [
    | inl before ↦ (gains.held place).at_most.kept site (within.each place site before)
    | inr more ↦ (gains.held place).added site more.offered
  ];
}

pub empty_or_not : (set : NumberSet) → (set ≡ Empty) ⊎ (set ≡ Empty → ⊥)
empty_or_not set = by set refl
  where
    by : (s : NumberSet) → set ≡ s → (set ≡ Empty) ⊎ (set ≡ Empty → ⊥)
    by Empty e = inl e
    by (bit_rows_sets.One held) e = inr (λ none. cc)
    by (bit_rows_sets.Many row) e = inr (λ none. cc)

-- what is said of pairs in other words
pub gains_as : (old new : List SiteRow) (P Q : ℕ → ℕ → Type 0) → ((q n : ℕ) → P q n → Q q n) → ((q n : ℕ) → Q q n → P q n) → Gains old new P → Gains old new Q
gains_as old new P Q to back h = record {
  held = λ q. more_as (held_at old q) (held_at new q) (P q) (Q q) (to q) (back q) (h.held q);
  fresh = λ q. more_as (fresh_at old q) (fresh_at new q) (IsNew (held_at old q) (P q)) (IsNew (held_at old q) (Q q))
      (λ n new. record { offered = to q n new.offered; absent = new.absent }) (λ n new. record { offered = back q n new.offered; absent = new.absent }) (h.fresh q);
}

-- nothing is gained where each pair is there already
pub gains_none : (rows : List SiteRow) (P : ℕ → ℕ → Type 0) → ((q n : ℕ) → P q n → IsIn (held_at rows q) n) → Gains rows rows P
gains_none rows P there = record {
  held = λ q. record { at_most = record { kept = λ n is. is; only = λ n is. inl is }; added = there q };
  fresh = λ q. more_none (fresh_at rows q) (IsNew (held_at rows q) (P q)) (λ n new. new.absent (there q n new.offered));
}

-- nothing is fresh where no place waits
pub idle_by : (rows : List SiteRow) (waiting : List ℕ) → AreWaiting rows waiting → ((q : ℕ) → Contains waiting q → ⊥) → AreIdle rows
idle_by rows waiting h none = record {
  none = λ q. elim (empty_or_not (fresh_at rows q)) [ inl e ↦ e | inr some ↦ absurd (none q (h.each q some)) ];
}
