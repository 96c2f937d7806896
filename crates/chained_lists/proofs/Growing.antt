-- What names name, when one more value is added.
use Rattle.std.proofs.Common.{◌≡◌, ◌∙◌, ◌⊎◌, inl, inr, ℕ, zero, suc, ◌<◌, ◌≤◌, List, [], ◌∷◌, ◌++◌, length, Some, refl, sym, ap, subst, arith}
use Rattle.std.specs.List.{slice_get}
use Rattle.std.proofs.lemmas.Option.{same_Some, slice_get_within}
use Rattle.list_laws.proofs.Places.{in_longer, push_cases, pushed_at}
use Rattle.chained_lists.specs.Entries.{Entry, HasNoneFrom, IsNext, IsPlace, entry}
use Rattle.chained_lists.specs.Chained.{IsLastNamed, IsNamed}

-- an entry at a place is one of its list
pub is_place : (es : List Entry) (k : ℕ) (e : Entry) → slice_get es k ≡ Some e → IsPlace es e.number k
is_place es k e at = record { value = e.value; at = at }

-- at a place stands one entry
pub one_number : (es : List Entry) (k : ℕ) (e : Entry) (number : ℕ) → slice_get es k ≡ Some e → IsPlace es number k → e.number ≡ number
one_number es k e number at is = ap (λ (a : Entry). a.number) (same_Some e (entry number is.value) (sym at ∙ is.at))

-- the last place of a list is the one after which there is none
pub last_place : (es : List Entry) (number p k : ℕ) → IsPlace es number p → HasNoneFrom es number (suc p) → IsPlace es number k → HasNoneFrom es number (suc k) → k ≡ p
last_place es number p k there later here none =
    let not_after : p < k → ⊥ = λ less. later.none k here.value (omega (arith, less)) here.at in
    let not_before : k < p → ⊥ = λ less. none.none p there.value (omega (arith, less)) there.at in
    omega (arith, not_after, not_before)

-- a last link is named by the head
pub named_last : (es : List Entry) (number name k : ℕ) → IsLastNamed es number name → IsPlace es number k → HasNoneFrom es number (suc k) → name ≡ suc k
named_last es number zero k is here none = absurd (is.later.none k here.value (omega arith) here.at)
named_last es number (suc p) k is here none = ap suc (sym (last_place es number p k (is.there p refl) is.later here none))

module _ (es : List Entry) (e : Entry) where
  place_stays : (number k : ℕ) → IsPlace es number k → IsPlace (es ++ e ∷ []) number k
  place_stays number k is = record { value = is.value; at = in_longer es (e ∷ []) k (entry number is.value) is.at }

  none_stays : (number first : ℕ) → (e.number ≡ number → ⊥) → HasNoneFrom es number first → HasNoneFrom (es ++ e ∷ []) number first
  none_stays number first other is = record { none = λ k value from at. by k value from (push_cases es e k (entry number value) at) }
    where
      by : (k value : ℕ) → first ≤ k → (slice_get es k ≡ Some (entry number value)) ⊎ ((k ≡ length es) × (entry number value ≡ e)) → ⊥
      by k value from (inl at) = is.none k value from at
      by k value from (inr last) = other (ap (λ (a : Entry). a.number) (sym last.1))

  next_stays : (number first place : ℕ) → IsNext es number first place → IsNext (es ++ e ∷ []) number first place
  next_stays number first place is = record {
    from = is.from;
    there = place_stays number place is.there;
    before = λ k value from less at. by k value from less (push_cases es e k (entry number value) at);
  }
    where
      within : place < length es
      within = slice_get_within es place (entry number is.there.value) is.there.at

      by : (k value : ℕ) → first ≤ k → k < place → (slice_get es k ≡ Some (entry number value)) ⊎ ((k ≡ length es) × (entry number value ≡ e)) → ⊥
      by k value from less (inl at) = is.before k value from less at
      by k value from less (inr last) = absurd (omega (arith, less, within, last.0))

  -- the new one is the next, where there was none
  next_new : (first : ℕ) → first ≤ length es → HasNoneFrom es e.number first → IsNext (es ++ e ∷ []) e.number first (length es)
  next_new first within is = record {
    from = within;
    there = record { value = e.value; at = pushed_at es e };
    before = λ k value from less at. by k value from less (push_cases es e k (entry e.number value) at);
  }
    where
      by : (k value : ℕ) → first ≤ k → k < length es → (slice_get es k ≡ Some (entry e.number value)) ⊎ ((k ≡ length es) × (entry e.number value ≡ e)) → ⊥
      by k value from less (inl at) = is.none k value from at
      by k value from less (inr last) = absurd (omega (arith, less, last.0))

  -- after the new one there is none
  none_new : (number first : ℕ) → length es < first → HasNoneFrom (es ++ e ∷ []) number first
  none_new number first past = record { none = λ k value from at. by k value from (push_cases es e k (entry number value) at) }
    where
      by : (k value : ℕ) → first ≤ k → (slice_get es k ≡ Some (entry number value)) ⊎ ((k ≡ length es) × (entry number value ≡ e)) → ⊥
      by k value from (inl at) = absurd (omega (arith, past, from, slice_get_within es k (entry number value) at))
      by k value from (inr last) = absurd (omega (arith, past, from, last.0))

  -- ---- names

  pub named_stays : (number first name : ℕ) → (name ≡ 0 → e.number ≡ number → ⊥) → IsNamed es number first name → IsNamed (es ++ e ∷ []) number first name
  named_stays number first name other is = record {
    next = λ place named. next_stays number first place (is.next place named);
    end = λ none. none_stays number first (other none) (is.end none);
  }

  pub named_new : (first : ℕ) → first ≤ length es → HasNoneFrom es e.number first → IsNamed (es ++ e ∷ []) e.number first (suc (length es))
  named_new first within is = record {
    next = λ place named. subst (IsNext (es ++ e ∷ []) e.number first) (omega (arith, named)) (next_new first within is);
    end = λ none. absurd (omega (arith, none));
  }

  pub named_none : (number : ℕ) → IsNamed (es ++ e ∷ []) number (suc (length es)) 0
  named_none number = record { next = λ place named. absurd (omega (arith, named)); end = λ none. none_new number (suc (length es)) (omega arith) }

  pub last_stays : (number name : ℕ) → (e.number ≡ number → ⊥) → IsLastNamed es number name → IsLastNamed (es ++ e ∷ []) number name
  last_stays number name other is = record {
    there = λ place named. place_stays number place (is.there place named);
    later = none_stays number name other is.later;
  }

  pub last_new : IsLastNamed (es ++ e ∷ []) e.number (suc (length es))
  last_new = record {
    there = λ place named. subst (IsPlace (es ++ e ∷ []) e.number) (omega (arith, named)) (record { value = e.value; at = pushed_at es e });
    later = none_new e.number (suc (length es)) (omega arith);
  }
