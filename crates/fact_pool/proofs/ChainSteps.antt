-- The steps of chains: one more row is linked; and what a chain is among more rows or fewer.
use Rattle.std.proofs.Common.{◌≡◌, ℕ, ◌+◌, ◌<◌, ◌≤◌, List, [], ◌∷◌, ◌++◌, length, take, set, get_or, Some, sym, ◌∙◌, ap, subst, arith, inl, inr}
use Rattle.std.specs.List.{slice_get}
use Rattle.std.proofs.lemmas.Bool.{cases_eq}
use Rattle.std.proofs.lemmas.List.{get_or-set_same, get_or-set_other}
use Rattle.std.proofs.lemmas.Option.{same_Some}
use Rattle.list_laws.proofs.Places.{in_front, in_longer, push_cases, to_front}
use Rattle.fact_pool.specs.Chains.{AreHeads, IsLast}

-- where another row was looked at, that is in another bucket, the last one is the same
pub last_passes : (buckets : List ℕ) (n bucket other named : ℕ) → IsLast buckets n bucket named → slice_get buckets n ≡ Some other → (bucket ≡ other → ⊥)
    → IsLast buckets (n + 1) bucket named
last_passes buckets n bucket other named last at apart = record {
  below = omega (arith, last.below);
  there = last.there;
  none_later = λ r l m e. elim (cases_eq r n) [
    | inl same ↦ apart (same_Some _ _ (sym e ∙ ap (slice_get buckets) same ∙ at))
    | inr less ↦ last.none_later r l (omega arith) e
  ];
}

-- and so it is without that row
pub last_before : (buckets : List ℕ) (n bucket other named : ℕ) → IsLast buckets (n + 1) bucket named → slice_get buckets n ≡ Some other → (bucket ≡ other → ⊥)
    → IsLast buckets n bucket named
last_before buckets n bucket other named last at apart = record {
  below = elim (cases_eq named (n + 1)) [
    | inl same ↦ absurd (apart (same_Some _ _ (sym (last.there n (same ∙ omega arith)) ∙ at)))
    | inr less ↦ omega (arith, last.below)
  ];
  there = last.there;
  none_later = λ r l m e. last.none_later r l (omega (arith, m)) e;
}

-- the row that is looked at is the last one of its own bucket
pub last_is : (buckets : List ℕ) (n bucket : ℕ) → slice_get buckets n ≡ Some bucket → IsLast buckets (n + 1) bucket (n + 1)
last_is buckets n bucket at = record {
  below = omega arith;
  there = λ r e. let same : n ≡ r = omega arith in sym (ap (slice_get buckets) same) ∙ at;
  none_later = λ r l m e. absurd (omega arith);
}

pub heads_linked : (buckets heads : List ℕ) (n bucket : ℕ) → slice_get buckets n ≡ Some bucket → bucket < length heads → AreHeads buckets n heads
    → AreHeads buckets (n + 1) (set heads bucket (n + 1))
heads_linked buckets heads n bucket at within before = record {
  at_bucket = λ b. elim (cases_eq b bucket) [
    | inl same ↦ subst (λ (k : ℕ). IsLast buckets (n + 1) b k)
        (sym (ap (λ (i : ℕ). get_or (set heads bucket (n + 1)) i 0) same ∙ get_or-set_same heads bucket (n + 1) 0 within))
        (last_is buckets n b (at ∙ ap Some (sym same)))
    | inr apart ↦ subst (λ (k : ℕ). IsLast buckets (n + 1) b k) (sym (get_or-set_other heads bucket b (n + 1) 0 apart))
        (last_passes buckets n b bucket (get_or heads b 0) (before.at_bucket b) at apart)
  ];
}

-- ---- more rows, and fewer

pub last_in_longer : (buckets : List ℕ) (more n bucket named : ℕ) → IsLast buckets n bucket named → n ≤ length buckets
    → IsLast (buckets ++ more ∷ []) n bucket named
last_in_longer buckets more n bucket named last l = record {
  below = last.below;
  there = λ r e. in_longer buckets (more ∷ []) r bucket (last.there r e);
  none_later = λ r from to e. elim (push_cases buckets more r bucket e) [
    | inl old ↦ last.none_later r from to old
    | inr new ↦ absurd (omega (arith, new.0))
  ];
}

pub last_in_front : (buckets : List ℕ) (m n bucket named : ℕ) → IsLast buckets n bucket named → n ≤ m → IsLast (take m buckets) n bucket named
last_in_front buckets m n bucket named last l = record {
  below = last.below;
  there = λ r e. to_front buckets m r bucket (omega (arith, last.below)) (last.there r e);
  none_later = λ r from to e. last.none_later r from to (in_front buckets m r bucket e).1;
}
