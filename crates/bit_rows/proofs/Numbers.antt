-- The list of the numbers of a set: which are in it, and in which order.
use Rattle.std.proofs.Common.{◌≡◌, length, ◌↔◌, ◌⊎◌, inl, inr, ℕ, zero, suc, ◌+◌, ◌<◌, ◌≤◌, Bool, true, false, cond, List, [], ◌∷◌, filter, refl, sym, ap, ◌∙◌, subst, arith}
use Rattle.std.specs.List.{Contains, range_with_len}
use Rattle.std.specs.List.Sorted.{IsStrictlyIncreasing}
use Rattle.std.proofs.lemmas.Bool.{cases_lt, false_from_ne_true}
use Rattle.std.proofs.lemmas.List.FromFn.{length-range_with_len, get_or-range_with_len}
use Rattle.std.proofs.lemmas.List.Kept.{IsStrictlyIncreasing-filter}
use Rattle.list_laws.proofs.Members.{contains_cases, contains_first, contains_later, contains_none}
use Rattle.bit_rows.specs.declared.set.NumberSet.{NumberSet}
use Rattle.bit_rows.specs.declared.set.NumberSet.TheVariants.{Empty}
use Rattle.bit_rows.specs.Sets.{IsIn, end_of, has_number, numbers_of}
use Rattle.bit_rows.proofs.Bits.{not_both}
use Rattle.bit_rows.proofs.Counting.{count_within, fewer_below, none_beyond}
use Rattle.bit_rows.proofs.Sets.{counted, none_from_end}

-- ---- the numbers of a range that pass

record Passes (p : ℕ → Bool) (start n k : ℕ) : Type 0 where
  from : start ≤ k
  below : k < start + n
  passes : p k ≡ true

passing : (p : ℕ → Bool) (start n k : ℕ) → Contains (filter p (range_with_len start n)) k → Passes p start n k
passing p start zero k there = absurd (contains_none k there)
passing p start (suc n) k there = by (passing p (start + 1) n k) (p start) refl there
  where
    later : Passes p (start + 1) n k → Passes p start (suc n) k
    later h = let from = h.from in let below = h.below in record { from = omega arith; below = omega arith; passes = h.passes }

    by : (Contains (filter p (range_with_len (start + 1) n)) k → Passes p (start + 1) n k) → (b : Bool) → p start ≡ b
        → Contains (cond (p start) (start ∷ filter p (range_with_len (start + 1) n)) (filter p (range_with_len (start + 1) n))) k → Passes p start (suc n) k
    by rest b is found = go b is (subst (λ (c : Bool). Contains (cond c (start ∷ filter p (range_with_len (start + 1) n)) (filter p (range_with_len (start + 1) n))) k) is found)
      where
        go : (b : Bool) → p start ≡ b → Contains (cond b (start ∷ filter p (range_with_len (start + 1) n)) (filter p (range_with_len (start + 1) n))) k → Passes p start (suc n) k
        go true is found = elim (contains_cases start k (filter p (range_with_len (start + 1) n)) found) [
          | inl e ↦ record { from = omega arith; below = omega arith; passes = ap p (sym e) ∙ is }
          | inr h ↦ later (rest h)
        ]
        go false is found = later (rest found)

passed : (p : ℕ → Bool) (start n k : ℕ) → Passes p start n k → Contains (filter p (range_with_len start n)) k
passed p start zero k h = let from = h.from in let below = h.below in absurd (omega arith)
passed p start (suc n) k h = by (passed p (start + 1) n k) (p start) refl (cases_lt start k)
  where
    by : (Passes p (start + 1) n k → Contains (filter p (range_with_len (start + 1) n)) k) → (b : Bool) → p start ≡ b → (start < k) ⊎ (k ≤ start)
        → Contains (cond (p start) (start ∷ filter p (range_with_len (start + 1) n)) (filter p (range_with_len (start + 1) n))) k
    by rest b is place = subst (λ (c : Bool). Contains (cond c (start ∷ filter p (range_with_len (start + 1) n)) (filter p (range_with_len (start + 1) n))) k) (sym is) (go b is place)
      where
        after : start < k → Contains (filter p (range_with_len (start + 1) n)) k
        after l = let from = h.from in let below = h.below in rest (record { from = omega arith; below = omega arith; passes = h.passes })

        go : (b : Bool) → p start ≡ b → (start < k) ⊎ (k ≤ start) → Contains (cond b (start ∷ filter p (range_with_len (start + 1) n)) (filter p (range_with_len (start + 1) n))) k
        go true is (inl l) = contains_later start k (filter p (range_with_len (start + 1) n)) (after l)
        go true is (inr l) =
            let from = h.from in
            let e : start ≡ k = omega arith in
            subst (λ (m : ℕ). Contains (start ∷ filter p (range_with_len (start + 1) n)) m) e (contains_first start (filter p (range_with_len (start + 1) n)))
        go false is (inl l) = after l
        go false is (inr l) =
            let from = h.from in
            let e : k ≡ start = omega arith in
            absurd (not_both is (ap p (sym e) ∙ h.passes))

range_increasing : (start n : ℕ) → IsStrictlyIncreasing (range_with_len start n)
range_increasing start n k l =
    let long = length-range_with_len start n in
    let here = get_or-range_with_len start n k 0 (omega arith) in
    let next = get_or-range_with_len start n (k + 1) 0 (omega arith) in
    omega arith

-- ---- the laws

-- the list has a number exactly where it is in the set
pub listed : (set : NumberSet) (n : ℕ) → Contains (numbers_of set) n ↔ IsIn set n
unfolding numbers_of
listed set n = (λ there. record { there = (passing (has_number set) 0 (end_of set) n there).passes }, λ is. passed (has_number set) 0 (end_of set) n (within is))
  where
    within : IsIn set n → Passes (has_number set) 0 (end_of set) n
    within is = record {
      from = omega arith;
      below = elim (cases_lt n (end_of set)) [ inl l ↦ omega arith | inr l ↦ absurd (not_both (none_from_end set n l) is.there) ];
      passes = is.there;
    }

-- each number is below the next one, so none stands twice
pub ascending : (set : NumberSet) → IsStrictlyIncreasing (numbers_of set)
unfolding numbers_of
ascending set = IsStrictlyIncreasing-filter (has_number set) (range_with_len 0 (end_of set)) (range_increasing 0 (end_of set))

pub none_listed : numbers_of Empty ≡ []
unfolding numbers_of
none_listed = refl

pub none_in_empty : (n : ℕ) → IsIn Empty n → ⊥
none_in_empty n is = not_both refl is.there

-- a set that has a number has a list with one
pub some_listed : (set : NumberSet) (n : ℕ) → IsIn set n → numbers_of set ≡ [] → ⊥
some_listed set n is none = contains_none n (subst (λ (ns : List ℕ). Contains ns n) none ((listed set n).1 is))

-- ---- how many

-- numbers that are all below m are m at most
pub count_bound : (set : NumberSet) (m : ℕ) → ((n : ℕ) → IsIn set n → n < m) → length (numbers_of set) ≤ m
count_bound set m lower =
    let n = end_of set + m in
    let all = counted set n (omega arith) in
    let none = none_beyond (has_number set) m n (omega arith) (λ k l. false_from_ne_true (has_number set k) (λ is. above k l (lower k (record { there = is })))) in
    let few = count_within (has_number set) m in
    omega arith
  where
    above : (k : ℕ) → m ≤ k → k < m → ⊥
    above k l less = absurd (omega arith)

-- a set that has what another one has has no fewer
pub count_kept : (old new : NumberSet) → ((n : ℕ) → IsIn old n → IsIn new n) → length (numbers_of old) ≤ length (numbers_of new)
count_kept old new kept =
    let n = end_of old + end_of new in
    let before = counted old n (omega arith) in
    let after = counted new n (omega arith) in
    let fewer = fewer_below (has_number old) (has_number new) n (λ k is. (kept k (record { there = is })).there) in
    omega arith
