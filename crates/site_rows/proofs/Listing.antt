-- The list of the pairs of rows: which pairs it has, that none stands twice, and how long it is.
use Rattle.std.proofs.Common.{◌≡◌, inl, inr, ℕ, zero, suc, ◌+◌, ◌<◌, List, [], ◌∷◌, ◌++◌, Some, length, get_or, map, refl, sym, ap, ◌∙◌, subst, arith, length-append}
use Rattle.std.specs.List.{Contains}
use Rattle.std.specs.List.Sorted.{IsStrictlyIncreasing}
use Rattle.std.proofs.lemmas.Bool.{cases_lt}
use Rattle.std.proofs.lemmas.Option.{get_or_from_slice_get, none-some, same_Some, slice_get_within}
use Rattle.std.proofs.lemmas.List.{length-map}
use Rattle.std.proofs.lemmas.List.Sums.{sum_by-cons}
use Rattle.std.proofs.lemmas.List.Elements.{Contains-append_left, Contains-append_right, Contains-append_cases}
use Rattle.list_laws.proofs.Members.{contained_in_map, contains_first, contains_later, contains_map, contains_none}
use Rattle.list_laws.proofs.Places.{contains_at, map_at, place_of}
use Rattle.least_sets.specs.Rules.{IsWithoutDoubles}
use Rattle.bit_rows.specs.declared.set.NumberSet.{NumberSet}
use Rattle.bit_rows.specs.Sets.{IsIn, numbers_of}
use Rattle.bit_rows.proofs.Numbers.{ascending, listed as number_listed, none_in_empty}
use Rattle.site_rows.specs.declared.row.SiteRow.{SiteRow}
use Rattle.site_rows.specs.Rows.{held_at, held_count, pairs_in}
use Rattle.site_rows.specs.Listed.{listed_from}

-- The pair of a place and a site of rows.
pub record IsPairOf {X : Type 0} (pair : ℕ → ℕ → X) (first : ℕ) (rows : List SiteRow) (x : X) : Type 0 where
  pub place : ℕ
  pub site : ℕ
  pub is : x ≡ pair (first + place) site
  pub held : IsIn (held_at rows place) site

-- Pairs differ where their places or their sites do.
pub record AreTold {X : Type 0} (pair : ℕ → ℕ → X) : Type 0 where
  pub places : (p q a b : ℕ) → pair p a ≡ pair q b → p ≡ q
  pub sites : (p q a b : ℕ) → pair p a ≡ pair q b → a ≡ b

-- the head of a list without doubles stands neither behind it nor in a list that shares nothing with it
head_apart : {X : Type 0} (z : X) (xs ys : List X) → IsWithoutDoubles (z ∷ xs) → ((x : X) → Contains (z ∷ xs) x → Contains ys x → ⊥) → Contains (xs ++ ys) z → ⊥
head_apart z xs ys one none there = elim (Contains-append_cases xs ys z there) [
  | inl here ↦ (let at = place_of xs z here in let same = one z 0 (suc at.0) refl at.1 in omega arith)
  | inr other ↦ none z (contains_first z xs) other
]

-- numbers that ascend are all different
rising : (xs : List ℕ) → IsStrictlyIncreasing xs → (i j : ℕ) → i < j → j < length xs → get_or xs i 0 < get_or xs j 0
rising xs inc i zero l within = absurd (omega arith)
rising xs inc i (suc j) l within =
    let next : get_or xs j 0 < get_or xs (suc j) 0 = subst (λ (k : ℕ). get_or xs j 0 < get_or xs k 0) (let e : j + 1 ≡ suc j = omega arith in e) (inc j (omega arith)) in
    elim (cases_lt i j) [
      | inl less ↦ (let before = rising xs inc i j less (omega arith) in omega arith)
      | inr more ↦ (let e : i ≡ j = omega arith in subst (λ (k : ℕ). get_or xs k 0 < get_or xs (suc j) 0) (sym e) next)
    ]

numbers_apart : (set : NumberSet) → IsWithoutDoubles (numbers_of set)
numbers_apart set x i j p q =
    let xs = numbers_of set in
    let at_i : get_or xs i 0 ≡ x = get_or_from_slice_get xs i x 0 p in
    let at_j : get_or xs j 0 ≡ x = get_or_from_slice_get xs j x 0 q in
    let long_i = slice_get_within xs i x p in
    let long_j = slice_get_within xs j x q in
    elim (cases_lt i j) [
      | inl less ↦ absurd (let l = rising xs (ascending set) i j less long_j in omega arith)
      | inr more ↦ elim (cases_lt j i) [
        | inl less ↦ absurd (let l = rising xs (ascending set) j i less long_i in omega arith)
        | inr same ↦ omega arith
      ]
    ]

-- lists without doubles that share nothing are one without doubles
pub both_apart : {X : Type 0} (xs ys : List X) → IsWithoutDoubles xs → IsWithoutDoubles ys → ((x : X) → Contains xs x → Contains ys x → ⊥) → IsWithoutDoubles (xs ++ ys)
both_apart [] ys one other none x i j p q = other x i j p q
both_apart (z ∷ xs) ys one other none x zero zero p q = refl
both_apart (z ∷ xs) ys one other none x zero (suc j) p q = absurd (head_apart z xs ys one none (subst (λ (w : _). Contains (xs ++ ys) w) (sym (same_Some z x p)) (contains_at (xs ++ ys) j x q)))
both_apart (z ∷ xs) ys one other none x (suc i) zero p q = absurd (head_apart z xs ys one none (subst (λ (w : _). Contains (xs ++ ys) w) (sym (same_Some z x q)) (contains_at (xs ++ ys) i x p)))
both_apart (z ∷ xs) ys one other none x (suc i) (suc j) p q =
    ap suc (both_apart xs ys (λ w k l a b. let same = one w (suc k) (suc l) a b in omega arith) other (λ w here there. none w (contains_later z w xs here) there) x i j p q)

module _ {X : Type 0} (pair : ℕ → ℕ → X) where
  -- ---- which pairs

  later_pair : (first : ℕ) (row : SiteRow) (rows : List SiteRow) (x : X) → IsPairOf pair (suc first) rows x → IsPairOf pair first (row ∷ rows) x
  later_pair first row rows x h = record {
    place = suc h.place;
    site = h.site;
    is = h.is ∙ ap (λ (k : ℕ). pair k h.site) (let e : suc first + h.place ≡ first + suc h.place = omega arith in e);
    held = h.held;
  }

  pub pair_in : (first : ℕ) (rows : List SiteRow) (x : X) → Contains (listed_from pair first rows) x → IsPairOf pair first rows x
  unfolding listed_from
  pair_in first [] x there = absurd (contains_none x there)
  pair_in first (row ∷ rows) x there = elim (Contains-append_cases (map (pair first) (numbers_of row.held)) (listed_from pair (suc first) rows) x there) [
    | inl here ↦
        (let (site, has, e) = contained_in_map (pair first) (numbers_of row.held) x here in
        record { place = 0; site = site; is = sym e ∙ ap (λ (k : ℕ). pair k site) (let z : first ≡ first + 0 = omega arith in z); held = (number_listed row.held site).0 has })
    | inr rest ↦ later_pair first row rows x (pair_in (suc first) rows x rest)
  ]

  pub pair_there : (first : ℕ) (rows : List SiteRow) (place site : ℕ) → IsIn (held_at rows place) site → Contains (listed_from pair first rows) (pair (first + place) site)
  unfolding listed_from
  pair_there first [] place site is = absurd (none_in_empty site is)
  pair_there first (row ∷ rows) zero site is =
      Contains-append_left (map (pair first) (numbers_of row.held)) (listed_from pair (suc first) rows) (pair (first + 0) site)
      (subst (λ (k : ℕ). Contains (map (pair first) (numbers_of row.held)) (pair k site)) (let z : first ≡ first + 0 = omega arith in z)
      (contains_map (pair first) (numbers_of row.held) site ((number_listed row.held site).1 is)))
  pair_there first (row ∷ rows) (suc place) site is =
      Contains-append_right (map (pair first) (numbers_of row.held)) (listed_from pair (suc first) rows) (pair (first + suc place) site)
      (subst (λ (k : ℕ). Contains (listed_from pair (suc first) rows) (pair k site)) (let z : suc first + place ≡ first + suc place = omega arith in z)
      (pair_there (suc first) rows place site is))

  -- ---- how many

  pub pairs_listed : (first : ℕ) (rows : List SiteRow) → length (listed_from pair first rows) ≡ pairs_in rows
  unfolding listed_from
  pairs_listed first [] = refl
  pairs_listed first (row ∷ rows) =
      let rest = pairs_listed (suc first) rows in
      let front = length-map (numbers_of row.held) (pair first) in
      let all = length-append (map (pair first) (numbers_of row.held)) (listed_from pair (suc first) rows) in
      let sum = sum_by-cons held_count row rows in
      omega arith

  -- ---- none twice

  module _ (told : AreTold pair) where
    row_apart : (first : ℕ) (set : NumberSet) → IsWithoutDoubles (map (pair first) (numbers_of set))
    row_apart first set x i j p q =
        let (a, at_a, is_a) = map_at (pair first) (numbers_of set) i x p in
        let (b, at_b, is_b) = map_at (pair first) (numbers_of set) j x q in
        numbers_apart set a i j at_a (at_b ∙ ap Some (sym (told.sites first first a b (is_a ∙ sym is_b))))

    -- no pair of a row is one of those behind it
    parted : (first : ℕ) (row : SiteRow) (rows : List SiteRow) (x : X) → Contains (map (pair first) (numbers_of row.held)) x → Contains (listed_from pair (suc first) rows) x → ⊥
    parted first row rows x here there =
        let (site, has, e) = contained_in_map (pair first) (numbers_of row.held) x here in
        let h = pair_in (suc first) rows x there in
        let same = told.places first (suc first + h.place) site h.site (e ∙ h.is) in
        let past = h.place in
        omega arith

    pub pairs_apart : (first : ℕ) (rows : List SiteRow) → IsWithoutDoubles (listed_from pair first rows)
    unfolding listed_from
    pairs_apart first [] x i j p q = absurd (none-some x p)
    pairs_apart first (row ∷ rows) x i j p q =
        both_apart (map (pair first) (numbers_of row.held)) (listed_from pair (suc first) rows) (row_apart first row.held) (pairs_apart (suc first) rows) (parted first row rows) x i j p q
