-- Texts that ascend.
use Rattle.std.proofs.Common.{◌≡◌, ℕ, zero, suc, ◌<◌, ◌+◌, ◌-◌, List, [], length, get_or, Some, Ordering, sym, ◌∙◌, ap, arith, inl, inr}
use Rattle.std.specs.List.{slice_get, AllAdjacentBelow}
use Rattle.std.specs.List.Sorted.{IsSorted, IsNonDecreasingBy, IsPartitionPoint}
use Rattle.std.specs.Cmp.Lexicographic.{slice_cmp}
use Rattle.std.specs.Ordering.{nat_cmp, ordering_reverse, ordering_index, is_lt}
use Rattle.std.specs.declared.cmp.Ordering.TheVariants.{Less, Equal, Greater}
use Rattle.std.proofs.lemmas.Bool.{cases_lt}
use Rattle.std.proofs.lemmas.Cmp.{nat_list_cmp_total, tied_itself}
use Rattle.std.proofs.lemmas.List.Sorted.{searchable_from_sorted}
use Rattle.std.proofs.lemmas.Map.Lookups.{exact_bytes}
use Rattle.std.proofs.lemmas.Option.{slice_get_within, slice_get-get_or, get_or_from_slice_get}
use Rattle.program_model.specs.ByteOrder.{IsAscending}
use Rattle.program_index.specs.FirstPlaces.{StandsNowhere}
use Rattle.program_index.specs.TextNumbers.{AreDistinct}

abbrev cmp : List ℕ → List ℕ → Ordering
cmp = slice_cmp nat_cmp

-- ---- a text among texts that ascend

not_below_itself : (text : List ℕ) → cmp text text ≡ Less → ⊥
not_below_itself text e = let itself : cmp text text ≡ Equal = tied_itself nat_list_cmp_total text in cc

pub distinct_ascending : (texts : List (List ℕ)) → IsAscending texts → AreDistinct texts
distinct_ascending texts up = record {
  one_place = λ i j text at_i at_j. elim (cases_lt i j) [
    | inl lt ↦ absurd (not_below_itself text (up.below i j text text lt at_i at_j))
    | inr le ↦ elim (cases_lt j i) [
      | inl lt ↦ absurd (not_below_itself text (up.below j i text text lt at_j at_i))
      | inr ge ↦ omega arith
    ]
  ];
}

pub found_ascending : (texts : List (List ℕ)) (text : List ℕ) (place : ℕ) → place < length texts → cmp (get_or texts place text) text ≡ Equal → slice_get texts place ≡ Some text
found_ascending texts text place within equal = slice_get-get_or texts place text within ∙ ap Some (exact_bytes (get_or texts place text) text equal)

sorted_ascending : (texts : List (List ℕ)) → IsAscending texts → IsSorted cmp texts
sorted_ascending texts up = λ k d low within.
    let first : k < length texts = omega arith in
    let step : k < k + 1 = omega arith in
    let less = up.below k (k + 1) _ _ step (slice_get-get_or texts k d first) (slice_get-get_or texts (k + 1) d within) in
    ap is_lt (nat_list_cmp_total.antisymm (get_or texts (k + 1) d) (get_or texts k d) ∙ ap ordering_reverse less)

pub nowhere_ascending : (texts : List (List ℕ)) (text : List ℕ) (i : ℕ) → IsAscending texts
    → (IsNonDecreasingBy (λ y. ordering_index (cmp y text)) texts → IsPartitionPoint (λ y. cmp y text ≡ Less) (λ y. cmp y text ≡ Greater) texts i) → StandsNowhere texts text
nowhere_ascending texts text i up answers =
    let parts = answers (searchable_from_sorted nat_list_cmp_total (λ (y : List ℕ). y) texts text (sorted_ascending texts up)) in
    record {
      nowhere = λ k at_k.
          let within = slice_get_within texts k text at_k in
          let is = get_or_from_slice_get texts k text text at_k in
          let itself : cmp text text ≡ Equal = tied_itself nat_list_cmp_total text in
          elim (cases_lt k i) [
            | inl lt ↦ let less : cmp text text ≡ Less = rw is at (parts.0 k text (omega arith) lt) in absurd cc
            | inr le ↦ let greater : cmp text text ≡ Greater = rw is at (parts.1 k text le within) in absurd cc
          ];
    }

-- ---- neighbours

module _ (texts : List (List ℕ)) (near : AllAdjacentBelow (λ (x y : List ℕ). cmp x y ≡ Less) texts (length texts)) where
  far : (i n : ℕ) (d : List ℕ) → i + suc n < length texts → cmp (get_or texts i d) (get_or texts (i + suc n) d) ≡ Less
  far i zero d within = near i d within
  far i (suc n) d within =
      let before : i + suc n < length texts = omega arith in
      let next : i + suc n + 1 ≡ i + suc (suc n) = omega arith in
      let step = near (i + suc n) d (omega arith) in
      nat_list_cmp_total.trans (get_or texts i d) (get_or texts (i + suc n) d) (get_or texts (i + suc (suc n)) d) (far i n d before) (ap (λ (k : ℕ). cmp (get_or texts (i + suc n) d) (get_or texts k d)) (sym next) ∙ step)

  pub ascending_by_neighbours : IsAscending texts
  ascending_by_neighbours = record {
    below = λ i j x y lt at_x at_y.
        let n = j - i - 1 in
        let sum : i + suc n ≡ j = omega arith in
        let within : i + suc n < length texts = omega (arith, slice_get_within texts j y at_y) in
        let is_x = get_or_from_slice_get texts i x [] at_x in
        let is_y = get_or_from_slice_get texts j y [] at_y in
        (λ k. cmp (sym is_x k) (sym is_y k)) ∙ ap (λ (m : ℕ). cmp (get_or texts i []) (get_or texts m [])) (sym sum) ∙ far i n [] within;
  }
