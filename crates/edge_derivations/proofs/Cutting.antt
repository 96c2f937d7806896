-- Places that are cut out of a list of facts with reasons: the facts at them are a derivation.
use Rattle.std.proofs.Common.{◌≡◌, ◌⊎◌, inl, inr, ℕ, ◌<◌, ◌≤◌, List, get_or, take, Option, Some, sym, ap, ◌∙◌, arith}
use Rattle.std.specs.List.{All, Contains, slice_get}
use Rattle.std.proofs.lemmas.Bool.{cases_order}
use Rattle.std.proofs.lemmas.List.Elements.{recursion_from_All}
use Rattle.std.proofs.lemmas.Option.{same_Some, slice_get_within, slice_get-get_or}
use Rattle.list_laws.proofs.Members.{all_from_contains}
use Rattle.list_laws.proofs.Places.{at_map, contains_at, in_front, map_at, place_of, stands_below, to_front}
use Rattle.least_sets.specs.Rules.{Hold, IsDerivation}
use Rattle.edge_numbers.specs.Premises.{AreReasons, StandAt}
use Rattle.edge_derivations.specs.Derived.{IsAscending, IsCutFor, IsNeeded}
use Rattle.edge_derivations.specs.Derived.IsNeeded.{at_last, by_reason}

-- ---- places

-- no needed place is behind the last one
pub needed_within : (reasons : List (List ℕ)) (last place : ℕ) → IsNeeded reasons last place → place ≤ last
needed_within reasons last place at_last = omega arith
needed_within reasons last place (by_reason before reason named needed at there less) =
    let upto = needed_within reasons last before needed in
    omega (arith, upto, less)

pub cut_within : (reasons : List (List ℕ)) (last : ℕ) (places : List ℕ) → IsCutFor reasons last places → (n : ℕ) → last < n → All (λ (place : ℕ). place < n) places
cut_within reasons last places cut n within = all_from_contains (λ (place : ℕ). place < n) places (λ place there.
    let upto = needed_within reasons last place ((cut.those place).0 there) in
    omega (arith, upto, within))

-- of two places that stand in order, the smaller one stands first
stands_first : (places : List ℕ) → IsAscending places → (i j x y : ℕ) → slice_get places i ≡ Some x → slice_get places j ≡ Some y → x < y → i < j
stands_first places up i j x y at also less = by (cases_order i j)
  where
    by : (i ≡ j) ⊎ ((i < j) ⊎ (j < i)) → i < j
    by (inl same) =
        let is : x ≡ y = same_Some x y (sym at ∙ ap (slice_get places) same ∙ also) in
        absurd (omega (arith, is, less))
    by (inr (inl before)) = before
    by (inr (inr behind)) =
        let back = up.below j i y x behind also at in
        absurd (omega (arith, back, less))

-- ---- facts

module _ {F : Type 0} where
  -- each of these stands at its place
  stands_one : (facts : List F) (places : List ℕ) (these : List F) → StandAt facts places these
      → (k : ℕ) (fact : F) → slice_get these k ≡ Some fact → (p : ℕ) × (slice_get places k ≡ Some p) × (slice_get facts p ≡ Some fact)
  stands_one facts places these stand k fact at =
      map_at (slice_get facts) places k (Some fact) (ap (λ (os : List (Option F)). slice_get os k) stand ∙ at_map (λ (f : F). Some f) these k fact at)

  -- and at each place stands one of these
  place_has : (facts : List F) (places : List ℕ) (these : List F) → StandAt facts places these
      → (k p : ℕ) → slice_get places k ≡ Some p → (fact : F) × (slice_get these k ≡ Some fact) × (Some fact ≡ slice_get facts p)
  place_has facts places these stand k p at =
      map_at (λ (f : F). Some f) these k (slice_get facts p) (ap (λ (os : List (Option F)). slice_get os k) (sym stand) ∙ at_map (slice_get facts) places k p at)

  -- what each fact has at the places, all of these have
  all_stand : (S : F → Type 0) (facts : List F) (places : List ℕ) (these : List F) → StandAt facts places these
      → ((p : ℕ) (fact : F) → Contains places p → slice_get facts p ≡ Some fact → S fact) → Hold S these
  all_stand S facts places these stand each = recursion_from_All S these (λ k d lt.
      let fact = get_or these k d in
      let there = stands_one facts places these stand k fact (slice_get-get_or these k d lt) in
      each there.0 fact (contains_at places k there.0 there.1) there.2)

  -- the facts at the places of a cut are a derivation, by the rules of the reasons
  module _ (I : List F → F → Type 0) (facts : List F) (reasons : List (List ℕ)) (last : ℕ) (places : List ℕ) (these : List F)
      (cut : IsCutFor reasons last places) (are : AreReasons I facts reasons) (stand : StandAt facts places these) where
    -- what a reason names stands before
    stands_earlier : (k p q : ℕ) (reason : List ℕ) (premise : F) → slice_get places k ≡ Some p → slice_get reasons p ≡ Some reason → Contains reason q
        → slice_get (take p facts) q ≡ Some premise → Contains (take k these) premise
    stands_earlier k p q reason premise here given named stands =
        let front = in_front facts p q premise stands in
        let needed = (cut.those p).0 (contains_at places k p here) in
        let among = place_of places q ((cut.those q).1 (by_reason p reason q needed given named front.0)) in
        let found = place_has facts places these stand among.0 q among.1 in
        let same : found.0 ≡ premise = same_Some found.0 premise (found.2 ∙ front.1) in
        let first = stands_first places cut.ascending among.0 k q p among.1 here front.0 in
        contains_at (take k these) among.0 premise (to_front these k among.0 premise first (found.1 ∙ ap (λ (f : F). Some f) same))

    pub cut_derives : IsDerivation I these
    cut_derives k fact at =
        let (p, here, stands) = stands_one facts places these stand k fact at in
        let (reason, given) = stands_below reasons p (let count = are.count in let within = slice_get_within facts p fact stands in omega (arith, count, within)) in
        let is = are.each p fact reason stands given in
        record {
          premises = is.premises;
          instance = is.instance;
          hold = all_stand (Contains (take k these)) (take p facts) reason is.premises is.stand (λ q premise named there. stands_earlier k p q reason premise here given named there);
        }
