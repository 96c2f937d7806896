-- The number of a place that is looked up, and how many things are numbered.
use Rattle.std.proofs.Common.{◌≡◌, ◌≤◌, ◌<◌, ◌+◌, ℕ, zero, suc, true, false, Bool, cond, not, List, [], ◌∷◌, map, Some, None, length, get_or, refl, sym, ap, ◌∙◌, subst, arith}
use Rattle.std.specs.List.{slice_get, Contains, position, position_or_len}
use Rattle.std.proofs.lemmas.Bool.{ltb-false}
use Rattle.std.proofs.lemmas.List.{length-map}
use Rattle.std.proofs.lemmas.List.Quantifiers.{position-Some}
use Rattle.std.proofs.lemmas.Option.{slice_get-get_or, slice_get_within, none-some, same_Some}
use Rattle.list_laws.proofs.Places.{place_of}
use Rattle.points_to_rules.specs.Facts.{Holder}
use Rattle.points_to_rules.specs.declared.place.Place.{Place}
use Rattle.points_to_numbers.specs.Numbered.{Numbered, IsHolderAt, AreApart}
use Rattle.points_to_numbers.specs.Kept.{Kept, IsSound, numbered, site_from, sites_of}
use Rattle.points_to_rules.specs.Places.{holder_from}
use Rattle.points_to_numbers.proofs.Apart.{one_place}
use Rattle.points_to_rules.proofs.ExactPlaces.{same_places, exact_places, place_itself}
use Rattle.points_to_numbers.proofs.KeptKeys.{at_number, key_at}
use Rattle.points_to_numbers.proofs.Standing.{holder_stands}

module _ (k : Kept) (n : Numbered) (is : numbered k ≡ n) (sound : IsSound k) where
  holder_kept : (number : ℕ) (place : Place) (h : Holder) → slice_get k.places number ≡ Some place → IsHolderAt (numbered k) place h → slice_get (numbered k).holders number ≡ Some h
  unfolding numbered
  holder_kept = at_number (IsHolderAt (numbered k)) (holder_from (sites_of k)) (holder_stands (numbered k)) k.places

  place_kept : (number : ℕ) (h : Holder) → slice_get (numbered k).holders number ≡ Some h → (place : Place) × (slice_get k.places number ≡ Some place) × IsHolderAt (numbered k) place h
  unfolding numbered
  place_kept = key_at (IsHolderAt (numbered k)) (holder_from (sites_of k)) (holder_stands (numbered k)) k.places sound.places

  holder_there : (number : ℕ) (place : Place) (h : Holder) → slice_get k.places number ≡ Some place → IsHolderAt n place h → slice_get n.holders number ≡ Some h
  holder_there number place h at = subst (λ (o : Numbered). IsHolderAt o place h → slice_get o.holders number ≡ Some h) is (holder_kept number place h at)

  place_there : (number : ℕ) (h : Holder) → slice_get n.holders number ≡ Some h → (place : Place) × (slice_get k.places number ≡ Some place) × IsHolderAt n place h
  place_there number h = subst (λ (o : Numbered). slice_get o.holders number ≡ Some h → (place : Place) × (slice_get k.places number ≡ Some place) × IsHolderAt o place h) is (place_kept number h)

  -- the number at which the place is found
  pub known_at : (place : Place) (number : ℕ) → position (same_places place) k.places ≡ Some number → (h : Holder) → IsHolderAt n place h → slice_get n.holders number ≡ Some h
  known_at place number found h at =
      let (within, same, before) = position-Some (same_places place) k.places number place found in
      let there = slice_get-get_or k.places number place within ∙ ap Some (sym (exact_places place (get_or k.places number place) same)) in
      holder_there number place h there at

  -- a place that is not found stands for no holder that is numbered
  first_at_most : (test : Place → Bool) (places : List Place) (number : ℕ) (place : Place) → slice_get places number ≡ Some place → test place ≡ true → position_or_len test places ≤ number
  first_at_most test [] number place at pass = absurd (none-some place at)
  first_at_most test (p ∷ ps) zero place at pass =
      let first : test p ≡ true = ap test (same_Some p place at) ∙ pass in
      let stops : position_or_len test (p ∷ ps) ≡ 0 = ap (λ (b : Bool). cond (not b) (1 + position_or_len test ps) 0) first in
      omega (arith, stops)
  first_at_most test (p ∷ ps) (suc number) place at pass = by (test p) refl (first_at_most test ps number place at pass)
    where
      by : (b : Bool) → test p ≡ b → position_or_len test ps ≤ number → position_or_len test (p ∷ ps) ≤ suc number
      by true h le = let stops : position_or_len test (p ∷ ps) ≡ 0 = ap (λ (b : Bool). cond (not b) (1 + position_or_len test ps) 0) h in omega (arith, stops)
      by false h le = let goes : position_or_len test (p ∷ ps) ≡ 1 + position_or_len test ps = ap (λ (b : Bool). cond (not b) (1 + position_or_len test ps) 0) h in omega (arith, goes, le)

  some_is : (b : Bool) (i : ℕ) → cond b (Some i) None ≡ None → b ≡ false
  some_is true i e = absurd cc
  some_is false i e = refl

  passes : (test : Place → Bool) (places : List Place) (number : ℕ) (place : Place) → slice_get places number ≡ Some place → test place ≡ true → position test places ≡ None → ⊥
  passes test places number place at pass none =
      let past : length places ≤ position_or_len test places = ltb-false _ _ (some_is _ _ none) in
      let within : number < length places = slice_get_within places number place at in
      absurd (omega (arith, first_at_most test places number place at pass))

  pub unknown : AreApart n → (place : Place) → position (same_places place) k.places ≡ None → (h : Holder) → IsHolderAt n place h → Contains n.holders h → ⊥
  unknown apart place none h at there =
      let (number, stands) = place_of n.holders h there in
      let (other, kept, is_other) = place_there number h stands in
      let same : other ≡ place = one_place n apart.sites other place h is_other at in
      passes (same_places place) k.places number place (kept ∙ ap Some same) (place_itself place) none

  -- ---- how many there are

  pub sites_are : length k.sites ≡ length n.sites
  unfolding numbered
  sites_are = sym (length-map k.sites (site_from k.classes)) ∙ ap (λ (o : Numbered). length o.sites) is

  pub holders_are : length k.places ≡ length n.holders
  unfolding numbered
  holders_are = sym (length-map k.places (holder_from (sites_of k))) ∙ ap (λ (o : Numbered). length o.holders) is

-- ---- the places themselves

pub holders_kept : (k : Kept) (n : Numbered) → numbered k ≡ n → map (holder_from n.sites) k.places ≡ n.holders
unfolding numbered
holders_kept k n is = subst (λ (o : Numbered). map (holder_from o.sites) k.places ≡ o.holders) is refl

pub places_stand : (k : Kept) (n : Numbered) → numbered k ≡ n → IsSound k → (number : ℕ) (place : Place) → slice_get k.places number ≡ Some place
    → (h : Holder) × IsHolderAt n place h
places_stand k n is sound number place at =
    let (h, stands) = sound.places number place at in
    (h, subst (λ (o : Numbered). IsHolderAt o place h) is stands)
