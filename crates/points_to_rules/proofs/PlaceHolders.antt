-- A place stands for one holder, and where no site has two numbers, different places stand for different holders.
use Rattle.std.proofs.Common.{◌≡◌, ℕ, List, Some, refl, sym, ◌∙◌, ap}
use Rattle.std.specs.List.{slice_get, slice_index_or}
use Rattle.std.proofs.lemmas.Option.{get_or_from_slice_get}
use Rattle.jvm_model.specs.declared.site.Site.{Site}
use Rattle.least_sets.specs.Rules.{IsWithoutDoubles}
use Rattle.points_to_rules.specs.declared.place.Place.{Place}
use Rattle.points_to_rules.specs.declared.place.Place.TheVariants as places
use Rattle.points_to_rules.specs.Facts.{Holder, field_of, elements_of}
use Rattle.points_to_rules.specs.Places.{IsHolderIn, any_site, holder_from}

module _ (sites : List Site) where
  site_at : (number : ℕ) (s : Site) → slice_get sites number ≡ Some s → slice_index_or sites number any_site ≡ s
  site_at number s e = get_or_from_slice_get sites number s any_site e

  pub place_stands : (place : Place) (h : Holder) → IsHolderIn sites place h → holder_from sites place ≡ h
  place_stands (places.Variable v) h is = sym is
  place_stands (places.Field site field) h (s, at, is) = ap (λ (t : Site). field_of t field) (site_at site.0 s at) ∙ sym is
  place_stands (places.Elements site) h (s, at, is) = ap elements_of (site_at site.0 s at) ∙ sym is
  place_stands (places.Static field) h is = sym is
  place_stands places.Kept h is = sym is
  place_stands (places.Returned method) h is = sym is
  place_stands (places.Thrown method) h is = sym is

-- places of different kinds stand for holders of different kinds
one_by_kind : (sites : List Site) → IsWithoutDoubles sites → (p q : Place) (h : Holder) → holder_from sites p ≡ holder_from sites q → IsHolderIn sites p h → IsHolderIn sites q h → p ≡ q
one_by_kind sites apart (places.Variable v) (places.Variable w) h e first second = cc
one_by_kind sites apart (places.Field a f) (places.Field b g) h e (s, at, first) (t, there, second) =
    let same : s ≡ t = cc (first, second) in
    let fields : f ≡ g = cc (first, second) in
    let numbers = apart s a.0 b.0 at (there ∙ ap Some (sym same)) in
    (λ i. places.Field (record { 0 = numbers i }) (fields i))
one_by_kind sites apart (places.Elements a) (places.Elements b) h e (s, at, first) (t, there, second) =
    let same : s ≡ t = cc (first, second) in
    let numbers = apart s a.0 b.0 at (there ∙ ap Some (sym same)) in
    (λ i. places.Elements (record { 0 = numbers i }))
one_by_kind sites apart (places.Static f) (places.Static g) h e first second = cc
one_by_kind sites apart places.Kept places.Kept h e first second = refl
one_by_kind sites apart (places.Returned m) (places.Returned o) h e first second = cc
one_by_kind sites apart (places.Thrown m) (places.Thrown o) h e first second = cc
one_by_kind _ _ _ _ _ e _ _ = absurd (cc e)

pub places_differ : (sites : List Site) → IsWithoutDoubles sites → (p q : Place) (h : Holder) → IsHolderIn sites p h → IsHolderIn sites q h → p ≡ q
places_differ sites apart p q h first second = one_by_kind sites apart p q h (place_stands sites p h first ∙ sym (place_stands sites q h second)) first second
