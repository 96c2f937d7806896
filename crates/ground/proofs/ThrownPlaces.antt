-- The number of the place of what a method throws.
use Rattle.std.proofs.Common.{◌≡◌, ℕ, Some, refl, sym, ◌∙◌, ap, subst}
use Rattle.std.specs.List.{slice_get, Contains}
use Rattle.list_laws.proofs.Places.{at_map, map_at, place_of}
use Rattle.jvm_model.specs.declared.number.MethodNo.{MethodNo}
use Rattle.jvm_model.specs.Programs.{Program}
use Rattle.points_to_rules.specs.declared.place.Place.TheVariants as places
use Rattle.points_to_rules.specs.Facts.{Holder, thrown_by}
use Rattle.points_to_rules.specs.Places.{IsHolderIn, holder_from}
use Rattle.points_to_rules.proofs.PlaceHolders.{place_stands, places_differ}
use Rattle.ground.specs.declared.lists.Lists.{Lists}
use Rattle.ground.specs.Findings.{Findings}
use Rattle.ground.specs.Sound.{AreSound}
use Rattle.ground.specs.Told.{findings_of}
use Rattle.ground.proofs.Views.{holder_at, holder_in}

module _ (p : Program) (l : Lists) (g : Findings) (is : findings_of p l ≡ g) (sound : AreSound p l) where
  pub thrown_at : (number : ℕ) (m : MethodNo) → slice_get l.places.keys number ≡ Some (places.Thrown m) → slice_get g.holders number ≡ Some (thrown_by m)
  thrown_at number m there = holder_at p l g is number (thrown_by m) (at_map (holder_from l.sites.items) l.places.keys number (places.Thrown m) there)

  pub thrown_there : (m : MethodNo) → Contains g.holders (thrown_by m) → (number : ℕ) × (slice_get l.places.keys number ≡ Some (places.Thrown m))
  thrown_there m there =
      let (number, stands) = place_of g.holders (thrown_by m) there in
      let (place, at, same) = map_at (holder_from l.sites.items) l.places.keys number (thrown_by m) (holder_in p l g is number (thrown_by m) stands) in
      let (h, holds) = sound.places number place at in
      let holder : h ≡ thrown_by m = sym (place_stands l.sites.items place h holds) ∙ same in
      let is_place = places_differ l.sites.items sound.apart place (places.Thrown m) (thrown_by m) (subst (λ (x : Holder). IsHolderIn l.sites.items place x) holder holds) refl in
      (number, at ∙ ap Some is_place)
