-- Where methods and fields stand: the place that is listed for a number is that of the member of this number.
use Rattle.std.proofs.Common.{◌≡◌, ℕ, ◌+◌, ◌<◌, List, length, map, take, get_or, Some, sym, ap, ◌∙◌, arith}
use Rattle.std.specs.List.{flat_map, slice_get}
use Rattle.std.proofs.lemmas.List.{length-map}
use Rattle.std.proofs.lemmas.Option.{same_Some, slice_get_within}
use Rattle.jvm_model.specs.declared.program.Origin.{Origin}
use Rattle.program_index.proofs.ListPlaces.{at_map, map_at}
use Rattle.program_index.proofs.OrderPlaces.{stands_below}
use Rattle.program_model.specs.Declarations.{Declaration}
use Rattle.program_model.specs.MemberLists.{IsPlaceOf, TellEach}
use Rattle.program_model.specs.declared.member_table.MemberPlace.{MemberPlace}
use Rattle.program_model.proofs.DeclaredMembers.{map_pieces}
use Rattle.program_model.proofs.MembersTold.{place_read}
use Rattle.program_model.proofs.Pieces.{from_piece}

-- the member of the number, among all that the classes have, stands at the place
pub record HasMemberAt {M : Type 0} (from : Origin → List M) (order : List Origin) (all : List M) (n : ℕ) (place : MemberPlace) : Type 0 where
  pub origin : Origin
  pub class : slice_get order place.class.0 ≡ Some origin
  pub within : place.place < length (from origin)
  pub stands : (m : M) → slice_get all n ≡ Some m → slice_get (from origin) place.place ≡ Some m

-- one kind of members of all classes, no two of which are alike, and their places
module _ {M : Type 0} (declaration : M → Declaration) (from : Origin → List M) (order : List Origin) (all : List M) (are : flat_map from order ≡ all)
    (differ : (i j : ℕ) (m n : M) → slice_get all i ≡ Some m → slice_get all j ≡ Some n → (declaration m).class ≡ (declaration n).class → (declaration m).signature ≡ (declaration n).signature → i ≡ j)
    (places : List MemberPlace) (told : TellEach (IsPlaceOf (λ o. map declaration (from o)) order) (flat_map (λ o. map declaration (from o)) order) places) where
  declared : flat_map (λ o. map declaration (from o)) order ≡ map declaration all
  declared = map_pieces declaration from order ∙ ap (map declaration) are

  pub below_places : (n : ℕ) → n < length all → n < length places
  below_places n lt = omega (arith, lt, ap (length {A = Declaration}) declared, length-map all declaration, told.as_many)

  at_place : (n : ℕ) (m : M) (place : MemberPlace) → slice_get all n ≡ Some m → (at : IsPlaceOf (λ o. map declaration (from o)) order (declaration m) place)
      → slice_get (from at.origin) place.place ≡ Some m
  at_place n m place e at =
      let found = map_at declaration (from at.origin) place.place (declaration m) at.stands in
      let number = length (flat_map from (take place.class.0 order)) + place.place in
      let stands = ap (λ (ms : List M). slice_get ms number) (sym are) ∙ from_piece from order place.class.0 place.place at.origin found.0 at.class found.1 in
      let same = differ number n found.0 m stands e (ap (λ (d : Declaration). d.class) found.2) (ap (λ (d : Declaration). d.signature) found.2) in
      let is = same_Some found.0 m (sym stands ∙ ap (slice_get all) same ∙ e) in
      found.1 ∙ ap (λ (x : M). Some x) is

  -- the place that is listed for a member is its place
  pub member_at : (n : ℕ) (place : MemberPlace) → n < length all → place ≡ get_or places n place → HasMemberAt from order all n place
  member_at n place below is =
      let first = stands_below all n below in
      let there = ap (λ (ds : List Declaration). slice_get ds n) declared ∙ at_map declaration all n first.0 first.1 in
      let at = place_read (λ o. map declaration (from o)) order places told n (declaration first.0) place there is in
      let stands = at_place n first.0 place first.1 at in
      record {
        origin = at.origin;
        class = at.class;
        within = slice_get_within (from at.origin) place.place first.0 stands;
        stands = λ m e. stands ∙ sym first.1 ∙ e;
      }
