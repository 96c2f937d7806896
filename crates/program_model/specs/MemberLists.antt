-- Public contracts rest on this module.
-- The members of all classes by number, class by class: their keys, and the places at which they stand.
use Rattle.std.specs.Prelude.{◌≡◌, ◌⊎◌, ℕ, List, map, length, Contains, Some, slice_get}
use Rattle.std.specs.List.{flat_map, range_with_len}
use Rattle.jvm_model.specs.declared.program.Origin.{Origin}
use Rattle.program_index.specs.Limits.{AreTooMany}
use Rattle.program_index.specs.MemberKeys.{Key, key_texts, signature_texts}
use Rattle.program_index.specs.TextNumbers.{different}
use Rattle.program_model.specs.Declarations.{Declaration}
use Rattle.program_model.specs.declared.member_table.MemberPlace.{MemberPlace}
use Rattle.program_model.specs.declared.member_table.MemberTable.{MemberTable}

-- ---- the members of one class

-- The key of a member of the class of a number; and the places of so many members of that class.
abbrev pub key_in : ℕ → Declaration → Key
key_in class d = record { class = class; signature = d.signature }

abbrev pub places_in : ℕ → ℕ → List MemberPlace
places_in class count = map (λ (n : ℕ). record { class = record { 0 = class }; place = n }) (range_with_len 0 count)

-- ---- the members of all classes

-- The member stands at this place of this class.
pub record IsPlaceOf (members : Origin → List Declaration) (order : List Origin) (d : Declaration) (place : MemberPlace) : Type 0 where
  pub origin : Origin
  pub class : slice_get order place.class.0 ≡ Some origin
  pub stands : slice_get (members origin) place.place ≡ Some d

-- The member is one of the class of this number.
pub record IsOfClass (members : Origin → List Declaration) (order : List Origin) (d : Declaration) (class : ℕ) : Type 0 where
  pub origin : Origin
  pub stands : slice_get order class ≡ Some origin
  pub among : Contains (members origin) d

-- This is the key of the member.
pub record IsKeyOf (members : Origin → List Declaration) (order : List Origin) (d : Declaration) (key : Key) : Type 0 where
  pub of_class : IsOfClass members order d key.class
  pub is : key ≡ key_in key.class d

-- The items tell of the members one by one, in their order.
pub record TellEach {M X : Type 0} (Tells : M → X → Type 0) (members : List M) (items : List X) : Type 0 where
  pub as_many : length items ≡ length members
  pub each : (n : ℕ) (m : M) (x : X) → slice_get members n ≡ Some m → slice_get items n ≡ Some x → Tells m x

-- The table has the keys, and the places, of the members of all classes, by number.
pub record IsTable (members : Origin → List Declaration) (order : List Origin) (table : MemberTable) : Type 0 where
  pub told_by_keys : TellEach (IsKeyOf members order) (flat_map members order) table.index
  pub told_by_places : TellEach (IsPlaceOf members order) (flat_map members order) table.places.items

-- ---- more than have numbers

-- There are too many keys, or too many different texts in them; and so of members.
abbrev pub AreTooManyKeys : List Key → Type 0
AreTooManyKeys keys = AreTooMany keys ⊎ AreTooMany (different (key_texts keys))

abbrev pub AreTooManyMembers : List Declaration → Type 0
AreTooManyMembers ds = AreTooMany ds ⊎ AreTooMany (different (signature_texts (map (λ (d : Declaration). d.signature) ds)))
