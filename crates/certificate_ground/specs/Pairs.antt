-- This crate's own proofs alone rest on this module.
-- Pairs of a key and a value: the keys have numbers, and the values of each stand at its number.
use Rattle.std.specs.Prelude.{◌≡◌, ◌⊎◌, ◌↔◌, ℕ, List, Some, slice_get, Contains}
use Rattle.std.specs.declared.alloc.Global.{Global}
use Rattle.std.specs.declared.vec.Vec.{Vec}
use Rattle.grouped_lists.specs.Groups.{values_at}

-- The value stands at the number of the key.
abbrev pub IsPair : {K V : Type 0} → List K → List (Vec V Global) → K → V → Type 0
IsPair keys groups key value = (number : ℕ) × (slice_get keys number ≡ Some key) × Contains (values_at groups number) value

-- Values stand at the numbers of keys alone.
abbrev pub AreKeyed : {K V : Type 0} → List K → List (Vec V Global) → Type 0
AreKeyed {K} {V} keys groups = (number : ℕ) (value : V) → Contains (values_at groups number) value → (key : K) × (slice_get keys number ≡ Some key)

-- Each key has a value.
abbrev pub HaveValues : {K V : Type 0} → List K → List (Vec V Global) → Type 0
HaveValues {K} {V} keys groups = (number : ℕ) (key : K) → slice_get keys number ≡ Some key → (value : V) × Contains (values_at groups number) value

-- The pairs are those that have the relation.
pub record ArePairs {K V : Type 0} (P : K → V → Type 0) (keys : List K) (groups : List (Vec V Global)) : Type 0 where
  pub each : (key : K) (value : V) → IsPair keys groups key value ↔ P key value
  pub keyed : AreKeyed keys groups
  pub valued : HaveValues keys groups

-- The new pairs are the old ones, and those that have the relation.
pub record AddsPairs {K V : Type 0} (P : K → V → Type 0) (old_keys : List K) (old_groups : List (Vec V Global)) (keys : List K) (groups : List (Vec V Global)) : Type 0 where
  pub each : AreKeyed old_keys old_groups → (key : K) (value : V) → IsPair keys groups key value ↔ (IsPair old_keys old_groups key value ⊎ P key value)
  pub keyed : AreKeyed old_keys old_groups → AreKeyed keys groups
  pub valued : HaveValues old_keys old_groups → HaveValues keys groups

-- It is this key with this value.
abbrev pub IsJust : {K V : Type 0} → K → V → K → V → Type 0
IsJust key value k v = (k ≡ key) × (v ≡ value)

-- Something in the list has the relation to the key and the value.
abbrev pub OfSome : {X K V : Type 0} → (X → K → V → Type 0) → List X → K → V → Type 0
OfSome {X} R xs k v = (x : X) × Contains xs x × R x k v
