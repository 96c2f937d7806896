-- Proofs of this crate alone rest on this module.
-- Keys of ends as rows of a pool.
use Rattle.std.specs.Prelude.{◌≡◌, ℕ, List, [], ◌∷◌, Option, None, Some, get_or, map, nat_eq, nat_lt, slice_get, if◌then◌else◌}
use Rattle.jvm_model.specs.declared.number.MethodNo.{MethodNo}
use Rattle.op_model.specs.declared.node.Spot.{Spot}
use Rattle.op_model.specs.declared.node.Spot.TheVariants.{Node, Returned, Thrown}
use Rattle.end_numbers.specs.declared.key.EndKey.{EndKey}

-- Whether a place is one of a method or of the start of the program, and which spot it is.
abbrev pub kind_of : Option MethodNo → Spot → ℕ
kind_of None (Node offset) = 0
kind_of None Returned = 1
kind_of None Thrown = 2
kind_of (Some m) (Node offset) = 3
kind_of (Some m) Returned = 4
kind_of (Some m) Thrown = 5

-- The number of the method, if there is one.
abbrev pub method_number : Option MethodNo → ℕ
method_number None = 0
method_number (Some m) = m.0

-- The offset of the node, if the spot is one.
abbrev pub spot_offset : Spot → ℕ
spot_offset (Node offset) = offset
spot_offset Returned = 0
spot_offset Thrown = 0

-- The words of a key: its kind of place, its method, its offset, and the row of its fact.
abbrev pub key_words : EndKey → List ℕ
key_words key = kind_of key.method key.spot ∷ method_number key.method ∷ spot_offset key.spot ∷ key.fact ∷ []

-- The method of a place of a kind, with this number.
abbrev pub method_from : (kind number : ℕ) → Option MethodNo
method_from kind number = if nat_lt kind 3 then None else Some (record { 0 = number })

-- The spot of a place of a kind, with this offset.
abbrev pub spot_from : (kind offset : ℕ) → Spot
spot_from kind offset =
    if nat_eq kind 0 then Node offset
    else (if nat_eq kind 1 then Returned
    else (if nat_eq kind 2 then Thrown
    else (if nat_eq kind 3 then Node offset
    else (if nat_eq kind 4 then Returned else Thrown))))

-- The key of a row.
abbrev pub row_key : List ℕ → EndKey
row_key row = record {
  method = method_from (get_or row 0 0) (get_or row 1 0);
  spot = spot_from (get_or row 0 0) (get_or row 2 0);
  fact = get_or row 3 0;
}

-- The keys of rows, in their order.
unfoldable pub keys_from : List (List ℕ) → List EndKey
keys_from rows = map row_key rows

-- Each row has the words of a key.
pub record AreKeyRows (rows : List (List ℕ)) : Type 0 where
  pub each : (k : ℕ) (row : List ℕ) → slice_get rows k ≡ Some row → row ≡ key_words (row_key row)
