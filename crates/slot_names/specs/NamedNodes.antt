-- This crate's own proofs alone rest on this module.
-- The nodes of a method, as they are entered one after another.
use Rattle.std.specs.Prelude.{◌≡◌, ◌⊎◌, ℕ, suc, ◌<◌, Bool, false, nat_eq, List, [], ◌∷◌, ◌++◌, length, Option, Some, None, slice_get, slice_set, Contains, if◌then◌else◌}
use Rattle.op_model.specs.declared.lowered.LoweredMethod.{LoweredMethod}
use Rattle.op_model.specs.declared.node.Node.{Node}
use Rattle.op_model.specs.declared.op.Move.{Move}
use Rattle.slot_names.specs.declared.arrivals.Arrival.{Arrival}
use Rattle.slot_names.specs.declared.arrivals.Arrival.TheVariants.{Nothing, OneNode, Several}
use Rattle.slot_names.specs.declared.entry.Entry.{Entry}
use Rattle.slot_names.specs.declared.entry.Root.{Root}
use Rattle.slot_names.specs.declared.entry.Root.TheVariants.{Beginning, Meeting}
use Rattle.slot_names.specs.declared.naming.Naming.{Naming}
use Rattle.slot_names.specs.declared.rows.Rows.{Rows}
use Rattle.slot_names.specs.Arriving.{LeadsTo}
use Rattle.slot_names.specs.Branches.{Extends}
use Rattle.slot_names.specs.Entries.{variable_at}
use Rattle.slot_names.specs.NodePlaces.{StandsAt}
use Rattle.slot_names.specs.OperationMoves.{moves_of}
use Rattle.slot_names.specs.Rows.{IsRow}
use Rattle.slot_names.specs.Variables.{IsVariable}

-- ---- which nodes come first

-- Where the slots of the node at a place and an offset have their variables from, if no other node tells it.
abbrev pub root_of : Arrival → (place offset : ℕ) → Option Root
root_of Nothing place offset = if nat_eq place 0 then Some Beginning else None
root_of (OneNode from) place offset = None
root_of Several place offset = Some (Meeting offset)

-- The node at a place alone leads there.
abbrev pub is_from : Arrival → ℕ → Bool
is_from Nothing from = false
is_from (OneNode earlier) from = nat_eq earlier from
is_from Several from = false

-- ---- entries

-- The node at the place is entered.
pub record IsEntered (entries : List (Option Entry)) (place : ℕ) : Type 0 where
  pub entry : Entry
  pub stands : slice_get entries place ≡ Some (Some entry)

-- How many nodes are entered.
abbrev pub entered_count : List (Option Entry) → ℕ
entered_count [] = 0
entered_count (None ∷ entries) = entered_count entries
entered_count (Some entry ∷ entries) = suc (entered_count entries)

-- The entry tells the variable of each slot at the node.
pub record Tells (l : LoweredMethod) (rows : Rows) (n : Node) (entry : Entry) : Type 0 where
  pub made : IsRow rows entry.row
  pub each : (slot : ℕ) → IsVariable l n slot (variable_at rows l.method entry slot)

-- Each entry tells the variables of its node, and the order has the places of the entered nodes, each once.
pub record IsNaming (l : LoweredMethod) (naming : Naming) : Type 0 where
  pub count : length naming.entries.items ≡ length l.nodes
  pub tells : (place : ℕ) (n : Node) (entry : Entry) → slice_get l.nodes place ≡ Some n → slice_get naming.entries.items place ≡ Some (Some entry)
      → Tells l naming.rows n entry
  pub listed : (place : ℕ) → IsEntered naming.entries.items place → Contains naming.order.items place
  pub entered : (k place : ℕ) → slice_get naming.order.items k ≡ Some place → IsEntered naming.entries.items place
  pub number : length naming.order.items ≡ entered_count naming.entries.items

-- ---- how they grow

-- The node was entered before, or it is entered now.
abbrev pub Enters : Naming → Naming → ℕ → Entry → Type 0
Enters old new place entry =
    (IsEntered old.entries.items place × (new ≡ old))
    ⊎ ((slice_get old.entries.items place ≡ Some None) × (new.entries.items ≡ slice_set old.entries.items place (Some entry))
    × (new.order.items ≡ old.order.items ++ place ∷ []) × (new.rows ≡ old.rows))

-- Each node that was entered still is, and each place of the order is the same.
pub record Grows (old new : Naming) : Type 0 where
  pub entered : (place : ℕ) → IsEntered old.entries.items place → IsEntered new.entries.items place
  pub order : Extends old.order.items new.order.items

-- ---- which nodes are entered

-- The node at the place, if no other node tells it.
pub record IsRootEntered (l : LoweredMethod) (arrivals : List Arrival) (entries : List (Option Entry)) (place : ℕ) : Type 0 where
  pub each : (n : Node) (arrival : Arrival) (root : Root) → slice_get l.nodes place ≡ Some n → slice_get arrivals place ≡ Some arrival
      → root_of arrival place n.offset ≡ Some root → IsEntered entries place

-- Each node before a place that no other node tells.
pub record HasRoots (l : LoweredMethod) (arrivals : List Arrival) (done : ℕ) (entries : List (Option Entry)) : Type 0 where
  pub each : (place : ℕ) → place < done → IsRootEntered l arrivals entries place

-- The node at the offset, if the one at a place alone leads there.
pub record IsFollowedAt (l : LoweredMethod) (arrivals : List Arrival) (entries : List (Option Entry)) (from offset : ℕ) : Type 0 where
  pub each : (place : ℕ) → StandsAt l offset place → slice_get arrivals place ≡ Some (OneNode from) → IsEntered entries place

-- Each node to which the one at a place alone leads.
pub record IsFollowed (l : LoweredMethod) (arrivals : List Arrival) (entries : List (Option Entry)) (from : ℕ) : Type 0 where
  pub each : (offset : ℕ) → LeadsTo l from offset → IsFollowedAt l arrivals entries from offset

-- Each node.
pub record AreAllEntered (l : LoweredMethod) (entries : List (Option Entry)) : Type 0 where
  pub each : (place : ℕ) → place < length l.nodes → IsEntered entries place

-- The node at the place goes on at the offset, and does these moves.
pub record GoesOn (l : LoweredMethod) (from offset : ℕ) (given : List Move) : Type 0 where
  pub node : Node
  pub stands : slice_get l.nodes from ≡ Some node
  pub goes : Contains node.successors offset
  pub does : given ≡ moves_of node.op
