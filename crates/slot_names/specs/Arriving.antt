-- This crate's own proofs alone rest on this module.
-- How the nodes of a method are reached, as it is noted edge by edge.
use Rattle.std.specs.Prelude.{◌≡◌, ℕ, ◌<◌, List, length, Some, slice_get, Contains, nat_eq, if◌then◌else◌}
use Rattle.op_model.specs.declared.lowered.LoweredMethod.{LoweredMethod}
use Rattle.op_model.specs.declared.node.Node.{Node}
use Rattle.op_model.specs.declared.node.NodeHandler.{NodeHandler}
use Rattle.slot_names.specs.declared.arrivals.Arrival.{Arrival}
use Rattle.slot_names.specs.declared.arrivals.Arrival.TheVariants.{Nothing, OneNode, Several}
use Rattle.slot_names.specs.NodePlaces.{StandsAt}
use Rattle.slot_names.specs.Variables.{IsMerge}

-- The node at a place goes on at the offset.
pub record LeadsTo (l : LoweredMethod) (from offset : ℕ) : Type 0 where
  pub node : Node
  pub stands : slice_get l.nodes from ≡ Some node
  pub goes : Contains node.successors offset

-- A handler that covers the node at a place begins at the offset.
pub record HandsTo (l : LoweredMethod) (from offset : ℕ) : Type 0 where
  pub node : Node
  pub stands : slice_get l.nodes from ≡ Some node
  pub handler : NodeHandler
  pub covers : Contains node.handlers handler
  pub begins : handler.target ≡ offset

-- What is noted with one more node that leads to the one at a place.
abbrev pub joined : Arrival → (from place : ℕ) → Arrival
joined Nothing from place = if nat_eq place 0 then Several else OneNode from
joined (OneNode earlier) from place = if nat_eq earlier from then OneNode earlier else Several
joined Several from place = Several

-- What is noted of the node at a place is so.
abbrev pub IsSoundAt : LoweredMethod → (place : ℕ) → Node → Arrival → Type 0
IsSoundAt l place n Nothing = Unit {0}
IsSoundAt l place n (OneNode from) = LeadsTo l from n.offset × (0 < place)
IsSoundAt l place n Several = IsMerge l n

-- What is noted of each node is so.
pub record AreSound (l : LoweredMethod) (arrivals : List Arrival) : Type 0 where
  pub count : length arrivals ≡ length l.nodes
  pub each : (place : ℕ) (n : Node) (a : Arrival) → slice_get l.nodes place ≡ Some n → slice_get arrivals place ≡ Some a → IsSoundAt l place n a

-- It is noted that the node at a place leads here.
abbrev pub Notes : ℕ → Arrival → Type 0
Notes from Nothing = ⊥
Notes from (OneNode earlier) = earlier ≡ from
Notes from Several = Unit {0}

-- What is noted later.
abbrev pub IsRisen : Arrival → Arrival → Type 0
IsRisen Nothing later = Unit {0}
IsRisen (OneNode from) later = Notes from later
IsRisen Several later = later ≡ Several

-- What is noted of each node is what was, or what may be noted later.
pub record Rises (old new : List Arrival) : Type 0 where
  pub each : (place : ℕ) (a : Arrival) → slice_get old place ≡ Some a → (b : Arrival) × (slice_get new place ≡ Some b) × IsRisen a b

-- It is noted of the node at the offset that the node at a place leads there.
pub record IsNoted (l : LoweredMethod) (arrivals : List Arrival) (from offset : ℕ) : Type 0 where
  pub each : (place : ℕ) → StandsAt l offset place → (a : Arrival) × (slice_get arrivals place ≡ Some a) × Notes from a

-- It is noted of the node at the offset that a handler begins there.
pub record IsHandled (l : LoweredMethod) (arrivals : List Arrival) (offset : ℕ) : Type 0 where
  pub each : (place : ℕ) → StandsAt l offset place → slice_get arrivals place ≡ Some Several

-- All is noted of the nodes before a place.
pub record AreNoted (l : LoweredMethod) (arrivals : List Arrival) (done : ℕ) : Type 0 where
  pub successors : (from offset : ℕ) → from < done → LeadsTo l from offset → IsNoted l arrivals from offset
  pub handlers : (from offset : ℕ) → from < done → HandsTo l from offset → IsHandled l arrivals offset

-- What is noted is so, and all is noted.
pub record AreArrivals (l : LoweredMethod) (arrivals : List Arrival) : Type 0 where
  pub sound : AreSound l arrivals
  pub noted : AreNoted l arrivals (length l.nodes)
