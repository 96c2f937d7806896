-- Public contracts rest on this module.
-- The places of nodes.
use Rattle.std.specs.Prelude.{◌≡◌, ℕ, ◌<◌, Option, Some, None, slice_get}
use Rattle.op_model.specs.declared.lowered.LoweredMethod.{LoweredMethod}
use Rattle.op_model.specs.declared.node.Node.{Node}

-- The nodes stand in the order of their offsets.
pub record AreInOrder (l : LoweredMethod) : Type 0 where
  pub ascend : (i j : ℕ) (n k : Node) → i < j → slice_get l.nodes i ≡ Some n → slice_get l.nodes j ≡ Some k → n.offset < k.offset

-- A node of the offset stands at the place.
pub record StandsAt (l : LoweredMethod) (offset place : ℕ) : Type 0 where
  pub node : Node
  pub stands : slice_get l.nodes place ≡ Some node
  pub is : node.offset ≡ offset

-- The place of the node at the offset, or that there is none.
abbrev pub IsPlaceOf : LoweredMethod → ℕ → Option ℕ → Type 0
IsPlaceOf l offset (Some place) = StandsAt l offset place
IsPlaceOf l offset None = (place : ℕ) → StandsAt l offset place → ⊥
