-- This crate's own proofs alone rest on this module.
-- The calls that are numbered for a node, and for the first nodes of a method.
use Rattle.std.specs.Prelude.{◌≡◌, ◌+◌, ◌<◌, ◌≤◌, ℕ, List, length, Some, slice_get}
use Rattle.op_model.specs.declared.lowered.LoweredMethod.{LoweredMethod}
use Rattle.op_model.specs.declared.node.Node.{Node}
use Rattle.op_model.specs.declared.op.Call.{Call as NodeCall}
use Rattle.op_model.specs.declared.op.Op.TheVariants.{Call}
use Rattle.points_to_constraints.specs.Items.{CallSite, Item as RuleItem}
use Rattle.points_to_constraints.specs.NodeItems.{IsCallSite}
use Rattle.points_to_numbers.specs.declared.item.Item.{Item}
use Rattle.points_to_numbers.specs.Numbered.{Grows, Numbered}
use Rattle.points_to_numbers.specs.Steps.{Adds}
use Rattle.points_to_methods.specs.NewCalls.{IsNewCall}

-- It is the call site of the node.
pub record IsCallAt (l : LoweredMethod) (n : Node) (site : CallSite) : Type 0 where
  pub call : NodeCall
  pub is_call : n.op ≡ Call call
  pub is_site : IsCallSite l.method l n call site

-- One call is numbered at most, and it is that of the node.
pub record AddsCallOf (l : LoweredMethod) (n : Node) (old new : List CallSite) : Type 0 where
  pub one : length new ≤ length old + 1
  pub only : (number : ℕ) (site : CallSite) → IsNewCall old new number site → IsCallAt l n site

-- What a node adds: what was numbered stays, its call alone is numbered, and items are added.
pub record AddsNode (l : LoweredMethod) (n : Node) (old new : Numbered) (P : RuleItem → Type 0) (before after : List Item) : Type 0 where
  pub grows : Grows old new
  pub calls : AddsCallOf l n old.calls new.calls
  pub adds : Adds new P before after

-- It is the call site of one of the first nodes.
pub record IsCallBelow (l : LoweredMethod) (limit : ℕ) (site : CallSite) : Type 0 where
  pub place : ℕ
  pub below : place < limit
  pub node : Node
  pub stands : slice_get l.nodes place ≡ Some node
  pub is_call : IsCallAt l node site

-- The calls of the first nodes are numbered, one at most for each node.
pub record AddsCallsBelow (l : LoweredMethod) (limit : ℕ) (old new : List CallSite) : Type 0 where
  pub only : (number : ℕ) (site : CallSite) → IsNewCall old new number site → IsCallBelow l limit site
  pub apart : (i j : ℕ) (a b : CallSite) → IsNewCall old new i a → IsNewCall old new j b → a.at ≡ b.at → i ≡ j
