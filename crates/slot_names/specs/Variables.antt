-- Public contracts rest on this module.
-- The variables of a method as nodes. A slot keeps its variable from node to node, and a move hands its source's variable on, until two ways
-- meet or the slot is written otherwise: so two slots of one variable have one value.
use Rattle.std.specs.Prelude.{◌≡◌, ◌≢◌, ℕ, nat_eq, find, ◌<◌, List, [], ◌∷◌, ◌++◌, Option, Some, None, slice_get, Contains, All, if◌then◌else◌}
use Rattle.std.specs.List.{list_any}
use Rattle.std.specs.Option.{option_to_list}
use Rattle.op_model.specs.declared.lowered.LoweredMethod.{LoweredMethod}
use Rattle.op_model.specs.declared.node.Node.{Node}
use Rattle.op_model.specs.declared.node.NodeHandler.{NodeHandler}
use Rattle.op_model.specs.declared.op.Move.{Move}
use Rattle.op_model.specs.declared.op.Op.{Op}
use Rattle.op_model.specs.declared.op.Op.TheVariants.{Assign, Load, Store, LoadElement, StoreElement, LoadStatic, StoreStatic, New, NewArray, Constant, Call, Return, Throw, Cast, Probe}
use Rattle.op_model.specs.declared.op.Source.{Source}
use Rattle.op_model.specs.declared.op.Source.TheVariants.{Slot, Null, Primitive}
use Rattle.machine_nodes.specs.Slots.{argument_slots}
use Rattle.slot_names.specs.declared.variable.Variable.{Variable}
use Rattle.slot_names.specs.declared.variable.Variable.TheVariants.{Parameter, At}

-- ---- what a node does to a slot

-- It keeps the slot, moves another one into it, or writes it otherwise.
pub data Effect : Type 0 where
  keeps : Effect
  moves : (source : ℕ) → Effect
  writes : Effect

-- The slots that an operation writes which is no assignment: its target, and its operands, which become those of primitives. A cast
-- counts as one that writes its slot.
abbrev pub written_slots : Op → List ℕ
written_slots (Assign changes) = []
written_slots (Load object field target) = object ∷ target ∷ []
written_slots (Store object field value) = object ∷ value ∷ []
written_slots (LoadElement array target) = array ∷ target ∷ []
written_slots (StoreElement array value) = array ∷ value ∷ []
written_slots (LoadStatic field target) = target ∷ []
written_slots (StoreStatic field value) = value ∷ []
written_slots (New site target) = target ∷ []
written_slots (NewArray sites target) = target ∷ []
written_slots (Constant site target) = target ∷ []
written_slots (Call call) = option_to_list call.result ++ argument_slots call.arguments
written_slots (Return value) = option_to_list value
written_slots (Throw value) = value ∷ []
written_slots (Cast class slot) = slot ∷ []
written_slots (Probe slot) = slot ∷ []

-- What a move does to its target, by its source.
abbrev pub effect_of_source : Source → Effect
effect_of_source (Slot y) = moves y
effect_of_source Null = writes
effect_of_source Primitive = writes

-- What the move into a slot does to it, if there is one.
abbrev pub effect_of_move : Option Move → Effect
effect_of_move None = keeps
effect_of_move (Some m) = effect_of_source m.source

-- What an operation does to a slot. An assignment moves into it, if it does, by the first move of the slot.
abbrev pub effect_on : ℕ → Op → Effect
effect_on z (Assign changes) = effect_of_move (find (λ (m : Move). nat_eq m.target z) changes)
effect_on z op = if list_any (λ (y : ℕ). nat_eq y z) (written_slots op) then writes else keeps

-- ---- where ways meet

-- The node leads to the other one.
pub record IsPredecessor (l : LoweredMethod) (p n : Node) : Type 0 where
  pub stands : Contains l.nodes p
  pub goes : Contains p.successors n.offset

-- A handler that covers some node begins at this one.
pub record BeginsHandler (l : LoweredMethod) (n : Node) : Type 0 where
  pub covered : Node
  pub stands : Contains l.nodes covered
  pub handler : NodeHandler
  pub covers : Contains covered.handlers handler
  pub begins : handler.target ≡ n.offset

abbrev pub IsFirstNode : LoweredMethod → Node → Type 0
IsFirstNode l n = slice_get l.nodes 0 ≡ Some n

-- A merge point: a handler begins there, or several nodes lead there, or it is the first node and some node leads there.
pub data IsMerge (l : LoweredMethod) (n : Node) : Type 0 where
  of_handler : BeginsHandler l n → IsMerge l n
  of_several : (p q : Node) → IsPredecessor l p n → IsPredecessor l q n → p ≢ q → IsMerge l n
  of_first : IsFirstNode l n → (p : Node) → IsPredecessor l p n → IsMerge l n

-- ---- variables

-- The variable of a slot at a node. At a merge point each slot has one of its own; at another first node it has that of the parameter; and
-- at each other node it is moved, written or kept by the only node that leads there.
pub data IsVariable (l : LoweredMethod) : Node → ℕ → Variable → Type 0 where
  merged : (n : Node) (z : ℕ) (v : Variable) → IsMerge l n → v ≡ At l.method n.offset z → IsVariable l n z v
  first : (n : Node) (z : ℕ) (v : Variable) → (IsMerge l n → ⊥) → IsFirstNode l n → v ≡ Parameter l.method z → IsVariable l n z v
  moved : (n p : Node) (z y : ℕ) (v : Variable) → (IsMerge l n → ⊥) → IsPredecessor l p n → effect_on z p.op ≡ moves y → IsVariable l p y v → IsVariable l n z v
  written : (n p : Node) (z : ℕ) (v : Variable) → (IsMerge l n → ⊥) → IsPredecessor l p n → effect_on z p.op ≡ writes → v ≡ At l.method n.offset z → IsVariable l n z v
  kept : (n p : Node) (z : ℕ) (v : Variable) → (IsMerge l n → ⊥) → IsPredecessor l p n → effect_on z p.op ≡ keeps → IsVariable l p z v → IsVariable l n z v

-- ---- methods whose slots have variables

-- The first node is reached, and that at which one that is reached goes on, or to which a handler goes that covers one.
pub data IsReachedNode (l : LoweredMethod) : ℕ → Type 0 where
  at_first : (n : Node) (offset : ℕ) → IsFirstNode l n → offset ≡ n.offset → IsReachedNode l offset
  from_node : (n : Node) (offset : ℕ) → Contains l.nodes n → IsReachedNode l n.offset → Contains n.successors offset → IsReachedNode l offset
  from_handler : (n : Node) (h : NodeHandler) (offset : ℕ) → Contains l.nodes n → IsReachedNode l n.offset → Contains n.handlers h → offset ≡ h.target → IsReachedNode l offset

-- The nodes stand in the order of their offsets, and each is reached.
pub record AreReachedNodes (l : LoweredMethod) : Type 0 where
  pub ascend : (i j : ℕ) (n k : Node) → i < j → slice_get l.nodes i ≡ Some n → slice_get l.nodes j ≡ Some k → n.offset < k.offset
  pub each : All (λ (n : Node). IsReachedNode l n.offset) l.nodes
