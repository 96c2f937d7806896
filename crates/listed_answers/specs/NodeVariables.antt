-- Public contracts rest on this module.
-- The variable of a slot at a node, computed: a way is followed backwards until it is known where the variable begins.
use Rattle.std.specs.Prelude.{ℕ, zero, suc, nat_eq, Bool, false, not, ◌&&◌, ◌||◌, List, [], ◌∷◌, length, find, Option, Some, None, if◌then◌else◌}
use Rattle.std.specs.List.{list_any}
use Rattle.op_model.specs.declared.lowered.LoweredMethod.{LoweredMethod}
use Rattle.op_model.specs.declared.node.Node.{Node}
use Rattle.op_model.specs.declared.node.NodeHandler.{NodeHandler}
use Rattle.slot_names.specs.declared.variable.Variable.{Variable}
use Rattle.slot_names.specs.declared.variable.Variable.TheVariants.{Parameter, At}
use Rattle.slot_names.specs.Variables.{Effect, keeps, moves, writes, effect_on}
use Rattle.stage_transfer.specs.Settings.{among}

-- ---- where ways meet

-- The node leads to the offset.
abbrev pub leads_to : (offset : ℕ) → Node → Bool
leads_to offset p = among p.successors offset

-- A handler of the node begins at the offset.
abbrev pub hands_to : (offset : ℕ) → Node → Bool
hands_to offset p = list_any (λ (h : NodeHandler). nat_eq h.target offset) p.handlers

-- The second node is another one, and leads to the offset.
abbrev pub is_second : (offset : ℕ) → (p q : Node) → Bool
is_second offset p q = leads_to offset q && not (nat_eq q.offset p.offset)

-- The first node stands at the offset.
abbrev pub begins_at : (offset : ℕ) → List Node → Bool
begins_at offset [] = false
begins_at offset (n ∷ rest) = nat_eq n.offset offset

-- Besides the node another one leads to the offset, or the method begins there.
abbrev pub meets : LoweredMethod → (offset : ℕ) → (p : Node) → Bool
meets l offset p = begins_at offset l.nodes || list_any (is_second offset p) l.nodes

-- ---- variables

-- The variable of a slot after a node, by the variables before it and by its effect on the slot.
abbrev pub left_by : (before : ℕ → Variable) → (own : Variable) → (z : ℕ) → Effect → Variable
left_by before own z keeps = before z
left_by before own z (moves y) = before y
left_by before own z writes = own

-- The variable of a slot at an offset where no handler begins, by the first node that leads there and by the variables at that node.
abbrev pub arrived : LoweredMethod → (offset z : ℕ) → (before : ℕ → ℕ → Variable) → Option Node → Variable
arrived l offset z before None = Parameter l.method z
arrived l offset z before (Some p) =
    if meets l offset p then At l.method offset z else left_by (before p.offset) (At l.method offset z) z (effect_on z p.op)

-- The variable of a slot at an offset, where the way back passes so many nodes at most.
abbrev pub variable_within : (count : ℕ) → LoweredMethod → (offset z : ℕ) → Variable
variable_within zero l offset z = At l.method offset z
variable_within (suc count) l offset z =
    if list_any (hands_to offset) l.nodes
    then At l.method offset z
    else arrived l offset z (variable_within count l) (find (leads_to offset) l.nodes)

-- The variable of a slot at a node. The way back passes no node twice.
abbrev pub variable_of : LoweredMethod → Node → (z : ℕ) → Variable
variable_of l n z = variable_within (length l.nodes) l n.offset z
