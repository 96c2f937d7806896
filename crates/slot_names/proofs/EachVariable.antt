-- A slot has a variable at each node, since each node is reached: at a merge point its own; at the first node that of the parameter; and at
-- each other node what the only node that leads there leaves it.
use Rattle.std.proofs.Common.{◌≡◌, ◌⊎◌, inl, inr, ℕ, Contains, refl, sym, ◌∙◌, subst}
use Rattle.std.proofs.lemmas.List.Elements.{All-contains}
use Rattle.list_laws.proofs.Places.{contains_at}
use Rattle.op_model.specs.declared.lowered.LoweredMethod.{LoweredMethod}
use Rattle.op_model.specs.declared.node.Node.{Node}
use Rattle.slot_names.specs.declared.variable.Variable.{Variable}
use Rattle.slot_names.specs.declared.variable.Variable.TheVariants.{Parameter, At}
use Rattle.slot_names.specs.Variables.{Effect, keeps, moves, writes, effect_on, IsPredecessor, IsFirstNode, IsMerge, of_handler, IsVariable, merged, first, moved, written, kept, IsReachedNode, at_first, from_node, from_handler, AreReachedNodes}
use Rattle.slot_names.proofs.PlacesOfSlots.{same_node}
use Rattle.slot_names.proofs.MergePoints.{merge_or_not}

-- the slot has a variable at the node
abbrev Has : LoweredMethod → Node → ℕ → Type 0
Has l n z = (v : Variable) × IsVariable l n z v

pub at_merge : (l : LoweredMethod) (n : Node) (z : ℕ) → IsMerge l n → (v : Variable) × IsVariable l n z v
at_merge l n z merge = (At l.method n.offset z, merged n z (At l.method n.offset z) merge refl)

at_beginning : (l : LoweredMethod) (n : Node) (z : ℕ) → IsFirstNode l n → IsMerge l n ⊎ (IsMerge l n → ⊥) → Has l n z
at_beginning l n z is (inl merge) = at_merge l n z merge
at_beginning l n z is (inr apart) = (Parameter l.method z, first n z (Parameter l.method z) apart is refl)

-- after a node, by its effect on the slot
after : (l : LoweredMethod) (p n : Node) (z : ℕ) → (IsMerge l n → ⊥) → IsPredecessor l p n → ((y : ℕ) → Has l p y) → (effect : Effect) → effect_on z p.op ≡ effect → Has l n z
after l p n z apart leads before keeps e = let v = before z in (v.0, kept n p z v.0 apart leads e v.1)
after l p n z apart leads before (moves y) e = let v = before y in (v.0, moved n p z y v.0 apart leads e v.1)
after l p n z apart leads before writes e = (At l.method n.offset z, written n p z (At l.method n.offset z) apart leads e refl)

after_node : (l : LoweredMethod) (p n : Node) (z : ℕ) → IsPredecessor l p n → ((y : ℕ) → Has l p y) → IsMerge l n ⊎ (IsMerge l n → ⊥) → Has l n z
after_node l p n z leads before (inl merge) = at_merge l n z merge
after_node l p n z leads before (inr apart) = after l p n z apart leads before (effect_on z p.op) refl

at_reached : (l : LoweredMethod) → AreReachedNodes l → (offset : ℕ) → IsReachedNode l offset → (n : Node) → Contains l.nodes n → n.offset ≡ offset → (z : ℕ) → Has l n z
at_reached l reached offset (at_first k o is e) n here at z =
    let same : k ≡ n = same_node l reached k n (contains_at l.nodes 0 k is) here (sym (at ∙ e)) in
    at_beginning l n z (subst (λ (j : Node). IsFirstNode l j) same is) (merge_or_not l reached n here)
at_reached l reached offset (from_node k o stands there goes) n here at z =
    let leads : IsPredecessor l k n = record { stands = stands; goes = subst (λ (j : ℕ). Contains k.successors j) (sym at) goes } in
    after_node l k n z leads (λ y. at_reached l reached k.offset there k stands refl y) (merge_or_not l reached n here)
at_reached l reached offset (from_handler k h o stands there covers e) n here at z =
    at_merge l n z (of_handler (record { covered = k; stands = stands; handler = h; covers = covers; begins = sym (at ∙ e) }))

pub each_variable : (l : LoweredMethod) (n : Node) (z : ℕ) → AreReachedNodes l → Contains l.nodes n → (v : Variable) × IsVariable l n z v
each_variable l n z reached here = at_reached l reached n.offset (All-contains (λ (k : Node). IsReachedNode l k.offset) l.nodes n reached.each here) n here refl z
