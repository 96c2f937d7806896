-- The ways to a node past others that are no merge points. None leads from a node to itself, since each node is reached: so the variable
-- of a node begins at no node before it.
use Rattle.std.proofs.Common.{◌≡◌, ℕ, Some, slice_get, Contains, refl, sym, ◌∙◌, subst}
use Rattle.std.proofs.lemmas.List.Elements.{All-contains}
use Rattle.list_laws.proofs.Places.{contains_at}
use Rattle.op_model.specs.declared.lowered.LoweredMethod.{LoweredMethod}
use Rattle.op_model.specs.declared.node.Node.{Node}
use Rattle.slot_names.specs.declared.variable.Variable.{Variable}
use Rattle.slot_names.specs.declared.variable.Variable.TheVariants.{At}
use Rattle.slot_names.specs.Variables.{IsPredecessor, IsMerge, of_handler, of_first, IsVariable, merged, first, moved, written, kept, IsReachedNode, at_first, from_node, from_handler, AreReachedNodes}
use Rattle.slot_names.proofs.PlacesOfSlots.{same_node, only_predecessor}

-- from a node a way leads to another one, past nodes that are no merge points
pub data Descends (l : LoweredMethod) (n : Node) : Node → Type 0 where
  same : (m : Node) → m ≡ n → Descends l n m
  further : (m p : Node) → (IsMerge l m → ⊥) → IsPredecessor l p m → Descends l n p → Descends l n m

-- another node is no merge point, and a way leads to the one before it
record IsPreceded (l : LoweredMethod) (n m : Node) : Type 0 where
  apart : IsMerge l m → ⊥
  before : Node
  leads : IsPredecessor l before m
  descends : Descends l n before

-- each node to which a way leads is such a one, if that is where the ways begin
preceded : (l : LoweredMethod) (n m : Node) → IsPreceded l n n → Descends l n m → IsPreceded l n m
preceded l n m ring (same k e) = subst (λ (j : Node). IsPreceded l n j) (sym e) ring
preceded l n m ring (further k p apart leads descends) = record { apart = apart; before = p; leads = leads; descends = descends }

-- none of them is reached
unreached : (l : LoweredMethod) → AreReachedNodes l → (n : Node) → IsPreceded l n n → (offset : ℕ) → IsReachedNode l offset → (m : Node) → Contains l.nodes m → m.offset ≡ offset → Descends l n m → ⊥
unreached l reached n ring offset (at_first k o is e) m here at d =
    let p = preceded l n m ring d in
    let is_first : m ≡ k = same_node l reached m k here (contains_at l.nodes 0 k is) (at ∙ e) in
    p.apart (of_first (subst (λ (j : Node). slice_get l.nodes 0 ≡ Some j) (sym is_first) is) p.before p.leads)
unreached l reached n ring offset (from_node k o stands there goes) m here at d =
    let p = preceded l n m ring d in
    let is : p.before ≡ k = only_predecessor l reached m p.before k p.apart p.leads (record { stands = stands; goes = subst (λ (j : ℕ). Contains k.successors j) (sym at) goes }) in
    unreached l reached n ring k.offset there k stands refl (subst (λ (j : Node). Descends l n j) is p.descends)
unreached l reached n ring offset (from_handler k h o stands there covers e) m here at d =
    let p = preceded l n m ring d in
    p.apart (of_handler (record { covered = k; stands = stands; handler = h; covers = covers; begins = sym (at ∙ e) }))

-- no way leads from a node that is no merge point back to it
pub no_ring : (l : LoweredMethod) → AreReachedNodes l → (n p : Node) → Contains l.nodes n → (IsMerge l n → ⊥) → IsPredecessor l p n → Descends l n p → ⊥
no_ring l reached n p here apart leads d =
    unreached l reached n (record { apart = apart; before = p; leads = leads; descends = d }) n.offset
    (All-contains (λ (k : Node). IsReachedNode l k.offset) l.nodes n reached.each here)
    n here refl (same n refl)

-- a variable that begins at a node is that of nodes to which such a way leads from there
pub begun : (l : LoweredMethod) → AreReachedNodes l → (n : Node) → Contains l.nodes n → (z : ℕ) (p : Node) (y : ℕ) (v : Variable) → IsVariable l p y v → Contains l.nodes p → v ≡ At l.method n.offset z → Descends l n p
begun l reached n here z p y v (merged q x w merge e) there is = let at : q.offset ≡ n.offset = cc in same q (same_node l reached q n there here at)
begun l reached n here z p y v (first q x w apart is_first e) there is = absurd cc
begun l reached n here z p y v (moved q k x from w apart leads effect before) there is = further q k apart leads (begun l reached n here z k from w before leads.stands is)
begun l reached n here z p y v (written q k x w apart leads effect e) there is = let at : q.offset ≡ n.offset = cc in same q (same_node l reached q n there here at)
begun l reached n here z p y v (kept q k x w apart leads effect before) there is = further q k apart leads (begun l reached n here z k x w before leads.stands is)
