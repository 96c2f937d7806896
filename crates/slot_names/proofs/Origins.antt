-- Where a slot has its variable from: it begins at the node, or the node before hands it on. So slots of one variable read alike after a
-- node where those that it hands on did before.
use Rattle.std.proofs.Common.{◌≡◌, ◌⊎◌, inl, inr, ℕ, List, Contains, refl, sym, ap, ◌∙◌, subst}
use Rattle.op_model.specs.declared.lowered.LoweredMethod.{LoweredMethod}
use Rattle.op_model.specs.declared.node.Node.{Node}
use Rattle.machine_bytecode.specs.States.{Value, slot_at}
use Rattle.slot_names.specs.declared.variable.Variable.{Variable}
use Rattle.slot_names.specs.declared.variable.Variable.TheVariants.{Parameter, At}
use Rattle.slot_names.specs.Variables.{effect_on, IsPredecessor, IsFirstNode, IsMerge, of_first, IsVariable, merged, first, moved, written, kept, AreReachedNodes}
use Rattle.slot_names.proofs.PlacesOfSlots.{only_predecessor}
use Rattle.slot_names.proofs.Chains.{no_ring, begun}
use Rattle.slot_names.proofs.Effects.{HandsOn, as_kept, as_moved}
use Rattle.slot_names.proofs.OneVariable.{own_at_merge}

-- ---- where a variable begins

same_slot : (method : _) (offset y z : ℕ) (v : Variable) → v ≡ At method offset y → v ≡ At method offset z → y ≡ z
same_slot method offset y z v e f = cc

pub distinct_at_merge : (l : LoweredMethod) (n : Node) (y z : ℕ) (v : Variable) → IsMerge l n → IsVariable l n y v → IsVariable l n z v → y ≡ z
distinct_at_merge l n y z v merge has also = same_slot l.method n.offset y z v (own_at_merge l n y v merge has) (own_at_merge l n z v merge also)

at_first : (l : LoweredMethod) (n : Node) (z : ℕ) (v : Variable) → IsFirstNode l n → IsVariable l n z v → (v ≡ At l.method n.offset z) ⊎ (v ≡ Parameter l.method z)
at_first l n z v is_first (merged k x w m e) = inl e
at_first l n z v is_first (first k x w a is e) = inr e
at_first l n z v is_first (moved k p x y w a leads effect before) = absurd (a (of_first is_first p leads))
at_first l n z v is_first (written k p x w a leads effect e) = inl e
at_first l n z v is_first (kept k p x w a leads effect before) = absurd (a (of_first is_first p leads))

pub distinct_at_first : (l : LoweredMethod) (n : Node) (y z : ℕ) (v : Variable) → IsFirstNode l n → IsVariable l n y v → IsVariable l n z v → y ≡ z
distinct_at_first l n y z v is_first has also = by (at_first l n y v is_first has) (at_first l n z v is_first also)
  where
    by : (v ≡ At l.method n.offset y) ⊎ (v ≡ Parameter l.method y) → (v ≡ At l.method n.offset z) ⊎ (v ≡ Parameter l.method z) → y ≡ z
    by (inl e) (inl f) = same_slot l.method n.offset y z v e f
    by (inl e) (inr f) = absurd cc
    by (inr e) (inl f) = absurd cc
    by (inr e) (inr f) = cc

-- ---- what a node hands on

-- the variable is that of a slot at the node before, whose value this slot gets
record IsHanded (l : LoweredMethod) (p n : Node) (z : ℕ) (v : Variable) : Type 0 where
  apart : IsMerge l n → ⊥
  source : ℕ
  hands : HandsOn (effect_on z p.op) source z
  before : IsVariable l p source v

handed : (l : LoweredMethod) → AreReachedNodes l → (n p q : Node) (y z : ℕ) (v : Variable) → (IsMerge l n → ⊥) → IsPredecessor l p n → IsPredecessor l q n
    → HandsOn (effect_on z q.op) y z → IsVariable l q y v → IsHanded l p n z v
handed l reached n p q y z v apart leads other hands before =
    subst (λ (k : Node). IsHanded l k n z v) (only_predecessor l reached n q p apart other leads)
    (record { apart = apart; source = y; hands = hands; before = before })

origin : (l : LoweredMethod) → AreReachedNodes l → (p n : Node) (z : ℕ) (v : Variable) → IsPredecessor l p n → IsVariable l n z v → (v ≡ At l.method n.offset z) ⊎ IsHanded l p n z v
origin l reached p n z v leads (merged k x w m e) = inl e
origin l reached p n z v leads (first k x w apart is e) = absurd (apart (of_first is p leads))
origin l reached p n z v leads (moved k q x y w apart other effect before) = inr (handed l reached k p q y x w apart leads other (as_moved effect) before)
origin l reached p n z v leads (written k q x w apart other effect e) = inl e
origin l reached p n z v leads (kept k q x w apart other effect before) = inr (handed l reached k p q x x w apart leads other (as_kept effect refl) before)

-- what is handed on begins before
elsewhere : (l : LoweredMethod) → AreReachedNodes l → (p n : Node) (y z : ℕ) (v : Variable) → Contains l.nodes n → IsPredecessor l p n → v ≡ At l.method n.offset y → IsHanded l p n z v → ⊥
elsewhere l reached p n y z v here leads e h = no_ring l reached n p here h.apart leads (begun l reached n here y p h.source v h.before leads.stands e)

-- slots that a node hands on, and that have one variable there, read alike
pub record ReadHandedAlike (l : LoweredMethod) (p : Node) (slots : List Value) : Type 0 where
  pub same : (x y source target : ℕ) (v : Variable) → HandsOn (effect_on source p.op) x source → HandsOn (effect_on target p.op) y target → IsVariable l p x v → IsVariable l p y v
      → slot_at slots x ≡ slot_at slots y

-- what it hands on reads as before
pub record AreHandedOn (p : Node) (before after : List Value) : Type 0 where
  pub reads : (y z : ℕ) → HandsOn (effect_on z p.op) y z → slot_at after z ≡ slot_at before y

pub alike_after : (l : LoweredMethod) → AreReachedNodes l → (p n : Node) → Contains l.nodes n → IsPredecessor l p n → (before after : List Value) → ReadHandedAlike l p before → AreHandedOn p before after
    → (y z : ℕ) (v : Variable) → IsVariable l n y v → IsVariable l n z v → slot_at after y ≡ slot_at after z
alike_after l reached p n here leads before after alike on y z v has also = by (origin l reached p n y v leads has) (origin l reached p n z v leads also)
  where
    by : (v ≡ At l.method n.offset y) ⊎ IsHanded l p n y v → (v ≡ At l.method n.offset z) ⊎ IsHanded l p n z v → slot_at after y ≡ slot_at after z
    by (inl e) (inl f) = ap (slot_at after) (same_slot l.method n.offset y z v e f)
    by (inl e) (inr h) = absurd (elsewhere l reached p n y z v here leads e h)
    by (inr g) (inl f) = absurd (elsewhere l reached p n z y v here leads f g)
    by (inr g) (inr h) = on.reads g.source y g.hands ∙ alike.same g.source h.source y z v g.hands h.hands g.before h.before ∙ sym (on.reads h.source z h.hands)
