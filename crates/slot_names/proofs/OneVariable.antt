-- A slot has one variable at a node: each way to have one gives the same.
use Rattle.std.proofs.Common.{◌≡◌, ℕ, Contains, sym, ◌∙◌, subst}
use Rattle.op_model.specs.declared.lowered.LoweredMethod.{LoweredMethod}
use Rattle.op_model.specs.declared.node.Node.{Node}
use Rattle.slot_names.specs.declared.variable.Variable.{Variable}
use Rattle.slot_names.specs.declared.variable.Variable.TheVariants.{Parameter, At}
use Rattle.slot_names.specs.Variables.{Effect, keeps, moves, writes, effect_on, IsPredecessor, IsFirstNode, IsMerge, of_first, IsVariable, merged, first, moved, written, kept, AreReachedNodes}
use Rattle.slot_names.proofs.PlacesOfSlots.{only_predecessor}

-- at a merge point
pub own_at_merge : (l : LoweredMethod) (n : Node) (z : ℕ) (v : Variable) → IsMerge l n → IsVariable l n z v → v ≡ At l.method n.offset z
own_at_merge l n z v merge (merged k x w m e) = e
own_at_merge l n z v merge (first k x w apart is e) = absurd (apart merge)
own_at_merge l n z v merge (moved k p x y w apart leads effect before) = absurd (apart merge)
own_at_merge l n z v merge (written k p x w apart leads effect e) = e
own_at_merge l n z v merge (kept k p x w apart leads effect before) = absurd (apart merge)

-- at a first node that is no merge point
pub own_at_first : (l : LoweredMethod) (n : Node) (z : ℕ) (v : Variable) → (IsMerge l n → ⊥) → IsFirstNode l n → IsVariable l n z v → v ≡ Parameter l.method z
own_at_first l n z v apart is_first (merged k x w m e) = absurd (apart m)
own_at_first l n z v apart is_first (first k x w a is e) = e
own_at_first l n z v apart is_first (moved k p x y w a leads effect before) = absurd (apart (of_first is_first p leads))
own_at_first l n z v apart is_first (written k p x w a leads effect e) = absurd (apart (of_first is_first p leads))
own_at_first l n z v apart is_first (kept k p x w a leads effect before) = absurd (apart (of_first is_first p leads))

-- at another node, by what the node that leads there does to the slot
abbrev GivenBy : LoweredMethod → Node → Node → ℕ → Variable → Effect → Type 0
GivenBy l p n z v keeps = IsVariable l p z v
GivenBy l p n z v (moves y) = IsVariable l p y v
GivenBy l p n z v writes = v ≡ At l.method n.offset z

record IsGiven (l : LoweredMethod) (p n : Node) (z : ℕ) (v : Variable) : Type 0 where
  by : GivenBy l p n z v (effect_on z p.op)

-- by another predecessor, which is the same
given_by : (l : LoweredMethod) → AreReachedNodes l → (n p q : Node) (z : ℕ) (v : Variable) (effect : Effect) → (IsMerge l n → ⊥) → IsPredecessor l p n → IsPredecessor l q n
    → effect_on z q.op ≡ effect → GivenBy l q n z v effect → IsGiven l p n z v
given_by l reached n p q z v effect apart leads other is given =
    subst (λ (k : Node). IsGiven l k n z v) (only_predecessor l reached n q p apart other leads)
    (record { by = subst (λ (e : Effect). GivenBy l q n z v e) (sym is) given })

given : (l : LoweredMethod) → AreReachedNodes l → (p n : Node) (z : ℕ) (v : Variable) → (IsMerge l n → ⊥) → IsPredecessor l p n → IsVariable l n z v → IsGiven l p n z v
given l reached p n z v apart leads (merged k x w m e) = absurd (apart m)
given l reached p n z v apart leads (first k x w a is e) = absurd (apart (of_first is p leads))
given l reached p n z v apart leads (moved k q x y w a other effect before) = given_by l reached k p q x w (moves y) apart leads other effect before
given l reached p n z v apart leads (written k q x w a other effect e) = given_by l reached k p q x w writes apart leads other effect e
given l reached p n z v apart leads (kept k q x w a other effect before) = given_by l reached k p q x w keeps apart leads other effect before

given_at : (l : LoweredMethod) → AreReachedNodes l → (p n : Node) (z : ℕ) (v : Variable) (effect : Effect) → (IsMerge l n → ⊥) → IsPredecessor l p n → effect_on z p.op ≡ effect
    → IsVariable l n z v → GivenBy l p n z v effect
given_at l reached p n z v effect apart leads is has = subst (λ (e : Effect). GivenBy l p n z v e) is (given l reached p n z v apart leads has).by

has_one : (l : LoweredMethod) → AreReachedNodes l → (w : Variable) (n : Node) (z : ℕ) (v : Variable) → IsVariable l n z v → IsVariable l n z w → v ≡ w
has_one l reached w n z v (merged k x u m e) other = e ∙ sym (own_at_merge l k x w m other)
has_one l reached w n z v (first k x u apart is e) other = e ∙ sym (own_at_first l k x w apart is other)
has_one l reached w n z v (moved k p x y u apart leads effect before) other = has_one l reached w p y u before (given_at l reached p k x w (moves y) apart leads effect other)
has_one l reached w n z v (written k p x u apart leads effect e) other = e ∙ sym (given_at l reached p k x w writes apart leads effect other)
has_one l reached w n z v (kept k p x u apart leads effect before) other = has_one l reached w p x u before (given_at l reached p k x w keeps apart leads effect other)

pub one_variable : (l : LoweredMethod) (n : Node) (z : ℕ) (v w : Variable) → AreReachedNodes l → Contains l.nodes n → IsVariable l n z v → IsVariable l n z w → v ≡ w
one_variable l n z v w reached there has other = has_one l reached w n z v has other
