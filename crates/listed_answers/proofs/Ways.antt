-- The variable that is computed is that of the slot: the way back from a node passes no node twice, so there are enough nodes to pass.
use Rattle.std.proofs.Common.{◌≡◌, ℕ, zero, suc, ◌+◌, ◌<◌, Bool, true, false, cond, List, [], ◌∷◌, ◌++◌, length, length-append, find, Option, Some, None, Contains, refl, sym, ◌∙◌, subst, arith, inl, inr}
use Rattle.std.specs.List.{All, list_any}
use Rattle.std.proofs.lemmas.List.Elements.{All-contains, All-nil, All-push, Contains-append_cases}
use Rattle.std.proofs.lemmas.Option.{none-some}
use Rattle.list_laws.proofs.Members.{contains_none, contains_only}
use Rattle.list_laws.proofs.Places.{contains_at}
use Rattle.least_sets.specs.Rules.{IsWithoutDoubles}
use Rattle.least_sets.proofs.Growing.{IsWithoutDoubles-push}
use Rattle.least_sets.proofs.Pigeons.{length-le_from_apart}
use Rattle.op_model.specs.declared.lowered.LoweredMethod.{LoweredMethod}
use Rattle.op_model.specs.declared.node.Node.{Node}
use Rattle.slot_names.specs.declared.variable.Variable.{Variable}
use Rattle.slot_names.specs.declared.variable.Variable.TheVariants.{Parameter, At}
use Rattle.slot_names.specs.Variables.{AreReachedNodes, Effect, IsFirstNode, IsMerge, IsPredecessor, IsReachedNode, IsVariable, at_first, effect_on, first, from_handler, from_node, keeps, kept, merged, moved, moves, of_first, of_handler, writes, written}
use Rattle.slot_names.proofs.PlacesOfSlots.{only_predecessor, same_node}
use Rattle.listed_answers.specs.NodeVariables.{arrived, hands_to, leads_to, left_by, meets, variable_of, variable_within}
use Rattle.listed_answers.proofs.Meetings.{begins_handler, begins_method, leads, no_meeting, no_way, none_leads, ways_meet}

-- ---- ways

-- A way leads from a node to another one, by nodes behind it that are no merge points.
data Leads (l : LoweredMethod) : Node → Node → Type 0 where
  next : (n m : Node) → (IsMerge l m → ⊥) → IsPredecessor l n m → Leads l n m
  later : (n k m : Node) → Leads l n k → (IsMerge l m → ⊥) → IsPredecessor l k m → Leads l n m

-- from a node that leads to its first one, too
from_before : (l : LoweredMethod) (p n m : Node) → (IsMerge l n → ⊥) → IsPredecessor l p n → Leads l n m → Leads l p m
from_before l p _ _ apart from (next n m closed goes) = later p n m (next p n apart from) closed goes
from_before l p _ _ apart from (later n k m way closed goes) = later p k m (from_before l p n k apart from way) closed goes

-- Where a way leads from a node to itself, one leads so from the node before it.
record IsInRing (l : LoweredMethod) (m : Node) : Type 0 where
  apart : IsMerge l m → ⊥
  before : Node
  from : IsPredecessor l before m
  ring : Leads l before before

in_ring : (l : LoweredMethod) (n m : Node) → Leads l n m → n ≡ m → IsInRing l m
in_ring l _ _ (next n m apart from) e = record { apart = apart; before = n; from = from; ring = subst (λ (k : Node). Leads l n k) (sym e) (next n m apart from) }
in_ring l _ _ (later n k m way apart from) e = record {
  apart = apart;
  before = k;
  from = from;
  ring = from_before l k n k (λ merge. apart (subst (λ (j : Node). IsMerge l j) e merge)) (subst (λ (j : Node). IsPredecessor l k j) (sym e) from) way;
}

-- Each node is reached from the first one, so no way leads from a node to itself.
unreached : (l : LoweredMethod) → AreReachedNodes l → (offset : ℕ) → IsReachedNode l offset → (m : Node) → Contains l.nodes m → m.offset ≡ offset → Leads l m m → ⊥
unreached l reached offset (at_first k o is e) m here at way =
    let it = in_ring l m m way refl in
    it.apart (of_first (subst (λ (j : Node). IsFirstNode l j) (same_node l reached k m (contains_at l.nodes 0 k is) here (sym (at ∙ e))) is) it.before it.from)
unreached l reached offset (from_node k o stands there goes) m here at way =
    let it = in_ring l m m way refl in
    let is : it.before ≡ k =
    only_predecessor l reached m it.before k it.apart it.from (record { stands = stands; goes = subst (λ (j : ℕ). Contains k.successors j) (sym at) goes }) in
    unreached l reached k.offset there k stands refl (subst (λ (j : Node). Leads l j j) is it.ring)
unreached l reached offset (from_handler k h o stands there covers e) m here at way =
    let it = in_ring l m m way refl in
    it.apart (of_handler (record { covered = k; stands = stands; handler = h; covers = covers; begins = sym (at ∙ e) }))

no_ring : (l : LoweredMethod) → AreReachedNodes l → (n : Node) → Contains l.nodes n → Leads l n n → ⊥
no_ring l reached n here =
    unreached l reached n.offset (All-contains (λ (k : Node). IsReachedNode l k.offset) l.nodes n reached.each here) n here refl

-- ---- nodes that were passed

-- The listed nodes were passed on the way back to the node, each once.
record ArePassed (l : LoweredMethod) (n : Node) (passed : List Node) : Type 0 where
  once : IsWithoutDoubles passed
  inside : All (Contains l.nodes) passed
  each : (other : Node) → Contains passed other → Leads l n other

none_passed : (l : LoweredMethod) (n : Node) → ArePassed l n []
none_passed l n = record { once = λ fact i j p q. absurd (none-some fact p); inside = All-nil (Contains l.nodes); each = λ other there. absurd (contains_none other there) }

module _ (l : LoweredMethod) (reached : AreReachedNodes l) where
  -- the node itself was not passed
  not_passed : (n : Node) (passed : List Node) → Contains l.nodes n → ArePassed l n passed → Contains passed n → ⊥
  not_passed n passed here are there = no_ring l reached n here (are.each n there)

  with_it : (n : Node) (passed : List Node) → Contains l.nodes n → ArePassed l n passed → IsWithoutDoubles (passed ++ n ∷ [])
  with_it n passed here are = IsWithoutDoubles-push passed n are.once (not_passed n passed here are)

  all_inside : (n : Node) (passed : List Node) → Contains l.nodes n → ArePassed l n passed → All (Contains l.nodes) (passed ++ n ∷ [])
  all_inside n passed here are = All-push (Contains l.nodes) passed n are.inside here

  -- so some node is left
  one_left : (n : Node) (passed : List Node) → Contains l.nodes n → ArePassed l n passed → length passed < length l.nodes
  one_left n passed here are =
      let most = length-le_from_apart l.nodes (passed ++ n ∷ []) (with_it n passed here are) (all_inside n passed here are) in
      omega (arith, most, length-append passed (n ∷ []))

  -- one more
  passed_more : (n p : Node) (passed : List Node) → Contains l.nodes n → (IsMerge l n → ⊥) → IsPredecessor l p n → ArePassed l n passed
      → ArePassed l p (passed ++ n ∷ [])
  passed_more n p passed here apart from are = record {
    once = with_it n passed here are;
    inside = all_inside n passed here are;
    each = λ other there. elim (Contains-append_cases passed (n ∷ []) other there) [
      | inl earlier ↦ from_before l p n other apart from (are.each other earlier)
      | inr last ↦ subst (λ (k : Node). Leads l p k) (contains_only n other last) (next p n apart from)
    ];
  }

  -- ---- the variable at a node, by those before it

  module _ (n : Node) (here : Contains l.nodes n) (z : ℕ) (before : ℕ → ℕ → Variable)
      (earlier : (p : Node) → (IsMerge l n → ⊥) → IsPredecessor l p n → (y : ℕ) → IsVariable l p y (before p.offset y)) where
    after_node : (p : Node) → (IsMerge l n → ⊥) → IsPredecessor l p n → (effect : Effect) → effect_on z p.op ≡ effect
        → IsVariable l n z (left_by (before p.offset) (At l.method n.offset z) z effect)
    after_node p apart from keeps e = kept n p z (before p.offset z) apart from e (earlier p apart from z)
    after_node p apart from (moves y) e = moved n p z y (before p.offset y) apart from e (earlier p apart from y)
    after_node p apart from writes e = written n p z (At l.method n.offset z) apart from e refl

    by_found : list_any (hands_to n.offset) l.nodes ≡ false → (o : Option Node) → find (leads_to n.offset) l.nodes ≡ o → IsVariable l n z (arrived l n.offset z before o)
    by_found none None e =
        let alone = none_leads l reached n here e in
        first n z (Parameter l.method z) (no_way l reached n here none alone) (begins_method l reached n here none alone) refl
    by_found none (Some p) e = by (meets l n.offset p) refl
      where
        from : IsPredecessor l p n
        from = leads l reached n here p e

        by : (b : Bool) → meets l n.offset p ≡ b
            → IsVariable l n z (cond b (At l.method n.offset z) (left_by (before p.offset) (At l.method n.offset z) z (effect_on z p.op)))
        by true is = merged n z (At l.method n.offset z) (ways_meet l reached n here p is from) refl
        by false is = after_node p (no_meeting l reached n here p none is from) from (effect_on z p.op) refl

    at_node : (b : Bool) → list_any (hands_to n.offset) l.nodes ≡ b
        → IsVariable l n z (cond b (At l.method n.offset z) (arrived l n.offset z before (find (leads_to n.offset) l.nodes)))
    at_node true is = merged n z (At l.method n.offset z) (of_handler (begins_handler l reached n here is)) refl
    at_node false none = by_found none (find (leads_to n.offset) l.nodes) refl

  -- ---- all the way

  is_within : (count : ℕ) (n : Node) (z : ℕ) (passed : List Node) → Contains l.nodes n → ArePassed l n passed → length passed + count ≡ length l.nodes
      → IsVariable l n z (variable_within count l n.offset z)
  is_within zero n z passed here are enough = absurd (let left = one_left n passed here are in omega (arith, left, enough))
  is_within (suc count) n z passed here are enough =
      at_node n here z (variable_within count l)
      (λ p apart from y.
      is_within count p y (passed ++ n ∷ []) from.stands (passed_more n p passed here apart from are)
      (let longer = length-append passed (n ∷ []) in omega (arith, enough, longer)))
      (list_any (hands_to n.offset) l.nodes) refl

  pub is_variable_of : (n : Node) (z : ℕ) → Contains l.nodes n → IsVariable l n z (variable_of l n z)
  is_variable_of n z here = is_within (length l.nodes) n z [] here (none_passed l n) (omega arith)
