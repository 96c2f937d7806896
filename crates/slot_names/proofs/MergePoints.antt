-- Whether a node is a merge point is decided: the lists of nodes, of handlers and of successors are searched.
use Rattle.std.proofs.Common.{◌≡◌, ◌⊎◌, inl, inr, ℕ, ◌<◌, ◌≤◌, List, [], ◌∷◌, Some, slice_get, Contains, sym, ap, ◌∙◌, subst, arith}
use Rattle.std.proofs.lemmas.Bool.{cases_eq, cases_lt}
use Rattle.list_laws.proofs.Members.{contained_or_not, contains_cases, contains_first, contains_later, contains_none}
use Rattle.list_laws.proofs.Places.{placed}
use Rattle.op_model.specs.declared.lowered.LoweredMethod.{LoweredMethod}
use Rattle.op_model.specs.declared.node.Node.{Node}
use Rattle.op_model.specs.declared.node.NodeHandler.{NodeHandler}
use Rattle.slot_names.specs.Variables.{IsPredecessor, BeginsHandler, IsFirstNode, IsMerge, of_handler, of_several, of_first, AreReachedNodes}
use Rattle.slot_names.proofs.PlacesOfSlots.{same_node}

-- ---- searches

-- some element has the property
record HasOne {X : Type 0} (P : X → Type 0) (xs : List X) : Type 0 where
  one : X
  there : Contains xs one
  has : P one

one_or_none : {X : Type 0} (P : X → Type 0) → ((x : X) → P x ⊎ (P x → ⊥)) → (xs : List X) → HasOne P xs ⊎ (HasOne P xs → ⊥)
one_or_none P test [] = inr (λ h. contains_none h.one h.there)
one_or_none {X} P test (y ∷ xs) = by (test y) (one_or_none P test xs)
  where
    by : P y ⊎ (P y → ⊥) → HasOne P xs ⊎ (HasOne P xs → ⊥) → HasOne P (y ∷ xs) ⊎ (HasOne P (y ∷ xs) → ⊥)
    by (inl is) rest = inl (record { one = y; there = contains_first y xs; has = is })
    by (inr is_not) (inl h) = inl (record { one = h.one; there = contains_later y h.one xs h.there; has = h.has })
    by (inr is_not) (inr none) = inr (λ h. elim (contains_cases y h.one xs h.there) [
      | inl e ↦ is_not (subst P (sym e) h.has)
      | inr later ↦ none (record { one = h.one; there = later; has = h.has })
    ])

-- ---- what makes a merge point

-- some handler of the node begins there
abbrev HasHandlerAt : ℕ → Node → Type 0
HasHandlerAt offset covered = HasOne (λ (h : NodeHandler). h.target ≡ offset) covered.handlers

begins_or_not : (l : LoweredMethod) (n : Node) → BeginsHandler l n ⊎ (BeginsHandler l n → ⊥)
begins_or_not l n = by (one_or_none (HasHandlerAt n.offset) (λ covered. one_or_none (λ (h : NodeHandler). h.target ≡ n.offset) (λ h. cases_eq h.target n.offset) covered.handlers) l.nodes)
  where
    by : HasOne (HasHandlerAt n.offset) l.nodes ⊎ (HasOne (HasHandlerAt n.offset) l.nodes → ⊥) → BeginsHandler l n ⊎ (BeginsHandler l n → ⊥)
    by (inl h) = inl (record { covered = h.one; stands = h.there; handler = h.has.one; covers = h.has.there; begins = h.has.has })
    by (inr none) = inr (λ b. none (record { one = b.covered; there = b.stands; has = record { one = b.handler; there = b.covers; has = b.begins } }))

first_or_not : (l : LoweredMethod) → AreReachedNodes l → (n : Node) → Contains l.nodes n → IsFirstNode l n ⊎ (IsFirstNode l n → ⊥)
first_or_not l reached n here = by (cases_lt 0 here.0)
  where
    by : (0 < here.0) ⊎ (here.0 ≤ 0) → IsFirstNode l n ⊎ (IsFirstNode l n → ⊥)
    by (inl later) = inr (λ is. let less = reached.ascend 0 here.0 n n later is (placed l.nodes n here) in omega arith)
    by (inr few) = let first : here.0 ≡ 0 = omega arith in inl (subst (λ (k : ℕ). slice_get l.nodes k ≡ Some n) first (placed l.nodes n here))

-- the node leads to this offset, and is not the other one
record IsOther (offset : ℕ) (p q : Node) : Type 0 where
  goes : Contains q.successors offset
  apart : q.offset ≡ p.offset → ⊥

other_or_not : (offset : ℕ) (p q : Node) → IsOther offset p q ⊎ (IsOther offset p q → ⊥)
other_or_not offset p q = by (contained_or_not q.successors offset) (cases_eq q.offset p.offset)
  where
    by : Contains q.successors offset ⊎ (Contains q.successors offset → ⊥) → (q.offset ≡ p.offset) ⊎ (q.offset ≡ p.offset → ⊥) → IsOther offset p q ⊎ (IsOther offset p q → ⊥)
    by goes (inl same) = inr (λ h. h.apart same)
    by (inl goes) (inr apart) = inl (record { goes = goes; apart = apart })
    by (inr goes_not) (inr apart) = inr (λ h. goes_not h.goes)

no_merge : (l : LoweredMethod) (n : Node) → (BeginsHandler l n → ⊥) → ((p q : Node) → IsPredecessor l p n → IsPredecessor l q n → p ≡ q)
    → (IsFirstNode l n → (p : Node) → IsPredecessor l p n → ⊥) → IsMerge l n → ⊥
no_merge l n no_handler one not_first (of_handler b) = no_handler b
no_merge l n no_handler one not_first (of_several p q from other apart) = apart (one p q from other)
no_merge l n no_handler one not_first (of_first is p leads) = not_first is p leads

-- ---- at one predecessor

module _ (l : LoweredMethod) (reached : AreReachedNodes l) (n p : Node) (leads : IsPredecessor l p n) where
  -- each node that leads there is the one at hand
  all_same : (HasOne (IsOther n.offset p) l.nodes → ⊥) → (q : Node) → IsPredecessor l q n → q ≡ p
  all_same none q from = by (cases_eq q.offset p.offset)
    where
      by : (q.offset ≡ p.offset) ⊎ (q.offset ≡ p.offset → ⊥) → q ≡ p
      by (inl e) = same_node l reached q p from.stands leads.stands e
      by (inr apart) = absurd (none (record { one = q; there = from.stands; has = record { goes = from.goes; apart = apart } }))

  merge_after : Contains l.nodes n → (BeginsHandler l n → ⊥) → IsMerge l n ⊎ (IsMerge l n → ⊥)
  merge_after here no_handler = by (first_or_not l reached n here) (one_or_none (IsOther n.offset p) (other_or_not n.offset p) l.nodes)
    where
      by : IsFirstNode l n ⊎ (IsFirstNode l n → ⊥) → HasOne (IsOther n.offset p) l.nodes ⊎ (HasOne (IsOther n.offset p) l.nodes → ⊥) → IsMerge l n ⊎ (IsMerge l n → ⊥)
      by (inl is) others = inl (of_first is p leads)
      by (inr not_first) (inl q) =
          inl (of_several q.one p (record { stands = q.there; goes = q.has.goes }) leads (λ e. q.has.apart (ap (λ (k : Node). k.offset) e)))
      by (inr not_first) (inr none) = inr (no_merge l n no_handler (λ q r from other. all_same none q from ∙ sym (all_same none r other)) (λ is q from. not_first is))

-- ---- the decision

pub merge_or_not : (l : LoweredMethod) → AreReachedNodes l → (n : Node) → Contains l.nodes n → IsMerge l n ⊎ (IsMerge l n → ⊥)
merge_or_not l reached n here = by (begins_or_not l n) (one_or_none (λ (p : Node). Contains p.successors n.offset) (λ p. contained_or_not p.successors n.offset) l.nodes)
  where
    by : BeginsHandler l n ⊎ (BeginsHandler l n → ⊥) → HasOne (λ (p : Node). Contains p.successors n.offset) l.nodes ⊎ (HasOne (λ (p : Node). Contains p.successors n.offset) l.nodes → ⊥)
        → IsMerge l n ⊎ (IsMerge l n → ⊥)
    by (inl begins) before = inl (of_handler begins)
    by (inr no_handler) (inl p) = merge_after l reached n p.one (record { stands = p.there; goes = p.has }) here no_handler
    by (inr no_handler) (inr none) =
        let alone : (p : Node) → IsPredecessor l p n → ⊥ = λ p from. none (record { one = p; there = from.stands; has = from.goes }) in
        inr (no_merge l n no_handler (λ p q from other. absurd (alone p from)) (λ is p from. alone p from))
