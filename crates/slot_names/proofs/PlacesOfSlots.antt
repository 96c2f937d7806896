-- Nodes by their offsets: those of one offset are one, and so are those that lead to a node which is no merge point.
use Rattle.std.proofs.Common.{◌≡◌, ◌⊎◌, inl, inr, ℕ, ◌<◌, ◌≤◌, get_or, Some, slice_get, Contains, sym, ap, ◌∙◌, subst, arith}
use Rattle.std.proofs.lemmas.Bool.{cases_eq, cases_lt, cases_order}
use Rattle.std.proofs.lemmas.Option.{slice_get-get_or, same_Some}
use Rattle.list_laws.proofs.Places.{placed}
use Rattle.op_model.specs.declared.lowered.LoweredMethod.{LoweredMethod}
use Rattle.op_model.specs.declared.node.Node.{Node}
use Rattle.slot_names.specs.Variables.{IsPredecessor, IsFirstNode, IsMerge, of_several, AreReachedNodes}

-- nodes of one offset
pub same_node : (l : LoweredMethod) → AreReachedNodes l → (n k : Node) → Contains l.nodes n → Contains l.nodes k → n.offset ≡ k.offset → n ≡ k
same_node l reached n k here there e = by (cases_order here.0 there.0)
  where
    by : (here.0 ≡ there.0) ⊎ ((here.0 < there.0) ⊎ (there.0 < here.0)) → n ≡ k
    by (inl same) = same_Some n k (sym (placed l.nodes n here) ∙ ap (slice_get l.nodes) same ∙ placed l.nodes k there)
    by (inr (inl before)) = let less = reached.ascend here.0 there.0 n k before (placed l.nodes n here) (placed l.nodes k there) in absurd (omega (arith, e))
    by (inr (inr after)) = let more = reached.ascend there.0 here.0 k n after (placed l.nodes k there) (placed l.nodes n here) in absurd (omega (arith, e))

-- nodes that lead to one that is no merge point
pub only_predecessor : (l : LoweredMethod) → AreReachedNodes l → (n p q : Node) → (IsMerge l n → ⊥) → IsPredecessor l p n → IsPredecessor l q n → p ≡ q
only_predecessor l reached n p q apart from other = by (cases_eq p.offset q.offset)
  where
    by : (p.offset ≡ q.offset) ⊎ (p.offset ≡ q.offset → ⊥) → p ≡ q
    by (inl e) = same_node l reached p q from.stands other.stands e
    by (inr ne) = absurd (apart (of_several p q from other (λ e. ne (ap (λ (k : Node). k.offset) e))))

-- the node of offset 0 stands first
pub first_of_all : (l : LoweredMethod) → AreReachedNodes l → (n : Node) → Contains l.nodes n → n.offset ≡ 0 → IsFirstNode l n
first_of_all l reached n here e = by (cases_lt 0 here.0)
  where
    by : (0 < here.0) ⊎ (here.0 ≤ 0) → IsFirstNode l n
    by (inl later) =
        let some = here.1 in
        let least = reached.ascend 0 here.0 (get_or l.nodes 0 n) n later (slice_get-get_or l.nodes 0 n (omega arith)) (placed l.nodes n here) in
        absurd (omega (arith, e))
    by (inr few) = let first : here.0 ≡ 0 = omega arith in subst (λ (k : ℕ). slice_get l.nodes k ≡ Some n) first (placed l.nodes n here)
