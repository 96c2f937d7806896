-- What the tests of the nodes of a method say: which node leads to another one, where a handler begins, and where ways meet.
use Rattle.std.proofs.Common.{◌≡◌, inl, inr, ℕ, nat_eq, Bool, true, false, not, List, [], ◌∷◌, find, Some, None, slice_get, Contains, refl, sym, ap, ◌∙◌, subst}
use Rattle.std.specs.List.{list_any}
use Rattle.std.proofs.lemmas.Bool.{and_from, and_parts, eq-eqb, eqb-true, false≢true, not-true, not_from_false, or_cases, or_parts}
use Rattle.std.proofs.lemmas.List.Elements.{All-contains}
use Rattle.std.proofs.lemmas.Option.{none-some, same_Some}
use Rattle.list_laws.proofs.Places.{contains_at}
use Rattle.list_laws.proofs.Tests.{found, not_found}
use Rattle.op_model.specs.declared.lowered.LoweredMethod.{LoweredMethod}
use Rattle.op_model.specs.declared.node.Node.{Node}
use Rattle.op_model.specs.declared.node.NodeHandler.{NodeHandler}
use Rattle.slot_names.specs.Variables.{AreReachedNodes, BeginsHandler, IsFirstNode, IsMerge, IsPredecessor, IsReachedNode, at_first, from_handler, from_node, of_first, of_handler, of_several}
use Rattle.slot_names.proofs.PlacesOfSlots.{same_node}
use Rattle.stage_transfer_laws.proofs.Members.{among_those, any_passes, is_among, none_passes, one_passes}
use Rattle.listed_answers.specs.NodeVariables.{begins_at, hands_to, is_second, leads_to, meets}

-- ---- the first node

first_at : (nodes : List Node) (offset : ℕ) → begins_at offset nodes ≡ true → (k : Node) × (slice_get nodes 0 ≡ Some k) × (k.offset ≡ offset)
first_at [] offset begins = absurd (false≢true begins)
first_at (k ∷ rest) offset begins = (k, refl, eqb-true k.offset offset begins)

at_first_offset : (nodes : List Node) (n : Node) → slice_get nodes 0 ≡ Some n → begins_at n.offset nodes ≡ true
at_first_offset [] n is = absurd (none-some n is)
at_first_offset (k ∷ rest) n is = eq-eqb k.offset n.offset (ap (λ (m : Node). m.offset) (same_Some k n is))

module _ (l : LoweredMethod) (reached : AreReachedNodes l) (n : Node) (here : Contains l.nodes n) where
  is_first : (k : Node) → slice_get l.nodes 0 ≡ Some k → k.offset ≡ n.offset → IsFirstNode l n
  is_first k stands e = subst (λ (m : Node). IsFirstNode l m) (same_node l reached k n (contains_at l.nodes 0 k stands) here e) stands

  -- ---- handlers

  pub begins_handler : list_any (hands_to n.offset) l.nodes ≡ true → BeginsHandler l n
  begins_handler any =
      let covered = one_passes (hands_to n.offset) l.nodes any in
      let handler = one_passes (λ (h : NodeHandler). nat_eq h.target n.offset) covered.0.handlers covered.2 in
      record {
        covered = covered.0;
        stands = covered.1;
        handler = handler.0;
        covers = handler.1;
        begins = eqb-true handler.0.target n.offset handler.2;
      }

  pub no_handler : list_any (hands_to n.offset) l.nodes ≡ false → BeginsHandler l n → ⊥
  no_handler none b =
      let hands : hands_to n.offset b.covered ≡ true =
      any_passes (λ (h : NodeHandler). nat_eq h.target n.offset) b.covered.handlers b.handler b.covers (eq-eqb b.handler.target n.offset b.begins) in
      false≢true (sym (none_passes (hands_to n.offset) l.nodes b.covered none b.stands) ∙ hands)

  -- ---- nodes that lead there

  pub leads : (p : Node) → find (leads_to n.offset) l.nodes ≡ Some p → IsPredecessor l p n
  leads p e = let is = found (leads_to n.offset) l.nodes p e in record { stands = is.there; goes = is_among p.successors n.offset is.taken }

  pub none_leads : find (leads_to n.offset) l.nodes ≡ None → (p : Node) → IsPredecessor l p n → ⊥
  none_leads e p from = not_found (leads_to n.offset) l.nodes e p from.stands (among_those p.successors n.offset from.goes)

  -- ---- where ways meet

  second_leads : (p : Node) → list_any (is_second n.offset p) l.nodes ≡ true → IsPredecessor l p n → IsMerge l n
  second_leads p any from =
      let q = one_passes (is_second n.offset p) l.nodes any in
      let parts = and_parts (leads_to n.offset q.0) (not (nat_eq q.0.offset p.offset)) q.2 in
      of_several q.0 p (record { stands = q.1; goes = is_among q.0.successors n.offset parts.0 }) from
      (λ same. false≢true (sym (not-true (nat_eq q.0.offset p.offset) parts.1) ∙ eq-eqb q.0.offset p.offset (ap (λ (m : Node). m.offset) same)))

  pub ways_meet : (p : Node) → meets l n.offset p ≡ true → IsPredecessor l p n → IsMerge l n
  ways_meet p is from = elim (or_cases (begins_at n.offset l.nodes) (list_any (is_second n.offset p) l.nodes) is) [
    | inl begins ↦ (let k = first_at l.nodes n.offset begins in of_first (is_first k.0 k.1 k.2) p from)
    | inr second ↦ second_leads p second from
  ]

  -- without a second node each that leads there is the one at hand
  is_only : (p : Node) → list_any (is_second n.offset p) l.nodes ≡ false → IsPredecessor l p n → (q : Node) → IsPredecessor l q n → q ≡ p
  is_only p none from q other = by (nat_eq q.offset p.offset) refl
    where
      by : (b : Bool) → nat_eq q.offset p.offset ≡ b → q ≡ p
      by true is = same_node l reached q p other.stands from.stands (eqb-true q.offset p.offset is)
      by false is =
          absurd (false≢true (sym (none_passes (is_second n.offset p) l.nodes q none other.stands)
          ∙ and_from (leads_to n.offset q) (not (nat_eq q.offset p.offset)) (among_those q.successors n.offset other.goes)
          (not_from_false (nat_eq q.offset p.offset) is)))

  pub no_meeting : (p : Node) → list_any (hands_to n.offset) l.nodes ≡ false → meets l n.offset p ≡ false → IsPredecessor l p n → IsMerge l n → ⊥
  no_meeting p none is from (of_handler b) = no_handler none b
  no_meeting p none is from (of_several q r first second apart) =
      let parts = or_parts (begins_at n.offset l.nodes) (list_any (is_second n.offset p) l.nodes) is in
      apart (is_only p parts.1 from q first ∙ sym (is_only p parts.1 from r second))
  no_meeting p none is from (of_first first q other) =
      let parts = or_parts (begins_at n.offset l.nodes) (list_any (is_second n.offset p) l.nodes) is in
      false≢true (sym parts.0 ∙ at_first_offset l.nodes n first)

  -- ---- no way leads there

  pub no_way : list_any (hands_to n.offset) l.nodes ≡ false → ((p : Node) → IsPredecessor l p n → ⊥) → IsMerge l n → ⊥
  no_way none alone (of_handler b) = no_handler none b
  no_way none alone (of_several q r first second apart) = alone q first
  no_way none alone (of_first first q other) = alone q other

  reached_first : list_any (hands_to n.offset) l.nodes ≡ false → ((p : Node) → IsPredecessor l p n → ⊥) → (offset : ℕ) → IsReachedNode l offset → n.offset ≡ offset
      → IsFirstNode l n
  reached_first none alone offset (at_first k o is e) at = is_first k is (sym (at ∙ e))
  reached_first none alone offset (from_node k o stands there goes) at =
      absurd (alone k (record { stands = stands; goes = subst (λ (j : ℕ). Contains k.successors j) (sym at) goes }))
  reached_first none alone offset (from_handler k h o stands there covers e) at =
      absurd (no_handler none (record { covered = k; stands = stands; handler = h; covers = covers; begins = sym (at ∙ e) }))

  pub begins_method : list_any (hands_to n.offset) l.nodes ≡ false → ((p : Node) → IsPredecessor l p n → ⊥) → IsFirstNode l n
  begins_method none alone =
      reached_first none alone n.offset (All-contains (λ (k : Node). IsReachedNode l k.offset) l.nodes n reached.each here) refl
