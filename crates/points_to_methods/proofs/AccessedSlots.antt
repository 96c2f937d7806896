-- What is made of slots: of those of a node, and of those at its successors.
use Rattle.std.proofs.Common.{◌≡◌, ◌↔◌, ℕ, Some, refl, sym, ◌∙◌, ap, subst}
use Rattle.std.specs.List.{slice_get, Contains}
use Rattle.jvm_model.specs.Programs.{Program}
use Rattle.op_model.specs.declared.lowered.LoweredMethod.{LoweredMethod}
use Rattle.op_model.specs.declared.node.Node.{Node}
use Rattle.points_to_constraints.specs.Items.{Item, Constraint, constrained}
use Rattle.points_to_constraints.specs.NodeItems.{ReadsItem}
use Rattle.points_to_methods.specs.Known.{IsNamedMethod}
use Rattle.points_to_methods.specs.Slots.{slot_holder, MadeAt}
use Rattle.points_to_rules.specs.Facts.{Holder}
use Rattle.points_to_rules.specs.Rules.{IsSlot, IsSlotAfter}
use Rattle.slot_names.specs.NodePlaces.{StandsAt}
use Rattle.slot_names.specs.Tables.{NameTable}
use Rattle.slot_names.proofs.FoundPlaces.{one_place}
use Rattle.slot_names.proofs.ListPlaces.{contains_at, place_in}
use Rattle.points_to_methods.proofs.NamedSlots.{in_order, slot_has, slot_is}

module _ (p : Program) (l : LoweredMethod) (names : NameTable) (known : IsNamedMethod p l names) where
  -- of the one node that stands at an offset
  pub made_at : (make : Holder → Item) (z offset there : ℕ) (h : Holder) → StandsAt l offset there → h ≡ slot_holder names there z → (x : Item) → (x ≡ make h) ↔ MadeAt l names make z offset x
  made_at make z offset there h stands is x = (
    (λ e. (there, stands, e ∙ ap make is)),
    (λ (next, other, e). e ∙ ap (λ (k : ℕ). make (slot_holder names k z)) (one_place l offset next there (in_order p l names known) other stands) ∙ sym (ap make is)),
  )

  module _ (node : ℕ) (n : Node) (at : slice_get l.nodes node ≡ Some n) where
    -- of a slot at the successors
    pub made_after : (make : Holder → Item) (z : ℕ) (x : Item) → ((offset : ℕ) × Contains n.successors offset × MadeAt l names make z offset x) ↔ ((to : Holder) × IsSlotAfter l n z to × (x ≡ make to))
    made_after make z x = (
      (λ (offset, goes, (next, stands, e)). (
        slot_holder names next z,
        record {
          next = stands.node;
          stands = contains_at l.nodes next stands.node stands.stands;
          leads = record { stands = contains_at l.nodes node n at; goes = subst (λ (o : ℕ). Contains n.successors o) (sym stands.is) goes };
          slot = slot_has p l names known next stands.node stands.stands z;
        },
        e,
      )),
      (λ (to, after, e).
          let (next, there) = place_in l.nodes after.next after.stands in
          let same = slot_is p l names known next after.next there z to after.slot in
          (after.next.offset, after.leads.goes, (next, record { node = after.next; stands = there; is = refl }, e ∙ ap make same))),
    )

    -- of one slot of the node, and of two
    pub made_here : (make : Holder → Item) (z : ℕ) (h : Holder) → h ≡ slot_holder names node z → (x : Item) → (x ≡ make h) ↔ ((from : Holder) × IsSlot l n z from × (x ≡ make from))
    made_here make z h is x = (
      (λ e. (slot_holder names node z, slot_has p l names known node n at z, e ∙ ap make is)),
      (λ (from, slot, e). e ∙ ap make (slot_is p l names known node n at z from slot ∙ sym is)),
    )

    pub made_of_two : (make : Holder → Holder → Item) (y z : ℕ) (g h : Holder) → g ≡ slot_holder names node y → h ≡ slot_holder names node z → (x : Item)
        → (x ≡ make g h) ↔ ((into from : Holder) × IsSlot l n y into × IsSlot l n z from × (x ≡ make into from))
    made_of_two make y z g h is_g is_h x = (
      (λ e. (
        slot_holder names node y,
        slot_holder names node z,
        slot_has p l names known node n at y,
        slot_has p l names known node n at z,
        e ∙ ap (λ (k : Holder). make k h) is_g ∙ ap (make (slot_holder names node y)) is_h,
      )),
      (λ (into, from, slot, value, e).
          e ∙ ap (λ (k : Holder). make k from) (slot_is p l names known node n at y into slot ∙ sym is_g) ∙ ap (make g) (slot_is p l names known node n at z from value ∙ sym is_h)),
    )

    -- of one slot of the node, for another one at the successors
    pub read_after : (constraint : Holder → Constraint) (y z : ℕ) (h : Holder) → h ≡ slot_holder names node y → (x : Item)
        → ((to : Holder) × IsSlotAfter l n z to × (x ≡ constrained h (constraint to))) ↔ ReadsItem l n y z constraint x
    read_after constraint y z h is x = (
      (λ (to, after, e). (slot_holder names node y, to, slot_has p l names known node n at y, after, e ∙ ap (λ (k : Holder). constrained k (constraint to)) is)),
      (λ (from, to, slot, after, e). (to, after, e ∙ ap (λ (k : Holder). constrained k (constraint to)) (slot_is p l names known node n at y from slot ∙ sym is))),
    )
