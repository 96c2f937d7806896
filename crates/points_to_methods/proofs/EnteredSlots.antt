-- What enters at a node, what its handlers get, and what flows from it, by the names of its slots.
use Rattle.std.proofs.Common.{◌≡◌, ◌↔◌, ℕ, ◌+◌, ◌<◌, false, IsTrue, Some, refl, sym, ◌∙◌, ap, subst}
use Rattle.std.specs.List.{slice_get, Contains}
use Rattle.jvm_model.specs.declared.number.MethodNo.{MethodNo}
use Rattle.jvm_model.specs.Programs.{Program}
use Rattle.op_model.specs.declared.lowered.LoweredMethod.{LoweredMethod}
use Rattle.op_model.specs.declared.node.Node.{Node}
use Rattle.op_model.specs.declared.node.NodeHandler.{NodeHandler}
use Rattle.op_model.specs.declared.op.Op.{Op}
use Rattle.points_to_constraints.specs.Items.{Item, copy_to, constrained}
use Rattle.points_to_constraints.specs.NodeItems.{EnterItem, HandleItem, FlowItem, keep, move, IsSlotMerged}
use Rattle.points_to_methods.specs.Known.{IsNamedMethod}
use Rattle.points_to_methods.specs.Slots.{slot_holder, HandsTo, EntersSlot, FlowsTo, PassesBy, PassesSlot}
use Rattle.points_to_rules.specs.Facts.{Holder, variable}
use Rattle.slot_names.specs.declared.variable.Variable.TheVariants.{Parameter}
use Rattle.slot_names.specs.NodePlaces.{StandsAt}
use Rattle.slot_names.specs.Tables.{NameTable}
use Rattle.slot_names.specs.Variables.{Effect, effect_on, keeps, moves, writes}
use Rattle.slot_names.proofs.FoundPlaces.{one_place}
use Rattle.slot_names.proofs.ListPlaces.{contains_at, place_in}
use Rattle.points_to_methods.proofs.NamedSlots.{in_order, slot_has, slot_is, there_has, there_is}

module _ (p : Program) (l : LoweredMethod) (names : NameTable) (known : IsNamedMethod p l names) where
  -- ---- what enters

  pub entered : (m : MethodNo) (n : Node) → slice_get l.nodes 0 ≡ Some n → IsTrue (names.merges 0)
      → (x : Item) → ((z : ℕ) × (z < l.slots + l.stack) × EntersSlot names m z x) ↔ EnterItem m l n x
  entered m n at merges x = (
    (λ (z, inside, is). record {
      z = z;
      inside = inside;
      first = at;
      merge = (known.are_names.merges 0 n at).0 merges;
      to = slot_holder names 0 z;
      slot = slot_has p l names known 0 n at z;
      is = is;
    }),
    (λ e. (e.z, e.inside, e.is ∙ ap (λ (h : Holder). constrained (variable (Parameter m e.z)) (copy_to h)) (slot_is p l names known 0 n at e.z e.to e.slot))),
  )

  pub not_first : (m : MethodNo) (node : ℕ) (n : Node) (x : Item) → slice_get l.nodes node ≡ Some n → (node ≡ 0 → ⊥) → EnterItem m l n x → ⊥
  not_first m node n x at apart e =
      apart (one_place l n.offset node 0 (in_order p l names known) (record { node = n; stands = at; is = refl }) (record { node = n; stands = e.first; is = refl }))

  pub not_merging : (m : MethodNo) (n : Node) (x : Item) → slice_get l.nodes 0 ≡ Some n → names.merges 0 ≡ false → EnterItem m l n x → ⊥
  not_merging m n x at apart e = let is = (known.are_names.merges 0 n at).1 e.merge in absurd cc

  -- ---- one node stands at an offset

  abbrev pub HandsFrom : (node next : ℕ) → Item → Type 0
  HandsFrom node next x = (z : ℕ) × (z < l.slots) × PassesSlot names node z next z x

  pub handed_at : (node offset next there : ℕ) → StandsAt l offset next → StandsAt l offset there → (x : Item) → HandsFrom node next x → HandsFrom node there x
  handed_at node offset next there stands other x hands = subst (λ (k : ℕ). HandsFrom node k x) (one_place l offset next there (in_order p l names known) stands other) hands

  abbrev pub FlowsFrom : Op → (node next : ℕ) → Item → Type 0
  FlowsFrom op node next x = (z : ℕ) × (z < l.slots + l.stack) × PassesBy names node next z (effect_on z op) x

  pub flown_at : (op : Op) (node offset next there : ℕ) → StandsAt l offset next → StandsAt l offset there → (x : Item) → FlowsFrom op node next x → FlowsFrom op node there x
  flown_at op node offset next there stands other x flows = subst (λ (k : ℕ). FlowsFrom op node k x) (one_place l offset next there (in_order p l names known) stands other) flows

  pub not_merged : (offset next there : ℕ) → StandsAt l offset next → StandsAt l offset there → names.merges there ≡ false → IsTrue (names.merges next) → ⊥
  not_merged offset next there stands other apart merges =
      let same = one_place l offset next there (in_order p l names known) stands other in
      let at_next = ap names.merges same in
      absurd cc

  module _ (node : ℕ) (n : Node) (at : slice_get l.nodes node ≡ Some n) where
    -- ---- what handlers get

    pub handled : (x : Item) → ((handler : NodeHandler) × Contains n.handlers handler × HandsTo l names node handler.target x) ↔ HandleItem l n x
    handled x = (
      (λ (handler, covers, (next, stands, (z, inside, is))). record {
        handler = handler;
        covers = covers;
        z = z;
        is_local = inside;
        from = slot_holder names node z;
        slot = slot_has p l names known node n at z;
        to = slot_holder names next z;
        slot_there = there_has p l names known handler.target next stands z;
        is = is;
      }),
      (λ h.
          let (next, stands, same) = there_is p l names known h.handler.target h.z h.to h.slot_there in
          let own = slot_is p l names known node n at h.z h.from h.slot in
          (h.handler, h.covers, (next, stands, (h.z, h.is_local, passed h.from (slot_holder names node h.z) h.to (slot_holder names next h.z) x own same h.is)))),
    )
      where
        passed : (h i g k : Holder) (x : Item) → h ≡ i → g ≡ k → x ≡ constrained h (copy_to g) → x ≡ constrained i (copy_to k)
        passed h i g k x same other is = cc

    -- ---- what flows

    merged_there : (offset next z : ℕ) → Contains n.successors offset → StandsAt l offset next → IsTrue (names.merges next) → IsSlotMerged l n z (slot_holder names next z)
    merged_there offset next z goes stands merges = record {
      next = stands.node;
      stands = contains_at l.nodes next stands.node stands.stands;
      leads = record { stands = contains_at l.nodes node n at; goes = subst (λ (o : ℕ). Contains n.successors o) (sym stands.is) goes };
      merge = (known.are_names.merges next stands.node stands.stands).0 merges;
      slot = slot_has p l names known next stands.node stands.stands z;
    }

    flowing : (offset next z : ℕ) (x : Item) → Contains n.successors offset → StandsAt l offset next → IsTrue (names.merges next) → z < l.slots + l.stack
        → (e : Effect) → effect_on z n.op ≡ e → PassesBy names node next z e x → FlowItem l n x
    flowing offset next z x goes stands merges inside keeps e is =
        keep z (slot_holder names node z) (slot_holder names next z) inside e (slot_has p l names known node n at z) (merged_there offset next z goes stands merges) is
    flowing offset next z x goes stands merges inside (moves y) e is =
        move y z (slot_holder names node y) (slot_holder names next z) inside e (slot_has p l names known node n at y) (merged_there offset next z goes stands merges) is
    flowing offset next z x goes stands merges inside writes e is = absurd is

    -- where a merge point stands, and what its slot holds
    record Meets (z : ℕ) (h : Holder) : Type 0 where
      offset : ℕ
      goes : Contains n.successors offset
      next : ℕ
      stands : StandsAt l offset next
      merges : IsTrue (names.merges next)
      same : h ≡ slot_holder names next z

    meets : (z : ℕ) (h : Holder) → IsSlotMerged l n z h → Meets z h
    meets z h m =
        let (next, there) = place_in l.nodes m.next m.stands in
        record {
          offset = m.next.offset;
          goes = m.leads.goes;
          next = next;
          stands = record { node = m.next; stands = there; is = refl };
          merges = (known.are_names.merges next m.next there).1 m.merge;
          same = slot_is p l names known next m.next there z h m.slot;
        }

    abbrev pub Flows : Item → Type 0
    Flows x = (offset : ℕ) × Contains n.successors offset × FlowsTo l names n.op node offset x

    flown : (y z : ℕ) (from to : Holder) (x : Item) (e : Effect) → z < l.slots + l.stack → effect_on z n.op ≡ e → ((next : ℕ) → x ≡ constrained (slot_holder names node y) (copy_to (slot_holder names next z)) → PassesBy names node next z e x)
        → from ≡ slot_holder names node y → IsSlotMerged l n z to → x ≡ constrained from (copy_to to) → Flows x
    flown y z from to x e inside is passes same merged item =
        let m = meets z to merged in
        let there = m.same in
        let now : x ≡ constrained (slot_holder names node y) (copy_to (slot_holder names m.next z)) = cc in
        (m.offset, m.goes, (m.next, m.stands, m.merges, (z, inside, subst (λ (d : Effect). PassesBy names node m.next z d x) (sym is) (passes m.next now))))

    flows_back : (x : Item) → FlowItem l n x → Flows x
    flows_back x (keep z from to inside is slot merged item) = flown z z from to x keeps inside is (λ next e. e) (slot_is p l names known node n at z from slot) merged item
    flows_back x (move y z from to inside is slot merged item) = flown y z from to x (moves y) inside is (λ next e. e) (slot_is p l names known node n at y from slot) merged item

    pub flowed : (x : Item) → ((offset : ℕ) × Contains n.successors offset × FlowsTo l names n.op node offset x) ↔ FlowItem l n x
    flowed x = (
      (λ (offset, goes, (next, stands, merges, (z, inside, passes))). flowing offset next z x goes stands merges inside (effect_on z n.op) refl passes),
      (λ f. flows_back x f),
    )
