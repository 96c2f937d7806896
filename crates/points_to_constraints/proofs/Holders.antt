-- The holders of slots: where all nodes of a method are reached, each slot has one at each node, and no second one.
use Rattle.std.proofs.Common.{◌≡◌, ℕ, List, [], ◌∷◌, Some, slice_get, Contains, refl, sym, ap, ◌∙◌, subst}
use Rattle.std.specs.List.{AllZip}
use Rattle.list_laws.proofs.Members.{contains_first, contains_later}
use Rattle.list_laws.proofs.Zips.{zip_at}
use Rattle.op_model.specs.declared.lowered.LoweredMethod.{LoweredMethod}
use Rattle.op_model.specs.declared.node.Node.{Node}
use Rattle.slot_names.specs.declared.variable.Variable.TheVariants.{Parameter}
use Rattle.slot_names.specs.Variables.{keeps, moves, effect_on, IsFirstNode, IsMerge, kept, moved, first, AreReachedNodes}
use Rattle.slot_names.proofs.PlacesOfSlots.{same_node}
use Rattle.slot_names.proofs.OneVariable.{one_variable}
use Rattle.slot_names.proofs.EachVariable.{each_variable}
use Rattle.points_to_rules.specs.Facts.{Holder, variable}
use Rattle.points_to_rules.specs.Rules.{IsSlot, IsSlotAfter, IsSlotAt}
use Rattle.points_to_rules.specs.WholeMethods.{HasNodeAt}

-- ---- two lists side by side

pub zip_made : {X Y : Type 0} (R : X → Y → Type 0) (xs : List X) → ((x : X) → Contains xs x → (y : Y) × R x y) → (ys : List Y) × AllZip R xs ys
zip_made R [] each = ([], tt)
zip_made R (x ∷ xs) each =
    let y = each x (contains_first x xs) in
    let ys = zip_made R xs (λ z there. each z (contains_later x z xs there)) in
    (y.0 ∷ ys.0, (y.1, ys.1))

-- what stands beside an element
pub zip_place : {X Y : Type 0} (R : X → Y → Type 0) (xs : List X) (ys : List Y) → AllZip R xs ys → (k : ℕ) (x : X) → slice_get xs k ≡ Some x → (y : Y) × (slice_get ys k ≡ Some y) × R x y
zip_place R xs ys all k x e = zip_at R xs ys k x all e

-- ---- one holder

module _ (l : LoweredMethod) (reached : AreReachedNodes l) where
  pub same_holder : (n : Node) → Contains l.nodes n → (z : ℕ) (h g : Holder) → IsSlot l n z h → IsSlot l n z g → h ≡ g
  same_holder n here z h g a b = a.is ∙ ap variable (one_variable l n z a.name b.name reached here a.named b.named) ∙ sym b.is

  pub same_holder_at : (offset z : ℕ) (h g : Holder) → IsSlotAt l offset z h → IsSlotAt l offset z g → h ≡ g
  same_holder_at offset z h g a b =
      let same : a.node ≡ b.node = same_node l reached a.node b.node a.stands b.stands (a.at ∙ sym b.at) in
      same_holder b.node b.stands z h g (subst (λ n. IsSlot l n z h) same a.slot) b.slot

  pub holder_of : (n : Node) → Contains l.nodes n → (z : ℕ) → (h : Holder) × IsSlot l n z h
  holder_of n here z = let v = each_variable l n z reached here in (variable v.0, record { name = v.0; named = v.1; is = refl })

  pub holder_at : (offset z : ℕ) → HasNodeAt l offset → (h : Holder) × IsSlotAt l offset z h
  holder_at offset z h = let has = holder_of h.node h.stands z in (has.0, record { node = h.node; stands = h.stands; at = h.at; slot = has.1 })

  -- ---- where no ways meet, a slot has the holder that is handed on to it

  pub kept_holder : (n : Node) (z : ℕ) (from to : Holder) (after : IsSlotAfter l n z to) → (IsMerge l after.next → ⊥) → effect_on z n.op ≡ keeps → IsSlot l n z from → from ≡ to
  kept_holder n z from to after apart effect slot =
      let handed = kept after.next n z slot.name apart after.leads effect slot.named in
      same_holder after.next after.stands z from to (record { name = slot.name; named = handed; is = slot.is }) after.slot

  pub moved_holder : (n : Node) (y z : ℕ) (from to : Holder) (after : IsSlotAfter l n z to) → (IsMerge l after.next → ⊥) → effect_on z n.op ≡ moves y → IsSlot l n y from → from ≡ to
  moved_holder n y z from to after apart effect slot =
      let handed = moved after.next n z y slot.name apart after.leads effect slot.named in
      same_holder after.next after.stands z from to (record { name = slot.name; named = handed; is = slot.is }) after.slot

  pub entered_holder : (n : Node) → Contains l.nodes n → (z : ℕ) (to : Holder) → (IsMerge l n → ⊥) → IsFirstNode l n → IsSlot l n z to → variable (Parameter l.method z) ≡ to
  entered_holder n here z to apart is slot =
      same_holder n here z (variable (Parameter l.method z)) to (record { name = Parameter l.method z; named = first n z (Parameter l.method z) apart is refl; is = refl }) slot
