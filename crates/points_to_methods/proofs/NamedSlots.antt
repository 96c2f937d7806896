-- The slots of a method by its names: at the node of a place a slot has the name that the table has, and no other.
use Rattle.std.proofs.Common.{◌≡◌, ℕ, ◌<◌, List, length, get_or, Some, refl, sym, ◌∙◌, ap}
use Rattle.std.specs.List.{slice_get}
use Rattle.std.proofs.lemmas.Option.{slice_get_read, same_Some}
use Rattle.jvm_model.specs.Programs.{Program}
use Rattle.op_model.specs.declared.lowered.LoweredMethod.{LoweredMethod}
use Rattle.op_model.specs.declared.node.Node.{Node}
use Rattle.points_to_methods.specs.Known.{IsNamedMethod}
use Rattle.points_to_methods.specs.Slots.{slot_holder}
use Rattle.points_to_rules.specs.Facts.{Holder, variable}
use Rattle.points_to_rules.specs.Rules.{IsSlot, IsSlotAt}
use Rattle.slot_names.specs.NodePlaces.{AreInOrder, StandsAt}
use Rattle.slot_names.specs.Tables.{NameTable}
use Rattle.slot_names.specs.Variables.{AreReachedNodes}
use Rattle.slot_names.proofs.ListPlaces.{contains_at, place_in}
use Rattle.slot_names.proofs.OneVariable.{one_variable}

-- the node that is read at a place is the one that stands there
pub read_node : (nodes list : List Node) (place : ℕ) (n m : Node) → list ≡ nodes → place < length nodes → m ≡ get_or list place m → slice_get nodes place ≡ Some n → m ≡ n
read_node nodes list place n m same within is at =
    same_Some m n (sym (slice_get_read list (length nodes) place m (sym (ap (length {A = Node}) same)) within is) ∙ ap (λ (ns : List Node). slice_get ns place) same ∙ at)

module _ (p : Program) (l : LoweredMethod) (names : NameTable) (known : IsNamedMethod p l names) where
  pub reached : AreReachedNodes l
  reached = known.in_program.reached

  pub in_order : AreInOrder l
  in_order = record { ascend = known.in_program.reached.ascend }

  module _ (node : ℕ) (n : Node) (at : slice_get l.nodes node ≡ Some n) where
    pub slot_has : (z : ℕ) → IsSlot l n z (slot_holder names node z)
    slot_has z = record { name = names.variable node z; named = known.are_names.each node z n at; is = refl }

    pub slot_is : (z : ℕ) (h : Holder) → IsSlot l n z h → h ≡ slot_holder names node z
    slot_is z h slot =
        slot.is ∙ ap variable (one_variable l n z slot.name (names.variable node z) known.in_program.reached (contains_at l.nodes node n at) slot.named (known.are_names.each node z n at))

  -- the slots at an offset, by the place of its node
  pub there_has : (offset next : ℕ) → StandsAt l offset next → (z : ℕ) → IsSlotAt l offset z (slot_holder names next z)
  there_has offset next stands z = record {
    node = stands.node;
    stands = contains_at l.nodes next stands.node stands.stands;
    at = stands.is;
    slot = slot_has next stands.node stands.stands z;
  }

  pub there_is : (offset z : ℕ) (h : Holder) → IsSlotAt l offset z h → (next : ℕ) × StandsAt l offset next × (h ≡ slot_holder names next z)
  there_is offset z h slot =
      let (next, there) = place_in l.nodes slot.node slot.stands in
      (next, record { node = slot.node; stands = there; is = slot.at }, slot_is next slot.node there z h slot.slot)
