-- The slots of a frame after a node: what was covered there is covered at the nodes to which it leads.
use Rattle.std.proofs.Common.{◌≡◌, ◌⊎◌, inl, inr, ℕ, ◌+◌, ◌<◌, List, [], ◌∷◌, ◌++◌, Option, Some, None, Contains, refl, sym, ap, ◌∙◌, subst}
use Rattle.std.proofs.lemmas.Option.{same_Some, none-some}
use Rattle.list_laws.proofs.Members.{contained_or_not}
use Rattle.jvm_model.specs.declared.number.MethodNo.{MethodNo}
use Rattle.least_sets.specs.Rules.{IsClosedSet}
use Rattle.op_model.specs.declared.lowered.LoweredMethod.{LoweredMethod}
use Rattle.op_model.specs.declared.node.Node.{Node}
use Rattle.op_model.specs.declared.op.Move.{Move}
use Rattle.op_model.specs.declared.op.Op.{Op}
use Rattle.op_model.specs.declared.op.Op.TheVariants.{Assign}
use Rattle.op_model.specs.Supplies.{GivenAs}
use Rattle.machine_bytecode.specs.Objects.{Subject}
use Rattle.machine_bytecode.specs.States.{Value, primitive_value, null_value, Object, slot_at}
use Rattle.machine_nodes.specs.Slots.{AreMoved, AreLeft}
use Rattle.slot_names.specs.declared.variable.Variable.{Variable}
use Rattle.slot_names.specs.Variables.{keeps, moves, effect_on, IsPredecessor, IsVariable}
use Rattle.slot_names.proofs.EachVariable.{each_variable}
use Rattle.points_to_rules.specs.Facts.{Holder, variable, Fact, may_run}
use Rattle.points_to_rules.specs.Rules.{IsNodeOf, IsSlot, IsSlotAfter, Instance, keep, move}
use Rattle.points_to_rules.specs.WholeMethods.{AreWholeMethods}
use Rattle.points_to_rules.specs.ReadSlots.{read_slots}
use Rattle.coverage.specs.References.{IsCovered}
use Rattle.coverage.specs.Covering.{MayHold}
use Rattle.coverage.proofs.Lists.{some_or_not}
use Rattle.coverage.proofs.Values.{Grows, covered_on, covered_by, covered_as}
use Rattle.slot_names.proofs.Effects.{effect_of_writes}
use Rattle.coverage.proofs.Effects.{kept_after, IsMovedSlot, as_before, as_source, as_null, as_primitive, moved_slot}

-- each slot of a method is covered by its variable at a node
abbrev pub AreSlotsCovered : (Fact → Type 0) → LoweredMethod → Node → List Object → List Value → Type 0
AreSlotsCovered S l n heap slots = (z : ℕ) (v : Variable) → z < l.slots + l.stack → IsVariable l n z v → IsCovered (MayHold S (variable v)) heap (slot_at slots z)

-- a slot that is read is covered by its holder
pub record IsOperand (S : Fact → Type 0) (l : LoweredMethod) (n : Node) (z : ℕ) (heap : List Object) (v : Value) : Type 0 where
  pub holder : Holder
  pub slot : IsSlot l n z holder
  pub covered : IsCovered (MayHold S holder) heap v

-- a node to which another one leads
pub record IsNext (l : LoweredMethod) (n k : Node) : Type 0 where
  pub stands : Contains l.nodes k
  pub leads : IsPredecessor l n k

pub slot_after : (l : LoweredMethod) (n k : Node) (z : ℕ) (v : Variable) → IsNext l n k → IsVariable l k z v → IsSlotAfter l n z (variable v)
slot_after l n k z v next named = record { next = k; stands = next.stands; leads = next.leads; slot = record { name = v; named = named; is = refl } }

module _ (x : Subject) (gives : GivenAs) (S : Fact → Type 0) (closed : IsClosedSet (Instance x.program gives (record { 0 = x.entry })) S) (whole : AreWholeMethods x.program gives) where
  pub named : (m : MethodNo) (l : LoweredMethod) (n : Node) (z : ℕ) → IsNodeOf gives m l n → (v : Variable) × IsVariable l n z v
  named m l n z is = each_variable l n z (whole m.0 l is.given).reached is.stands

  pub operand : (m : MethodNo) (l : LoweredMethod) (n : Node) (z : ℕ) (heap : List Object) (slots : List Value) → IsNodeOf gives m l n → Contains (read_slots n.op) z
      → AreSlotsCovered S l n heap slots → IsOperand S l n z heap (slot_at slots z)
  operand m l n z heap slots is reads before =
      let v = named m l n z is in
      record {
        holder = variable v.0;
        slot = record { name = v.0; named = v.1; is = refl };
        covered = before z v.0 ((whole m.0 l is.given).reads n z is.stands reads) v.1;
      }

  -- the same by the node's operation
  pub operand_of : (m : MethodNo) (l : LoweredMethod) (n : Node) (op : Op) (z : ℕ) (heap : List Object) (slots : List Value) → IsNodeOf gives m l n → n.op ≡ op → Contains (read_slots op) z
      → AreSlotsCovered S l n heap slots → IsOperand S l n z heap (slot_at slots z)
  operand_of m l n op z heap slots is is_op reads before =
      operand m l n z heap slots is (subst (λ (o : Op). Contains (read_slots o) z) (sym is_op) reads) before

  module _ (m : MethodNo) (l : LoweredMethod) (n k : Node) (is : IsNodeOf gives m l n) (runs : S (may_run m)) (next : IsNext l n k) where
    -- a slot that is kept
    pub kept_slot : (z : ℕ) (v : Variable) (heap : List Object) (slots : List Value) → z < l.slots + l.stack → effect_on z n.op ≡ keeps → IsVariable l k z v → AreSlotsCovered S l n heap slots
        → IsCovered (MayHold S (variable v)) heap (slot_at slots z)
    kept_slot z v heap slots inside effect after before =
        let w = named m l n z is in
        covered_by (MayHold S (variable w.0)) (MayHold S (variable v)) heap (slot_at slots z)
        (λ s held. closed _ _ (keep m l n z (variable w.0) (variable v) s is inside effect (record { name = w.0; named = w.1; is = refl }) (slot_after l n k z v next after)) (runs, (held, tt)))
        (before z w.0 inside w.1)

    -- a slot that another one is moved into
    pub source_slot : (y z : ℕ) (v : Variable) (heap : List Object) (slots : List Value) → z < l.slots + l.stack → effect_on z n.op ≡ moves y → Contains (read_slots n.op) y → IsVariable l k z v
        → AreSlotsCovered S l n heap slots → IsCovered (MayHold S (variable v)) heap (slot_at slots y)
    source_slot y z v heap slots inside effect reads after before =
        let o = operand m l n y heap slots is reads before in
        covered_by (MayHold S o.holder) (MayHold S (variable v)) heap (slot_at slots y)
        (λ s held. closed _ _ (move m l n y z o.holder (variable v) s is inside effect o.slot (slot_after l n k z v next after)) (runs, (held, tt))) o.covered

    pub moved_slots : (changes : List Move) (heap : List Object) (old new : List Value) → n.op ≡ Assign changes → AreMoved changes old new → AreSlotsCovered S l n heap old → AreSlotsCovered S l k heap new
    moved_slots changes heap old new is_op are before z v inside after = by (moved_slot changes old new z are)
      where
        by : IsMovedSlot changes old new z → IsCovered (MayHold S (variable v)) heap (slot_at new z)
        by (as_before effect e) = covered_as (MayHold S (variable v)) heap (slot_at old z) _ e (kept_slot z v heap old inside (ap (effect_on z) is_op ∙ effect) after before)
        by (as_source y effect reads e) =
            covered_as (MayHold S (variable v)) heap (slot_at old y) _ e
            (source_slot y z v heap old inside (ap (effect_on z) is_op ∙ effect) (subst (λ (o : Op). Contains (read_slots o) y) (sym is_op) reads) after before)
        by (as_null e) = covered_as (MayHold S (variable v)) heap null_value _ e tt
        by (as_primitive e) = covered_as (MayHold S (variable v)) heap primitive_value _ e tt

    -- an operation that is no assignment: its target gets the value, and its other operands are left as primitives
    pub left_slots : (operands : List ℕ) (target : Option ℕ) (value : Value) (old new : List Value) (heap later : List Object) → AreLeft operands target value old new
        → ((z : ℕ) → (Contains operands z → ⊥) → (target ≡ Some z → ⊥) → effect_on z n.op ≡ keeps) → Grows heap later
        → ((z : ℕ) (to : Holder) → target ≡ Some z → IsSlotAfter l n z to → IsCovered (MayHold S to) later value) → AreSlotsCovered S l n heap old → AreSlotsCovered S l k later new
    left_slots operands target value old new heap later left effect grows gets before z v inside after = by (some_or_not target z) (contained_or_not operands z)
      where
        by : (target ≡ Some z) ⊎ (target ≡ Some z → ⊥) → Contains operands z ⊎ (Contains operands z → ⊥) → IsCovered (MayHold S (variable v)) later (slot_at new z)
        by (inl e) there = covered_as (MayHold S (variable v)) later value _ (left.given z e) (gets z (variable v) e (slot_after l n k z v next after))
        by (inr other) (inl there) = covered_as (MayHold S (variable v)) later primitive_value _ (left.cleared z there other) tt
        by (inr other) (inr free) =
            covered_as (MayHold S (variable v)) later (slot_at old z) _ (left.kept z free other)
            (covered_on (MayHold S (variable v)) heap later (slot_at old z) grows (kept_slot z v heap old inside (effect z free other) after before))

    -- what an operation is given by its written slots
    pub gets_slots : (op : Op) (operands : List ℕ) (target : ℕ) (value : Value) (old new : List Value) (heap later : List Object) → n.op ≡ op
        → ((z : ℕ) → effect_on z op ≡ effect_of_writes z (operands ++ target ∷ [])) → AreLeft operands (Some target) value old new → Grows heap later
        → ((to : Holder) → IsSlotAfter l n target to → IsCovered (MayHold S to) later value) → AreSlotsCovered S l n heap old → AreSlotsCovered S l k later new
    gets_slots op operands target value old new heap later is_op shape left grows gets before =
        left_slots operands (Some target) value old new heap later left
        (λ z free other. ap (effect_on z) is_op ∙ shape z ∙ kept_after operands (Some target) z free other) grows
        (λ z to e after. gets to (subst (λ (y : ℕ). IsSlotAfter l n y to) (sym (same_Some target z e)) after)) before

    pub puts_slots : (op : Op) (operands : List ℕ) (old new : List Value) (heap later : List Object) → n.op ≡ op
        → ((z : ℕ) → effect_on z op ≡ effect_of_writes z (operands ++ [])) → AreLeft operands None primitive_value old new → Grows heap later → AreSlotsCovered S l n heap old
        → AreSlotsCovered S l k later new
    puts_slots op operands old new heap later is_op shape left grows before =
        left_slots operands None primitive_value old new heap later left
        (λ z free other. ap (effect_on z) is_op ∙ shape z ∙ kept_after operands None z free other) grows
        (λ z to e after. absurd (none-some z e)) before
