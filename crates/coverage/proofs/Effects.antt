-- What an operation does to a slot, and how the slot reads after it.
use Rattle.std.proofs.Common.{◌≡◌, ◌⊎◌, inl, inr, ℕ, Bool, true, false, cond, List, [], ◌∷◌, ◌++◌, Option, Some, None, nat_eq, ◌||◌, Contains, find, option_to_list, flat_map, refl, sym, ap, ◌∙◌, subst}
use Rattle.std.specs.List.{list_any}
use Rattle.std.proofs.lemmas.Bool.{cases_Bool, eq-eqb, eqb-true}
use Rattle.std.proofs.lemmas.List.Elements.{Contains-append_left, Contains-append_right, Contains-append_cases}
use Rattle.list_laws.proofs.Members.{contains_cases, contains_first, contains_later, contains_none}
use Rattle.list_laws.proofs.Tests.{IsFound, found, not_found}
use Rattle.op_model.specs.declared.op.Move.{Move}
use Rattle.op_model.specs.declared.op.Op.TheVariants.{Assign}
use Rattle.op_model.specs.declared.op.Source.{Source}
use Rattle.op_model.specs.declared.op.Source.TheVariants.{Slot, Null, Primitive}
use Rattle.machine_bytecode.specs.States.{Value, primitive_value, null_value, slot_at}
use Rattle.machine_nodes.specs.Slots.{source_value, AreMoved}
use Rattle.slot_names.specs.Variables.{keeps, moves, writes, effect_on, effect_of_move}
use Rattle.slot_names.proofs.Effects.{effect_of_writes, is_to}
use Rattle.points_to_rules.specs.ReadSlots.{source_slots, read_slots}

-- ---- operations that write some slots

none_taken : (z : ℕ) (slots : List ℕ) → (Contains slots z → ⊥) → list_any (λ (y : ℕ). nat_eq y z) slots ≡ false
none_taken z [] free = refl
none_taken z (y ∷ slots) free = by (none_taken z slots (λ there. free (contains_later y z slots there))) (cases_Bool (nat_eq y z))
  where
    by : list_any (λ (x : ℕ). nat_eq x z) slots ≡ false → (nat_eq y z ≡ true) ⊎ (nat_eq y z ≡ false) → (nat_eq y z || list_any (λ (x : ℕ). nat_eq x z) slots) ≡ false
    by rest (inl is) = absurd (free (subst (λ (x : ℕ). Contains (y ∷ slots) x) (eqb-true y z is) (contains_first y slots)))
    by rest (inr is) = rw (is, rest) refl

pub no_write : (z : ℕ) (slots : List ℕ) → (Contains slots z → ⊥) → effect_of_writes z slots ≡ keeps
no_write z slots free = ap (λ (b : Bool). cond b writes keeps) (none_taken z slots free)

target_there : (target : Option ℕ) (z : ℕ) → Contains (option_to_list target) z → target ≡ Some z
target_there None z there = absurd (contains_none z there)
target_there (Some y) z there = elim (contains_cases y z [] there) [ inl e ↦ ap Some e | inr later ↦ absurd (contains_none z later) ]

-- a slot that is no operand and not the target
pub kept_after : (operands : List ℕ) (target : Option ℕ) (z : ℕ) → (Contains operands z → ⊥) → (target ≡ Some z → ⊥) → effect_of_writes z (operands ++ option_to_list target) ≡ keeps
kept_after operands target z free other =
    no_write z (operands ++ option_to_list target)
    (λ there. elim (Contains-append_cases operands (option_to_list target) z there) [ inl e ↦ free e | inr e ↦ other (target_there target z e) ])

pub kept_before : (operands : List ℕ) (target : Option ℕ) (z : ℕ) → (Contains operands z → ⊥) → (target ≡ Some z → ⊥) → effect_of_writes z (option_to_list target ++ operands) ≡ keeps
kept_before operands target z free other =
    no_write z (option_to_list target ++ operands)
    (λ there. elim (Contains-append_cases (option_to_list target) operands z there) [ inl e ↦ other (target_there target z e) | inr e ↦ free e ])

-- ---- moves

-- what a slot is after moves: as it was, as another one was, or no reference
pub data IsMovedSlot (changes : List Move) (before after : List Value) (z : ℕ) : Type 0 where
  as_before : effect_on z (Assign changes) ≡ keeps → slot_at after z ≡ slot_at before z → IsMovedSlot changes before after z
  as_source : (y : ℕ) → effect_on z (Assign changes) ≡ moves y → Contains (read_slots (Assign changes)) y → slot_at after z ≡ slot_at before y → IsMovedSlot changes before after z
  as_null : slot_at after z ≡ null_value → IsMovedSlot changes before after z
  as_primitive : slot_at after z ≡ primitive_value → IsMovedSlot changes before after z

-- the source of a move is read
source_there : (changes : List Move) (m : Move) (y : ℕ) → Contains changes m → Contains (source_slots m.source) y → Contains (flat_map (λ (k : Move). source_slots k.source) changes) y
source_there [] m y there of = absurd (contains_none m there)
source_there (k ∷ changes) m y there of = by (source_there changes m y) (contains_cases k m changes there)
  where
    by : (Contains changes m → Contains (source_slots m.source) y → Contains (flat_map (λ (j : Move). source_slots j.source) changes) y) → (k ≡ m) ⊎ Contains changes m
        → Contains (source_slots k.source ++ flat_map (λ (j : Move). source_slots j.source) changes) y
    by rest (inl e) =
        Contains-append_left (source_slots k.source) (flat_map (λ (j : Move). source_slots j.source) changes) y
        (subst (λ (j : Move). Contains (source_slots j.source) y) (sym e) of)
    by rest (inr later) = Contains-append_right (source_slots k.source) (flat_map (λ (j : Move). source_slots j.source) changes) y (rest later of)

pub moved_slot : (changes : List Move) (before after : List Value) (z : ℕ) → AreMoved changes before after → IsMovedSlot changes before after z
moved_slot changes before after z are = by (find (is_to z) changes) refl
  where
    by : (o : Option Move) → find (is_to z) changes ≡ o → IsMovedSlot changes before after z
    by None e = as_before (ap effect_of_move e) (are.kept z (λ m there to. not_found (is_to z) changes e m there (eq-eqb m.target z to)))
    by (Some m) e = of m.source refl
      where
        at : IsFound (is_to z) changes m
        at = found (is_to z) changes m e

        here : slot_at after z ≡ source_value m.source before
        here = ap (slot_at after) (sym (eqb-true m.target z at.taken)) ∙ are.moved m at.there

        effect : effect_on z (Assign changes) ≡ effect_of_move (Some m)
        effect = ap effect_of_move e

        of : (s : Source) → m.source ≡ s → IsMovedSlot changes before after z
        of (Slot y) from =
            let reads : Contains (source_slots m.source) y = subst (λ (s : Source). Contains (source_slots s) y) (sym from) (contains_first y []) in
            as_source y (effect ∙ ap (λ (s : Source). effect_of_move (Some (record { source = s; target = m.target }))) from)
            (source_there changes m y at.there reads) (here ∙ ap (λ (s : Source). source_value s before) from)
        of Null from = as_null (here ∙ ap (λ (s : Source). source_value s before) from)
        of Primitive from = as_primitive (here ∙ ap (λ (s : Source). source_value s before) from)
