-- The slots whose values an operation hands on: those that it keeps, and the sources of its moves.
use Rattle.std.proofs.Common.{◌≡◌, ◌⊎◌, inl, inr, ℕ, Bool, true, false, cond, List, [], ◌∷◌, ◌++◌, Option, Some, None, nat_eq, if◌then◌else◌, Contains, find, option_to_list, refl, sym, ap, ◌∙◌, subst}
use Rattle.std.specs.List.{list_any}
use Rattle.std.proofs.lemmas.Bool.{cases_Bool, eq-eqb, eqb-true, or_parts, false≢true}
use Rattle.std.proofs.lemmas.List.Elements.{Contains-append_left, Contains-append_right}
use Rattle.std.proofs.lemmas.Option.{same_Some, none-some}
use Rattle.list_laws.proofs.Members.{contains_cases, contains_first, contains_none}
use Rattle.list_laws.proofs.Tests.{found, not_found}
use Rattle.op_model.specs.declared.op.Move.{Move}
use Rattle.op_model.specs.declared.op.Source.{Source}
use Rattle.op_model.specs.declared.op.Source.TheVariants.{Slot, Null, Primitive}
use Rattle.machine_bytecode.specs.States.{Value, slot_at}
use Rattle.machine_nodes.specs.Slots.{source_value, AreMoved, AreLeft}
use Rattle.slot_names.specs.Variables.{Effect, keeps, moves, writes, effect_of_move}

-- by this effect on slot z, z gets the value that y had
pub data HandsOn (effect : Effect) (y z : ℕ) : Type 0 where
  as_kept : effect ≡ keeps → y ≡ z → HandsOn effect y z
  as_moved : effect ≡ moves y → HandsOn effect y z

-- ---- operations that write some slots

-- the effect on a slot of an operation that is no assignment, by the slots that it writes
abbrev pub effect_of_writes : ℕ → List ℕ → Effect
effect_of_writes z slots = if list_any (λ (y : ℕ). nat_eq y z) slots then writes else keeps

-- the slot is kept, and is none of those that are written
pub record IsFree (slots : List ℕ) (y z : ℕ) : Type 0 where
  pub same : y ≡ z
  pub apart : Contains slots z → ⊥

none_taken : (z : ℕ) (slots : List ℕ) → list_any (λ (y : ℕ). nat_eq y z) slots ≡ false → Contains slots z → ⊥
none_taken z [] e there = contains_none z there
none_taken z (y ∷ slots) e there = by (none_taken z slots) (or_parts (nat_eq y z) (list_any (λ (x : ℕ). nat_eq x z) slots) e) (contains_cases y z slots there)
  where
    by : (list_any (λ (x : ℕ). nat_eq x z) slots ≡ false → Contains slots z → ⊥) → (nat_eq y z ≡ false) × (list_any (λ (x : ℕ). nat_eq x z) slots ≡ false) → (y ≡ z) ⊎ Contains slots z → ⊥
    by later parts (inl same) = false≢true (sym parts.0 ∙ eq-eqb y z same)
    by later parts (inr rest) = later parts.1 rest

pub free : (slots : List ℕ) (y z : ℕ) → HandsOn (effect_of_writes z slots) y z → IsFree slots y z
free slots y z h = by (cases_Bool (list_any (λ (x : ℕ). nat_eq x z) slots)) h
  where
    by : (list_any (λ (x : ℕ). nat_eq x z) slots ≡ true) ⊎ (list_any (λ (x : ℕ). nat_eq x z) slots ≡ false) → HandsOn (effect_of_writes z slots) y z → IsFree slots y z
    by (inl is) (as_kept e same) = let other : writes ≡ keeps = sym (ap (λ (b : Bool). cond b writes keeps) is) ∙ e in absurd cc
    by (inl is) (as_moved e) = let other : writes ≡ moves y = sym (ap (λ (b : Bool). cond b writes keeps) is) ∙ e in absurd cc
    by (inr is) (as_kept e same) = record { same = same; apart = none_taken z slots is }
    by (inr is) (as_moved e) = let other : keeps ≡ moves y = sym (ap (λ (b : Bool). cond b writes keeps) is) ∙ e in absurd cc

-- the operands and the target are among the slots
pub record AreAmong (slots operands : List ℕ) (target : Option ℕ) : Type 0 where
  pub operand : (z : ℕ) → Contains operands z → Contains slots z
  pub result : (z : ℕ) → target ≡ Some z → Contains slots z

target_there : (target : Option ℕ) (z : ℕ) → target ≡ Some z → Contains (option_to_list target) z
target_there None z e = absurd (none-some z e)
target_there (Some y) z e = subst (λ (x : ℕ). Contains (y ∷ []) x) (same_Some y z e) (contains_first y [])

operands_first : (operands : List ℕ) (target : Option ℕ) → AreAmong (operands ++ option_to_list target) operands target
operands_first operands target = record {
  operand = λ z there. Contains-append_left operands (option_to_list target) z there;
  result = λ z e. Contains-append_right operands (option_to_list target) z (target_there target z e);
}

pub target_first : (operands : List ℕ) (target : Option ℕ) → AreAmong (option_to_list target ++ operands) operands target
target_first operands target = record {
  operand = λ z there. Contains-append_right (option_to_list target) operands z there;
  result = λ z e. Contains-append_left (option_to_list target) operands z (target_there target z e);
}

-- what is handed on there reads as before
pub left_slot : (slots operands : List ℕ) (target : Option ℕ) (v : Value) (before after : List Value) (y z : ℕ) → AreAmong slots operands target
    → AreLeft operands target v before after → HandsOn (effect_of_writes z slots) y z → slot_at after z ≡ slot_at before y
left_slot slots operands target v before after y z among left h =
    let f = free slots y z h in
    left.kept z (λ there. f.apart (among.operand z there)) (λ e. f.apart (among.result z e)) ∙ ap (slot_at before) (sym f.same)

-- where the slots are the operands and the target
pub left_by : (operands : List ℕ) (target : Option ℕ) (v : Value) (before after : List Value) (y z : ℕ) → AreLeft operands target v before after
    → HandsOn (effect_of_writes z (operands ++ option_to_list target)) y z → slot_at after z ≡ slot_at before y
left_by operands target v before after y z left h = left_slot (operands ++ option_to_list target) operands target v before after y z (operands_first operands target) left h

-- ---- moves

abbrev pub is_to : ℕ → Move → Bool
is_to z m = nat_eq m.target z

-- so it does where slots are moved
pub moved_slot : (ms : List Move) (before after : List Value) (y z : ℕ) → AreMoved ms before after → HandsOn (effect_of_move (find (is_to z) ms)) y z → slot_at after z ≡ slot_at before y
moved_slot ms before after y z are h = by (find (is_to z) ms) refl h
  where
    by : (o : Option Move) → find (is_to z) ms ≡ o → HandsOn (effect_of_move o) y z → slot_at after z ≡ slot_at before y
    by None e (as_kept is same) = are.kept z (λ m there to. not_found (is_to z) ms e m there (eq-eqb m.target z to)) ∙ ap (slot_at before) (sym same)
    by None e (as_moved is) = absurd cc
    by (Some m) e h = of m.source refl h
      where
        of : (s : Source) → m.source ≡ s → HandsOn (effect_of_move (Some (record { source = s; target = m.target }))) y z → slot_at after z ≡ slot_at before y
        of (Slot x) from (as_kept is same) = absurd cc
        of (Slot x) from (as_moved is) =
            let same : x ≡ y = cc in
            let at = found (is_to z) ms m e in
            ap (slot_at after) (sym (eqb-true m.target z at.taken)) ∙ are.moved m at.there ∙ ap (λ (t : Source). source_value t before) from ∙ ap (slot_at before) same
        of Null from (as_kept is same) = absurd cc
        of Null from (as_moved is) = absurd cc
        of Primitive from (as_kept is same) = absurd cc
        of Primitive from (as_moved is) = absurd cc
