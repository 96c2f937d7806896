-- For each way in which slots may read there is a list that reads so, where from some place on they are primitives: the list of
-- the values before that place.
use Rattle.std.proofs.Common.{◌≡◌, ◌≢◌, ◌⊎◌, inl, inr, ℕ, zero, suc, ◌+◌, ◌<◌, ◌≤◌, List, [], ◌∷◌, length, Option, Some, None, refl, sym, ap, ◌∙◌, arith}
use Rattle.std.specs.List.{Contains}
use Rattle.std.proofs.Math.Nat.{eq-or-lt_of_le}
use Rattle.std.proofs.lemmas.Bool.{cases_lt}
use Rattle.std.proofs.lemmas.List.{get_or_past}
use Rattle.std.proofs.lemmas.Option.{none-some, same_Some}
use Rattle.list_laws.proofs.Members.{contains_cases, contains_none}
use Rattle.op_model.specs.declared.op.Move.{Move}
use Rattle.op_model.specs.declared.op.Source.{Source}
use Rattle.machine_bytecode.specs.States.{Value, primitive_value, slot_at}
use Rattle.machine_nodes.specs.Slots.{source_value, AreMoved, AreLeft, AreCaught}
use Rattle.machine_laws.proofs.Heaps.{same_or_not}
use Rattle.machine_laws.proofs.ProgressDecided.{contains_or_not}
use Rattle.program_laws.proofs.Choices.{OrNot, some_or_not}
use Rattle.machine_laws.specs.NodeProgress.{HaveOneSource}

-- ---- the list of some values

tabulated : (ℕ → Value) → ℕ → List Value
tabulated f zero = []
tabulated f (suc n) = f 0 ∷ tabulated (λ z. f (suc z)) n

reads_inside : (f : ℕ → Value) (n z : ℕ) → z < n → slot_at (tabulated f n) z ≡ f z
unfolding tabulated
reads_inside f zero z l = absurd (omega arith)
reads_inside f (suc n) zero l = refl
reads_inside f (suc n) (suc z) l = reads_inside (λ y. f (suc y)) n z (omega arith)

reads_outside : (f : ℕ → Value) (n z : ℕ) → n ≤ z → slot_at (tabulated f n) z ≡ primitive_value
unfolding tabulated
reads_outside f zero z l = refl
reads_outside f (suc n) zero l = absurd (omega arith)
reads_outside f (suc n) (suc z) l = reads_outside (λ y. f (suc y)) n z (omega arith)

-- slots that read as wanted
pub record SomeSlots (f : ℕ → Value) : Type 0 where
  pub slots : List Value
  pub reads : (z : ℕ) → slot_at slots z ≡ f z

pub some_slots : (f : ℕ → Value) (n : ℕ) → ((z : ℕ) → n ≤ z → f z ≡ primitive_value) → SomeSlots f
some_slots f n beyond = record { slots = tabulated f n; reads = λ z. by z (cases_lt z n) }
  where
    by : (z : ℕ) → (z < n) ⊎ (n ≤ z) → slot_at (tabulated f n) z ≡ f z
    by z (inl l) = reads_inside f n z l
    by z (inr l) = reads_outside f n z l ∙ sym (beyond z l)

-- slots past the end of a list
past_end : (slots : List Value) (z : ℕ) → length slots ≤ z → slot_at slots z ≡ primitive_value
past_end slots z l = get_or_past slots z primitive_value l

-- ---- a target gets a value, and operands are left

target_or_not : (target : Option ℕ) (z : ℕ) → OrNot (target ≡ Some z)
target_or_not None z = inr (λ e. none-some z e)
target_or_not (Some y) z = by (same_or_not y z) where
  by : OrNot (y ≡ z) → OrNot (Some y ≡ Some z)
  by (inl e) = inl (ap Some e)
  by (inr ne) = inr (λ e. ne (same_Some y z e))

abbrev left_value : {T C : Type 0} → OrNot T → OrNot C → Value → Value → Value
left_value (inl given) c v old = v
left_value (inr other) (inl among) v old = primitive_value
left_value (inr other) (inr not_so) v old = old

abbrev left_at : List ℕ → Option ℕ → Value → List Value → ℕ → Value
left_at operands target v before z = left_value (target_or_not target z) (contains_or_not operands z) v (slot_at before z)

-- a place past the target
abbrev past_target : Option ℕ → ℕ
past_target None = 0
past_target (Some z) = suc z

not_past : (target : Option ℕ) (z : ℕ) → past_target target ≤ z → target ≡ Some z → ⊥
not_past None z l e = none-some z e
not_past (Some y) z l e = let same : y ≡ z = same_Some y z e in absurd (omega (arith, same))

left_beyond : {T C : Type 0} (t : OrNot T) (c : OrNot C) (v old : Value) → (T → ⊥) → old ≡ primitive_value → left_value t c v old ≡ primitive_value
left_beyond (inl given) c v old none is = absurd (none given)
left_beyond (inr other) (inl among) v old none is = refl
left_beyond (inr other) (inr not_so) v old none is = is

left_given : {T C : Type 0} (t : OrNot T) (c : OrNot C) (v old : Value) → T → left_value t c v old ≡ v
left_given (inl given) c v old is = refl
left_given (inr other) c v old is = absurd (other is)

left_cleared : {T C : Type 0} (t : OrNot T) (c : OrNot C) (v old : Value) → C → (T → ⊥) → left_value t c v old ≡ primitive_value
left_cleared (inl given) c v old is none = absurd (none given)
left_cleared (inr other) (inl among) v old is none = refl
left_cleared (inr other) (inr not_so) v old is none = absurd (not_so is)

left_kept : {T C : Type 0} (t : OrNot T) (c : OrNot C) (v old : Value) → (C → ⊥) → (T → ⊥) → left_value t c v old ≡ old
left_kept (inl given) c v old out none = absurd (none given)
left_kept (inr other) (inl among) v old out none = absurd (out among)
left_kept (inr other) (inr not_so) v old out none = refl

pub record SomeLeft (operands : List ℕ) (target : Option ℕ) (v : Value) (before : List Value) : Type 0 where
  pub slots : List Value
  pub are_left : AreLeft operands target v before slots

pub some_left : (operands : List ℕ) (target : Option ℕ) (v : Value) (before : List Value) → SomeLeft operands target v before
some_left operands target v before = record {
  slots = some.slots;
  are_left = record {
    given = λ z is. some.reads z ∙ left_given (target_or_not target z) (contains_or_not operands z) v (slot_at before z) is;
    cleared = λ z among none. some.reads z ∙ left_cleared (target_or_not target z) (contains_or_not operands z) v (slot_at before z) among none;
    kept = λ z out none. some.reads z ∙ left_kept (target_or_not target z) (contains_or_not operands z) v (slot_at before z) out none;
  };
}
  where
    beyond : (z : ℕ) → length before + past_target target ≤ z → left_at operands target v before z ≡ primitive_value
    beyond z l =
        left_beyond (target_or_not target z) (contains_or_not operands z) v (slot_at before z)
        (not_past target z (omega arith)) (past_end before z (omega arith))

    some : SomeSlots (left_at operands target v before)
    some = some_slots (left_at operands target v before) (length before + past_target target) beyond

-- ---- moves in parallel

-- a move to a slot
abbrev HasMove : List Move → ℕ → Type 0
HasMove moves z = (m : Move) × Contains moves m × (m.target ≡ z)

move_or_not : (moves : List Move) (z : ℕ) → OrNot (HasMove moves z)
move_or_not moves z = some_or_not (λ m. m.target ≡ z) (λ m. same_or_not m.target z) moves

abbrev moved_value : (moves : List Move) (z : ℕ) → OrNot (HasMove moves z) → List Value → Value → Value
moved_value moves z (inl m) before old = source_value m.0.source before
moved_value moves z (inr none) before old = old

abbrev moved_at : List Move → List Value → ℕ → Value
moved_at moves before z = moved_value moves z (move_or_not moves z) before (slot_at before z)

-- a place past all targets
past_targets : List Move → ℕ
past_targets [] = 0
past_targets (m ∷ moves) = suc m.target + past_targets moves

target_within : (moves : List Move) (m : Move) → Contains moves m → m.target < past_targets moves
unfolding past_targets
target_within [] m c = absurd (contains_none m c)
target_within (n ∷ moves) m c = by (contains_cases n m moves c) (target_within moves m) where
  by : (n ≡ m) ⊎ Contains moves m → (Contains moves m → m.target < past_targets moves) → m.target < suc n.target + past_targets moves
  by (inl e) deeper = let same : n.target ≡ m.target = ap (λ (k : Move). k.target) e in omega (arith, same)
  by (inr there) deeper = let l = deeper there in omega (arith, l)

moved_beyond : (moves : List Move) (z : ℕ) (d : OrNot (HasMove moves z)) (before : List Value) (old : Value) → past_targets moves ≤ z → old ≡ primitive_value → moved_value moves z d before old ≡ primitive_value
moved_beyond moves z (inl m) before old l is = let within = target_within moves m.0 m.1 in let e = m.2 in absurd (omega (arith, within, e))
moved_beyond moves z (inr none) before old l is = is

moved_to_it : (moves : List Move) → HaveOneSource moves → (m : Move) → Contains moves m → (d : OrNot (HasMove moves m.target)) (before : List Value) (old : Value)
    → moved_value moves m.target d before old ≡ source_value m.source before
moved_to_it moves one m c (inl n) before old = ap (λ (s : Source). source_value s before) (one n.0 m n.1 c n.2)
moved_to_it moves one m c (inr none) before old = absurd (none (m, c, refl))

not_moved : (moves : List Move) (z : ℕ) (d : OrNot (HasMove moves z)) (before : List Value) (old : Value) → ((m : Move) → Contains moves m → m.target ≢ z) → moved_value moves z d before old ≡ old
not_moved moves z (inl m) before old other = absurd (other m.0 m.1 m.2)
not_moved moves z (inr none) before old other = refl

pub record SomeMoved (moves : List Move) (before : List Value) : Type 0 where
  pub slots : List Value
  pub are_moved : AreMoved moves before slots

pub some_moved : (moves : List Move) (before : List Value) → HaveOneSource moves → SomeMoved moves before
some_moved moves before one = record {
  slots = some.slots;
  are_moved = record {
    moved = λ m c. some.reads m.target ∙ moved_to_it moves one m c (move_or_not moves m.target) before (slot_at before m.target);
    kept = λ z other. some.reads z ∙ not_moved moves z (move_or_not moves z) before (slot_at before z) other;
  };
}
  where
    beyond : (z : ℕ) → length before + past_targets moves ≤ z → moved_at moves before z ≡ primitive_value
    beyond z l = moved_beyond moves z (move_or_not moves z) before (slot_at before z) (omega arith) (past_end before z (omega arith))

    some : SomeSlots (moved_at moves before)
    some = some_slots (moved_at moves before) (length before + past_targets moves) beyond

-- ---- at a handler

abbrev Places : ℕ → ℕ → Type 0
Places z locals = (z < locals) ⊎ ((z ≡ locals) ⊎ (locals < z))

place_of : (z locals : ℕ) → Places z locals
place_of z locals = by (cases_lt z locals) where
  or_past : (locals ≡ z) ⊎ (locals < z) → Places z locals
  or_past (inl e) = inr (inl (sym e))
  or_past (inr l) = inr (inr l)

  by : (z < locals) ⊎ (locals ≤ z) → Places z locals
  by (inl l) = inl l
  by (inr l) = or_past (eq-or-lt_of_le l)

abbrev caught_value : {A B C : Type 0} → A ⊎ (B ⊎ C) → Value → Value → Value
caught_value (inl below) thrown old = old
caught_value (inr (inl here)) thrown old = thrown
caught_value (inr (inr past)) thrown old = primitive_value

abbrev caught_at : ℕ → Value → List Value → ℕ → Value
caught_at locals thrown before z = caught_value (place_of z locals) thrown (slot_at before z)

caught_local : (z locals : ℕ) (p : Places z locals) (thrown old : Value) → z < locals → caught_value p thrown old ≡ old
caught_local z locals (inl below) thrown old l = refl
caught_local z locals (inr (inl here)) thrown old l = absurd (omega (arith, here))
caught_local z locals (inr (inr past)) thrown old l = absurd (omega arith)

caught_given : (z locals : ℕ) (p : Places z locals) (thrown old : Value) → z ≡ locals → caught_value p thrown old ≡ thrown
caught_given z locals (inl below) thrown old e = absurd (omega (arith, e))
caught_given z locals (inr (inl here)) thrown old e = refl
caught_given z locals (inr (inr past)) thrown old e = absurd (omega (arith, e))

caught_past : (z locals : ℕ) (p : Places z locals) (thrown old : Value) → locals < z → caught_value p thrown old ≡ primitive_value
caught_past z locals (inl below) thrown old l = absurd (omega arith)
caught_past z locals (inr (inl here)) thrown old l = absurd (omega (arith, here))
caught_past z locals (inr (inr past)) thrown old l = refl

pub record SomeCaught (locals : ℕ) (thrown : Value) (before : List Value) : Type 0 where
  pub slots : List Value
  pub are_caught : AreCaught locals thrown before slots

pub some_caught : (locals : ℕ) (thrown : Value) (before : List Value) → SomeCaught locals thrown before
some_caught locals thrown before = record {
  slots = some.slots;
  are_caught = record {
    kept = λ z l. some.reads z ∙ caught_local z locals (place_of z locals) thrown (slot_at before z) l;
    given = some.reads locals ∙ caught_given locals locals (place_of locals locals) thrown (slot_at before locals) refl;
    cleared = λ z l. some.reads z ∙ caught_past z locals (place_of z locals) thrown (slot_at before z) l;
  };
}
  where
    beyond : (z : ℕ) → suc locals ≤ z → caught_at locals thrown before z ≡ primitive_value
    beyond z l = caught_past z locals (place_of z locals) thrown (slot_at before z) l

    some : SomeSlots (caught_at locals thrown before)
    some = some_slots (caught_at locals thrown before) (suc locals) beyond
