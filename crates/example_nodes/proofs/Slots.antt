-- What nodes do to slots, decided for lists that are known: tests of the slots, and what holds where a test passes.
use Rattle.std.proofs.Common.{◌≡◌, ◌≢◌, ◌⊎◌, inl, inr, ℕ, zero, suc, ◌<◌, Bool, true, false, ◌&&◌, ◌||◌, nat_eq, List, [], ◌∷◌, drop, Option, Some, None, refl, sym, ap, ◌∙◌, subst, true≢false, eqb-true, arith}
use Rattle.std.specs.List.{Contains, list_all, list_any}
use Rattle.std.proofs.lemmas.Bool.{and_parts}
use Rattle.std.proofs.lemmas.List.Elements.{All-contains}
use Rattle.std.proofs.lemmas.List.Sums.{AllPass-from_list_all}
use Rattle.std.proofs.lemmas.Option.{none-some, same_Some}
use Rattle.op_model.specs.declared.op.Move.{Move}
use Rattle.machine_bytecode.specs.States.{Value, primitive_value, null_value, reference_to, slot_at}
use Rattle.machine_nodes.specs.Slots.{source_value, AreMoved, AreLeft, AreSame, AreCaught}
use Rattle.list_laws.proofs.Members.{contains_first, contains_later}

-- ---- values

abbrev pub is_same : Value → Value → Bool
is_same primitive_value primitive_value = true
is_same primitive_value null_value = false
is_same primitive_value (reference_to place) = false
is_same null_value primitive_value = false
is_same null_value null_value = true
is_same null_value (reference_to place) = false
is_same (reference_to place) primitive_value = false
is_same (reference_to place) null_value = false
is_same (reference_to place) (reference_to other) = nat_eq place other

pub same_is : (v w : Value) → is_same v w ≡ true → v ≡ w
same_is primitive_value primitive_value e = refl
same_is primitive_value null_value e = absurd cc
same_is primitive_value (reference_to place) e = absurd cc
same_is null_value primitive_value e = absurd cc
same_is null_value null_value e = refl
same_is null_value (reference_to place) e = absurd cc
same_is (reference_to place) primitive_value e = absurd cc
same_is (reference_to place) null_value e = absurd cc
same_is (reference_to place) (reference_to other) e = ap reference_to (eqb-true place other e)

-- ---- lists that read alike

abbrev pub all_primitive : List Value → Bool
all_primitive slots = list_all (is_same primitive_value) slots

abbrev pub reads_alike : List Value → List Value → Bool
reads_alike [] after = all_primitive after
reads_alike (v ∷ before) [] = is_same v primitive_value && all_primitive before
reads_alike (v ∷ before) (w ∷ after) = is_same v w && reads_alike before after

pub primitives : (slots : List Value) → all_primitive slots ≡ true → (z : ℕ) → slot_at slots z ≡ primitive_value
primitives [] e z = refl
primitives (v ∷ slots) e zero = sym (same_is primitive_value v (and_parts (is_same primitive_value v) (all_primitive slots) e).0)
primitives (v ∷ slots) e (suc z) = primitives slots (and_parts (is_same primitive_value v) (all_primitive slots) e).1 z

pub read_alike : (before after : List Value) → reads_alike before after ≡ true → AreSame before after
read_alike [] after e z = primitives after e z
read_alike (v ∷ before) [] e zero = sym (same_is v primitive_value (and_parts (is_same v primitive_value) (all_primitive before) e).0)
read_alike (v ∷ before) [] e (suc z) = sym (primitives before (and_parts (is_same v primitive_value) (all_primitive before) e).1 z)
read_alike (v ∷ before) (w ∷ after) e zero = sym (same_is v w (and_parts (is_same v w) (reads_alike before after) e).0)
read_alike (v ∷ before) (w ∷ after) e (suc z) = read_alike before after (and_parts (is_same v w) (reads_alike before after) e).1 z

-- ---- slots that are left out of account: they read as primitives

abbrev pub without_slot : ℕ → List Value → List Value
without_slot z [] = []
without_slot zero (v ∷ slots) = primitive_value ∷ slots
without_slot (suc z) (v ∷ slots) = v ∷ without_slot z slots

other_slot : (z y : ℕ) (slots : List Value) → (z ≡ y → ⊥) → slot_at (without_slot z slots) y ≡ slot_at slots y
other_slot zero y [] other = refl
other_slot (suc z) y [] other = refl
other_slot zero zero (v ∷ slots) other = absurd (other refl)
other_slot zero (suc y) (v ∷ slots) other = refl
other_slot (suc z) zero (v ∷ slots) other = refl
other_slot (suc z) (suc y) (v ∷ slots) other = other_slot z y slots (λ e. other (ap suc e))

abbrev pub without : List ℕ → List Value → List Value
without [] slots = slots
without (z ∷ zs) slots = without zs (without_slot z slots)

kept_without : (zs : List ℕ) (y : ℕ) (slots : List Value) → (Contains zs y → ⊥) → slot_at (without zs slots) y ≡ slot_at slots y
kept_without [] y slots out = refl
kept_without (z ∷ zs) y slots out =
    kept_without zs y (without_slot z slots) (λ there. out (contains_later z y zs there))
    ∙ other_slot z y slots (λ e. out (subst (λ (k : ℕ). Contains (z ∷ zs) k) e (contains_first z zs)))

all_pass : {X : Type 0} (test : X → Bool) (xs : List X) (x : X) → list_all test xs ≡ true → Contains xs x → test x ≡ true
all_pass test xs x h there = All-contains (λ y. test y ≡ true) xs x (AllPass-from_list_all test xs h) there

-- ---- what stands among numbers

abbrev pub is_among : List ℕ → ℕ → Bool
is_among zs z = list_any (nat_eq z) zs

pub stands_among : (zs : List ℕ) (z : ℕ) → is_among zs z ≡ true → Contains zs z
stands_among [] z e = absurd (true≢false (sym e))
stands_among (y ∷ zs) z e = by (nat_eq z y) refl e (λ f. stands_among zs z f) where
  by : (b : Bool) → nat_eq z y ≡ b → (b || is_among zs z) ≡ true → (is_among zs z ≡ true → Contains zs z) → Contains (y ∷ zs) z
  by true f g more = subst (λ (k : ℕ). Contains (k ∷ zs) z) (eqb-true z y f) (contains_first z zs)
  by false f g more = contains_later y z zs (more g)

-- ---- a target gets a value, and operands are left

abbrev pub with_target : Option ℕ → List ℕ → List ℕ
with_target None operands = operands
with_target (Some z) operands = z ∷ operands

abbrev pub target_has : Option ℕ → Value → List Value → Bool
target_has None v after = true
target_has (Some z) v after = is_same (slot_at after z) v

abbrev pub is_cleared : Option ℕ → List Value → ℕ → Bool
is_cleared None after z = is_same (slot_at after z) primitive_value
is_cleared (Some y) after z = nat_eq y z || is_same (slot_at after z) primitive_value

abbrev pub leaves : List ℕ → Option ℕ → Value → List Value → List Value → Bool
leaves operands target v before after =
    target_has target v after && (list_all (is_cleared target after) operands && reads_alike (without (with_target target operands) before) (without (with_target target operands) after))

given_by_test : (target : Option ℕ) (v : Value) (after : List Value) → target_has target v after ≡ true → (z : ℕ) → target ≡ Some z → slot_at after z ≡ v
given_by_test None v after e z is = absurd (none-some z is)
given_by_test (Some y) v after e z is = subst (λ (k : ℕ). slot_at after k ≡ v) (same_Some y z is) (same_is (slot_at after y) v e)

cleared_by_test : (target : Option ℕ) (after : List Value) (z : ℕ) → is_cleared target after z ≡ true → (target ≡ Some z → ⊥) → slot_at after z ≡ primitive_value
cleared_by_test None after z e other = same_is (slot_at after z) primitive_value e
cleared_by_test (Some y) after z e other = by (nat_eq y z) refl e where
  by : (b : Bool) → nat_eq y z ≡ b → (b || is_same (slot_at after z) primitive_value) ≡ true → slot_at after z ≡ primitive_value
  by true f g = absurd (other (ap Some (eqb-true y z f)))
  by false f g = same_is (slot_at after z) primitive_value g

where_there : (x y : ℕ) (xs : List ℕ) → Contains (x ∷ xs) y → (x ≡ y) ⊎ Contains xs y
where_there x y xs (zero, few, e) = inl e
where_there x y xs (suc n, few, e) = inr (n, omega arith, e)

is_outside : (target : Option ℕ) (operands : List ℕ) (z : ℕ) → (Contains operands z → ⊥) → (target ≡ Some z → ⊥) → Contains (with_target target operands) z → ⊥
is_outside None operands z out other there = out there
is_outside (Some y) operands z out other there = by (where_there y z operands there) where
  by : (y ≡ z) ⊎ Contains operands z → ⊥
  by (inl e) = other (ap Some e)
  by (inr c) = out c

pub are_left_by : (operands : List ℕ) (target : Option ℕ) (v : Value) (before after : List Value) → leaves operands target v before after ≡ true → AreLeft operands target v before after
are_left_by operands target v before after e =
    let a = and_parts (target_has target v after) _ e in
    let b = and_parts (list_all (is_cleared target after) operands) _ a.1 in
    let zs = with_target target operands in
    record {
      given = given_by_test target v after a.0;
      cleared = λ z among other. cleared_by_test target after z (all_pass (is_cleared target after) operands z b.0 among) other;
      kept = λ z out other.
          sym (kept_without zs z after (is_outside target operands z out other)) ∙ (read_alike (without zs before) (without zs after) b.1 z ∙ kept_without zs z before (is_outside target operands z out other));
    }

-- ---- moves

abbrev pub without_targets : List Move → List Value → List Value
without_targets [] slots = slots
without_targets (m ∷ moves) slots = without_targets moves (without_slot m.target slots)

abbrev pub is_moved : List Value → List Value → Move → Bool
is_moved before after m = is_same (slot_at after m.target) (source_value m.source before)

abbrev pub moves_to : List Move → List Value → List Value → Bool
moves_to moves before after = list_all (is_moved before after) moves && reads_alike (without_targets moves before) (without_targets moves after)

kept_by_moves : (moves : List Move) (y : ℕ) (slots : List Value) → ((m : Move) → Contains moves m → m.target ≢ y) → slot_at (without_targets moves slots) y ≡ slot_at slots y
kept_by_moves [] y slots out = refl
kept_by_moves (m ∷ moves) y slots out =
    kept_by_moves moves y (without_slot m.target slots) (λ n there. out n (contains_later m n moves there))
    ∙ other_slot m.target y slots (out m (contains_first m moves))

pub are_moved_by : (moves : List Move) (before after : List Value) → moves_to moves before after ≡ true → AreMoved moves before after
are_moved_by moves before after e =
    let a = and_parts (list_all (is_moved before after) moves) _ e in
    record {
      moved = λ m there. same_is (slot_at after m.target) (source_value m.source before) (all_pass (is_moved before after) moves m a.0 there);
      kept = λ z out. sym (kept_by_moves moves z after out) ∙ (read_alike (without_targets moves before) (without_targets moves after) a.1 z ∙ kept_by_moves moves z before out);
    }

-- ---- at a handler

abbrev pub catches_with : ℕ → Value → List Value → List Value → Bool
catches_with zero thrown before after = is_same (slot_at after 0) thrown && all_primitive (drop 1 after)
catches_with (suc n) thrown before after = is_same (slot_at after 0) (slot_at before 0) && catches_with n thrown (drop 1 before) (drop 1 after)

next_slot : (slots : List Value) (z : ℕ) → slot_at (drop 1 slots) z ≡ slot_at slots (suc z)
next_slot [] z = refl
next_slot (v ∷ slots) z = refl

pub are_caught_by : (locals : ℕ) (thrown : Value) (before after : List Value) → catches_with locals thrown before after ≡ true → AreCaught locals thrown before after
are_caught_by zero thrown before after e =
    let a = and_parts (is_same (slot_at after 0) thrown) _ e in
    record {
      kept = λ z l. absurd (omega arith);
      given = same_is (slot_at after 0) thrown a.0;
      cleared = λ z l. past z l;
    }
  where
    past : (z : ℕ) → 0 < z → slot_at after z ≡ primitive_value
    past zero l = absurd (omega arith)
    past (suc z) l = sym (next_slot after z) ∙ primitives (drop 1 after) (and_parts (is_same (slot_at after 0) thrown) (all_primitive (drop 1 after)) e).1 z
are_caught_by (suc n) thrown before after e = by (are_caught_by n thrown (drop 1 before) (drop 1 after) (and_parts (is_same (slot_at after 0) (slot_at before 0)) (catches_with n thrown (drop 1 before) (drop 1 after)) e).1)
  where
    first : slot_at after 0 ≡ slot_at before 0
    first = same_is (slot_at after 0) (slot_at before 0) (and_parts (is_same (slot_at after 0) (slot_at before 0)) (catches_with n thrown (drop 1 before) (drop 1 after)) e).0

    by : AreCaught n thrown (drop 1 before) (drop 1 after) → AreCaught (suc n) thrown before after
    by c = record { kept = kept; given = sym (next_slot after n) ∙ c.given; cleared = cleared }
      where
        kept : (z : ℕ) → z < suc n → slot_at after z ≡ slot_at before z
        kept zero l = first
        kept (suc z) l = sym (next_slot after z) ∙ (c.kept z (omega arith) ∙ next_slot before z)

        cleared : (z : ℕ) → suc n < z → slot_at after z ≡ primitive_value
        cleared zero l = absurd (omega arith)
        cleared (suc z) l = sym (next_slot after z) ∙ c.cleared z (omega arith)
