-- Ways out of a method and into a handler: returns, results of calls, and objects that are thrown.
use Rattle.std.proofs.Common.{◌≡◌, ◌⊎◌, inl, inr, ℕ, nat_le, false, cond, ◌||◌, List, [], ◌∷◌, map, Option, Some, None, refl, sym, subst}
use Rattle.std.specs.List.{Contains}
use Rattle.std.specs.Option.{option_to_list}
use Rattle.std.proofs.lemmas.Bool.{false≢true, leb-false, lt-leb, or_from, or_parts}
use Rattle.std.proofs.lemmas.List.Elements.{Contains-append_cases, Contains-append_left, Contains-append_right}
use Rattle.list_laws.proofs.Members.{contained_in_map, contains_first, contains_map, contains_none, contains_only}
use Rattle.op_model.specs.declared.lowered.LoweredMethod.{LoweredMethod}
use Rattle.op_model.specs.declared.node.Node.{Node}
use Rattle.op_model.specs.declared.op.Call.{Call as NodeCall}
use Rattle.machine_nodes.specs.Slots.{argument_slots}
use Rattle.access_paths.specs.declared.root.Root.{Root}
use Rattle.access_paths.specs.declared.root.Root.TheVariants.{Slot, Static, Returned, Thrown}
use Rattle.access_paths.specs.Paths.{same_root}
use Rattle.stage_transfer.specs.Settings.{Setting, among}
use Rattle.stage_transfer.specs.Changes.{Copy, slots_go, unwritten}
use Rattle.stage_transfer.specs.Calls.{written_by}
use Rattle.stage_transfer.specs.Operations.{every_slot, receiving, returning}
use Rattle.stage_transfer.specs.Exceptions.{catching, caught_from, thrown_root, unwinding}
use Rattle.stage_relations.specs.Roots.{Doubles, own, HasVariables, Exited, Received, Raised, IsAside}
use Rattle.stage_transfer_laws.proofs.Members.{in_option, none_among, not_among, of_option}
use Rattle.stage_transfer_laws.proofs.Alike.{Knows}
use Rattle.stage_transfer_laws.proofs.Changed.{Moves, root_copy}
use Rattle.stage_transfer_laws.proofs.Doubles.{moved_double, unwritten_double}

-- ---- returns

returned_stays : (value : Option ℕ) (r : Root) → (slots_go every_slot r || same_root Returned r) ≡ false → Exited value r r
returned_stays value (Slot z) stays = absurd (false≢true (sym stays))
returned_stays value (Static f) stays = Exited.static
returned_stays value Returned stays = absurd (false≢true (sym stays))
returned_stays value Thrown stays = Exited.thrown

abbrev pub return_copies : Option ℕ → List Copy
return_copies value = map (λ (z : ℕ). record { from = Slot z; to = Returned }) (option_to_list value)

returned_each : (value : Option ℕ) (r q : Root) → Exited value r q
    → ((r ≡ q) × ((slots_go every_slot r || same_root Returned r) ≡ false)) ⊎ Contains (return_copies value) (root_copy r q)
returned_each value r q (Exited.value {z = z} is) = inr (contains_map (λ (y : ℕ). root_copy (Slot y) Returned) (option_to_list value) z (in_option value z is))
returned_each value r q Exited.static = inl (refl, refl)
returned_each value r q Exited.thrown = inl (refl, refl)

pub return_moves : (value : Option ℕ) → Moves (Exited value) (Exited value) (return_copies value) (returning value)
return_moves value = record {
  adds = λ set. refl;
  stays = returned_stays value;
  copy = λ k there.
      let found = contained_in_map (λ (z : ℕ). root_copy (Slot z) Returned) (option_to_list value) k there in
      subst (λ (c : Copy). Exited value c.from c.to) found.2 (Exited.value (of_option value found.0 found.1));
  each = returned_each value;
  own = λ r q goes. goes;
  doubles = λ r q there. absurd (contains_none q there);
}

-- ---- results

pub is_aside : (c : NodeCall) (z : ℕ) → among (written_by c) z ≡ false → IsAside c z
is_aside c z stays = record {
  no_argument = λ there. not_among (written_by c) z stays (Contains-append_right (option_to_list c.result) (argument_slots c.arguments) z there);
  no_result = λ is. not_among (written_by c) z stays (Contains-append_left (option_to_list c.result) (argument_slots c.arguments) z (in_option c.result z is));
}

pub aside_stays : (c : NodeCall) (z : ℕ) → IsAside c z → among (written_by c) z ≡ false
aside_stays c z aside = none_among (written_by c) z (λ there. elim (Contains-append_cases (option_to_list c.result) (argument_slots c.arguments) z there) [
  | inl result ↦ aside.no_result (of_option c.result z result)
  | inr argument ↦ aside.no_argument argument
])

received_stays : (c : NodeCall) (r : Root) → (slots_go (among (written_by c)) r || same_root Returned r) ≡ false → Received c r r
received_stays c (Slot z) stays = Received.kept (is_aside c z (or_parts (among (written_by c) z) (same_root Returned (Slot z)) stays).0)
received_stays c (Static f) stays = Received.static
received_stays c Returned stays = absurd (false≢true (sym stays))
received_stays c Thrown stays = Received.thrown

abbrev pub result_copies : Option ℕ → List Copy
result_copies result = map (λ (z : ℕ). record { from = Returned; to = Slot z }) (option_to_list result)

received_each : (c : NodeCall) (r q : Root) → Received c r q
    → ((r ≡ q) × ((slots_go (among (written_by c)) r || same_root Returned r) ≡ false)) ⊎ Contains (result_copies c.result) (root_copy r q)
received_each c r q (Received.result {z = z} is) =
    inr (contains_map (λ (y : ℕ). root_copy Returned (Slot y)) (option_to_list c.result) z (in_option c.result z is))
received_each c r q (Received.kept {z = z} aside) = inl (refl, or_from (among (written_by c) z) (same_root Returned (Slot z)) (aside_stays c z aside) refl)
received_each c r q Received.static = inl (refl, refl)
received_each c r q Received.thrown = inl (refl, refl)

-- What was returned stands in the slot of the result.
result_doubles : (l : LoweredMethod) (n : Node) (c : NodeCall) (r q : Root) → Contains (cond (same_root Returned r) (map Slot (option_to_list c.result)) []) q
    → Doubles l n (Received c) r q
result_doubles l n c (Slot z) q there = absurd (contains_none q there)
result_doubles l n c (Static f) q there = absurd (contains_none q there)
result_doubles l n c Returned q there =
    let found = contained_in_map Slot (option_to_list c.result) q there in
    subst (λ (p : Root). Doubles l n (Received c) Returned p) found.2 (own (Received.result (of_option c.result found.0 found.1)))
result_doubles l n c Thrown q there = absurd (contains_none q there)

pub receive_moves : (w : Setting) → Knows w → (l : LoweredMethod) (n : Node) → HasVariables l n → (c : NodeCall)
    → Moves (Received c) (Doubles l n (Received c)) (result_copies c.result) (receiving w l n (argument_slots c.arguments) c.result)
receive_moves w knows l n has c = record {
  adds = λ set. refl;
  stays = received_stays c;
  copy = λ k there.
      let found = contained_in_map (λ (z : ℕ). root_copy Returned (Slot z)) (option_to_list c.result) k there in
      subst (λ (k : Copy). Received c k.from k.to) found.2 (Received.result (of_option c.result found.0 found.1));
  each = received_each c;
  own = λ r q goes. own goes;
  doubles = λ r q there.
      elim (Contains-append_cases (unwritten w l n (among (written_by c)) r) (cond (same_root Returned r) (map Slot (option_to_list c.result)) []) q there) [
        | inl stays ↦ unwritten_double w knows l n has (among (written_by c)) (Received c) (λ z out. Received.kept (is_aside c z out)) r q stays
        | inr result ↦ result_doubles l n c r q result
      ];
}

-- ---- objects that are thrown, out of the method

lost_stays : (locals : ℕ) (r : Root) → slots_go every_slot r ≡ false → Raised None None locals r r
lost_stays locals (Slot z) stays = absurd (false≢true (sym stays))
lost_stays locals (Static f) stays = Raised.static
lost_stays locals Returned stays = Raised.returned
lost_stays locals Thrown stays = Raised.thrown refl refl

lost_each : (locals : ℕ) (r q : Root) → Raised None None locals r q → ((r ≡ q) × (slots_go every_slot r ≡ false)) ⊎ Contains [] (root_copy r q)
lost_each locals r q (Raised.local at below) = absurd cc
lost_each locals r q (Raised.caught_value at is) = absurd cc
lost_each locals r q (Raised.caught at is) = absurd cc
lost_each locals r q (Raised.thrown_value at is) = absurd cc
lost_each locals r q (Raised.thrown at is) = inl (refl, refl)
lost_each locals r q Raised.static = inl (refl, refl)
lost_each locals r q Raised.returned = inl (refl, refl)

pub unwind_moves : (l : LoweredMethod) (n : Node) → Moves (Raised None None l.slots) (Doubles l n (Raised None None l.slots)) [] (unwinding None)
unwind_moves l n = record {
  adds = λ set. refl;
  stays = lost_stays l.slots;
  copy = λ k there. absurd (contains_none k there);
  each = lost_each l.slots;
  own = λ r q goes. own goes;
  doubles = λ r q there. absurd (contains_none q there);
}

thrown_stays : (value locals : ℕ) (r : Root) → (slots_go every_slot r || same_root Thrown r) ≡ false → Raised (Some value) None locals r r
thrown_stays value locals (Slot z) stays = absurd (false≢true (sym stays))
thrown_stays value locals (Static f) stays = Raised.static
thrown_stays value locals Returned stays = Raised.returned
thrown_stays value locals Thrown stays = absurd (false≢true (sym stays))

thrown_each : (value locals : ℕ) (r q : Root) → Raised (Some value) None locals r q
    → ((r ≡ q) × ((slots_go every_slot r || same_root Thrown r) ≡ false)) ⊎ Contains (root_copy (Slot value) Thrown ∷ []) (root_copy r q)
thrown_each value locals r q (Raised.local at below) = absurd cc
thrown_each value locals r q (Raised.caught_value at is) = absurd cc
thrown_each value locals r q (Raised.caught at is) = absurd cc
thrown_each value locals r q (Raised.thrown_value {z = z} at is) =
    let same : z ≡ value = cc in
    inr (subst (λ (y : ℕ). Contains (root_copy (Slot value) Thrown ∷ []) (root_copy (Slot y) Thrown)) (sym same)
    (contains_first (root_copy (Slot value) Thrown) []))
thrown_each value locals r q (Raised.thrown at is) = absurd cc
thrown_each value locals r q Raised.static = inl (refl, refl)
thrown_each value locals r q Raised.returned = inl (refl, refl)

pub throw_moves : (l : LoweredMethod) (n : Node) (value : ℕ)
    → Moves (Raised (Some value) None l.slots) (Doubles l n (Raised (Some value) None l.slots)) (root_copy (Slot value) Thrown ∷ []) (unwinding (Some value))
throw_moves l n value = record {
  adds = λ set. refl;
  stays = thrown_stays value l.slots;
  copy = λ k there. subst (λ (c : Copy). Raised (Some value) None l.slots c.from c.to) (contains_only (root_copy (Slot value) Thrown) k there)
      (Raised.thrown_value refl refl);
  each = thrown_each value l.slots;
  own = λ r q goes. own goes;
  doubles = λ r q there. absurd (contains_none q there);
}

-- ---- objects that are thrown, into a handler

caught_stays : (value : Option ℕ) (offset locals : ℕ) (r : Root) → (slots_go (nat_le locals) r || same_root Thrown r) ≡ false
    → Raised value (Some offset) locals r r
caught_stays value offset locals (Slot z) stays = Raised.local refl (leb-false locals z (or_parts (nat_le locals z) (same_root Thrown (Slot z)) stays).0)
caught_stays value offset locals (Static f) stays = Raised.static
caught_stays value offset locals Returned stays = Raised.returned
caught_stays value offset locals Thrown stays = absurd (false≢true (sym stays))

caught_each : (value : Option ℕ) (offset locals : ℕ) (r q : Root) → Raised value (Some offset) locals r q
    → ((r ≡ q) × ((slots_go (nat_le locals) r || same_root Thrown r) ≡ false)) ⊎ Contains (root_copy (thrown_root value) (Slot locals) ∷ []) (root_copy r q)
caught_each value offset locals r q (Raised.local {z = z} at below) =
    inl (refl, or_from (nat_le locals z) (same_root Thrown (Slot z)) (lt-leb locals z below) refl)
caught_each value offset locals r q (Raised.caught_value {z = z} at is) =
    inr (subst (λ (v : Option ℕ). Contains (root_copy (thrown_root v) (Slot locals) ∷ []) (root_copy (Slot z) (Slot locals))) (sym is)
    (contains_first (root_copy (Slot z) (Slot locals)) []))
caught_each value offset locals r q (Raised.caught at is) =
    inr (subst (λ (v : Option ℕ). Contains (root_copy (thrown_root v) (Slot locals) ∷ []) (root_copy Thrown (Slot locals))) (sym is)
    (contains_first (root_copy Thrown (Slot locals)) []))
caught_each value offset locals r q (Raised.thrown_value at is) = absurd cc
caught_each value offset locals r q (Raised.thrown at is) = absurd cc
caught_each value offset locals r q Raised.static = inl (refl, refl)
caught_each value offset locals r q Raised.returned = inl (refl, refl)

caught_copy : (value : Option ℕ) (offset locals : ℕ) → Raised value (Some offset) locals (thrown_root value) (Slot locals)
caught_copy None offset locals = Raised.caught refl refl
caught_copy (Some z) offset locals = Raised.caught_value refl refl

-- What was thrown stands behind the local variables: what a throw's slot held, or what was thrown into the frame.
caught_doubles : (w : Setting) → Knows w → (l : LoweredMethod) (n : Node) → HasVariables l n → (value : Option ℕ) (offset : ℕ) (r q : Root)
    → Contains (caught_from w l n value r) q → Doubles l n (Raised value (Some offset) l.slots) r q
caught_doubles w knows l n has (Some z) offset r q there =
    moved_double w knows l n has z (Slot l.slots) (Raised (Some z) (Some offset) l.slots) (Raised.caught_value refl refl) r q there
caught_doubles w knows l n has None offset (Slot z) q there = absurd (contains_none q there)
caught_doubles w knows l n has None offset (Static f) q there = absurd (contains_none q there)
caught_doubles w knows l n has None offset Returned q there = absurd (contains_none q there)
caught_doubles w knows l n has None offset Thrown q there =
    subst (λ (p : Root). Doubles l n (Raised None (Some offset) l.slots) Thrown p) (contains_only (Slot l.slots) q there) (own (Raised.caught refl refl))

local_stays : (value : Option ℕ) (offset locals : ℕ) (z : ℕ) → nat_le locals z ≡ false → Raised value (Some offset) locals (Slot z) (Slot z)
local_stays value offset locals z above = Raised.local refl (leb-false locals z above)

pub catch_moves : (w : Setting) → Knows w → (l : LoweredMethod) (n : Node) → HasVariables l n → (value : Option ℕ) (offset : ℕ)
    → Moves (Raised value (Some offset) l.slots) (Doubles l n (Raised value (Some offset) l.slots)) (root_copy (thrown_root value) (Slot l.slots) ∷ [])
    (catching w l n value)
catch_moves w knows l n has value offset = record {
  adds = λ set. refl;
  stays = caught_stays value offset l.slots;
  copy = λ k there.
      subst (λ (c : Copy). Raised value (Some offset) l.slots c.from c.to) (contains_only (root_copy (thrown_root value) (Slot l.slots)) k there)
      (caught_copy value offset l.slots);
  each = caught_each value offset l.slots;
  own = λ r q goes. own goes;
  doubles = λ r q there. elim (Contains-append_cases (unwritten w l n (nat_le l.slots) r) (caught_from w l n value r) q there) [
    | inl stays ↦ unwritten_double w knows l n has (nat_le l.slots) (Raised value (Some offset) l.slots) (local_stays value offset l.slots) r q stays
    | inr caught ↦ caught_doubles w knows l n has value offset r q caught
  ];
}
