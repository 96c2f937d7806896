-- Described methods: the roots that get other values where they give a result.
use Rattle.std.proofs.Common.{◌≡◌, ◌⊎◌, inl, inr, ℕ, false, List, [], map, Option, refl, sym, subst}
use Rattle.std.specs.Prelude.{◌≢◌}
use Rattle.std.specs.List.{Contains, flat_map}
use Rattle.std.specs.Option.{option_to_list}
use Rattle.std.proofs.lemmas.List.Elements.{Contains-append_cases}
use Rattle.list_laws.proofs.Members.{contained_in_map, contains_map, contains_none}
use Rattle.op_model.specs.declared.lowered.LoweredMethod.{LoweredMethod}
use Rattle.op_model.specs.declared.node.Node.{Node}
use Rattle.op_model.specs.declared.op.Call.{Call as NodeCall}
use Rattle.access_paths.specs.declared.root.Root.{Root}
use Rattle.access_paths.specs.declared.root.Root.TheVariants.{Slot, Static, Returned, Thrown}
use Rattle.stage_transfer.specs.Settings.{Setting, among}
use Rattle.stage_transfer.specs.Changes.{Copy, moved_to, slots_go, unwritten, writing}
use Rattle.stage_transfer.specs.Calls.{Result, an_argument, giving, written_by}
use Rattle.stage_relations.specs.Roots.{Answered, Doubles, own, HasVariables}
use Rattle.stage_transfer_laws.proofs.Members.{in_option, of_flat_map, of_option}
use Rattle.stage_transfer_laws.proofs.Alike.{Knows}
use Rattle.stage_transfer_laws.proofs.Changed.{Moves, root_copy}
use Rattle.stage_transfer_laws.proofs.Exits.{aside_stays, is_aside}
use Rattle.stage_transfer_laws.proofs.Doubles.{moved_double, unwritten_double}

answered_stays : (c : NodeCall) (result : Result) (r : Root) → slots_go (among (written_by c)) r ≡ false → Answered c result r r
answered_stays c result (Slot z) stays = Answered.kept (is_aside c z stays)
answered_stays c result (Static f) stays = Answered.static
answered_stays c result Returned stays = Answered.returned
answered_stays c result Thrown stays = Answered.thrown

slot_answered : (c : NodeCall) (result : Result) (z : ℕ) → among (written_by c) z ≡ false → Answered c result (Slot z) (Slot z)
slot_answered c result z stays = Answered.kept (is_aside c z stays)

-- ---- no argument is given

other_each : (c : NodeCall) (result : Result) → ((z : ℕ) → result ≢ an_argument z) → (r q : Root) → Answered c result r q
    → ((r ≡ q) × (slots_go (among (written_by c)) r ≡ false)) ⊎ Contains [] (root_copy r q)
other_each c result other r q (Answered.kept {z = z} aside) = inl (refl, aside_stays c z aside)
other_each c result other r q (Answered.given {z = z} is slot) = absurd (other z is)
other_each c result other r q Answered.static = inl (refl, refl)
other_each c result other r q Answered.returned = inl (refl, refl)
other_each c result other r q Answered.thrown = inl (refl, refl)

pub other_moves : (w : Setting) → Knows w → (l : LoweredMethod) (n : Node) → HasVariables l n → (c : NodeCall) (result : Result)
    → ((z : ℕ) → result ≢ an_argument z)
    → Moves (Answered c result) (Doubles l n (Answered c result)) [] (writing w l n (written_by c))
other_moves w knows l n has c result other = record {
  adds = λ set. refl;
  stays = answered_stays c result;
  copy = λ k there. absurd (contains_none k there);
  each = other_each c result other;
  own = λ r q goes. own goes;
  doubles = unwritten_double w knows l n has (among (written_by c)) (Answered c result) (slot_answered c result);
}

-- ---- an argument is given

abbrev pub given_copies : ℕ → Option ℕ → List Copy
given_copies z result = map (λ (r : ℕ). record { from = Slot z; to = Slot r }) (option_to_list result)

given_each : (c : NodeCall) (z : ℕ) (r q : Root) → Answered c (an_argument z) r q
    → ((r ≡ q) × (slots_go (among (written_by c)) r ≡ false)) ⊎ Contains (given_copies z c.result) (root_copy r q)
given_each c z r q (Answered.kept {z = y} aside) = inl (refl, aside_stays c y aside)
given_each c z r q (Answered.given {z = y} {target = target} is slot) =
    let same : y ≡ z = cc in
    inr (subst (λ (k : ℕ). Contains (given_copies z c.result) (root_copy (Slot k) (Slot target))) (sym same)
    (contains_map (λ (k : ℕ). root_copy (Slot z) (Slot k)) (option_to_list c.result) target (in_option c.result target slot)))
given_each c z r q Answered.static = inl (refl, refl)
given_each c z r q Answered.returned = inl (refl, refl)
given_each c z r q Answered.thrown = inl (refl, refl)

pub given_moves : (w : Setting) → Knows w → (l : LoweredMethod) (n : Node) → HasVariables l n → (c : NodeCall) (z : ℕ)
    → Moves (Answered c (an_argument z)) (Doubles l n (Answered c (an_argument z))) (given_copies z c.result) (giving w l n c z)
given_moves w knows l n has c z = record {
  adds = λ set. refl;
  stays = answered_stays c (an_argument z);
  copy = λ k there.
      let found = contained_in_map (λ (y : ℕ). root_copy (Slot z) (Slot y)) (option_to_list c.result) k there in
      subst (λ (k : Copy). Answered c (an_argument z) k.from k.to) found.2 (Answered.given refl (of_option c.result found.0 found.1));
  each = given_each c z;
  own = λ r q goes. own goes;
  doubles = λ r q there.
      let moves = flat_map (λ (y : ℕ). moved_to w l n z (Slot y) r) (option_to_list c.result) in
      elim (Contains-append_cases (unwritten w l n (among (written_by c)) r) moves q there) [
        | inl stays ↦ unwritten_double w knows l n has (among (written_by c)) (Answered c (an_argument z)) (slot_answered c (an_argument z)) r q stays
        | inr moved ↦
            let found = of_flat_map (λ (y : ℕ). moved_to w l n z (Slot y) r) (option_to_list c.result) q moved in
            moved_double w knows l n has z (Slot found.0) (Answered c (an_argument z)) (Answered.given refl (of_option c.result found.0 found.1)) r q found.2
      ];
}
