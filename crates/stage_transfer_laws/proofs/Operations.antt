-- Operations that go on: which roots are copied, which go, and which hold what those held that go.
use Rattle.std.proofs.Common.{◌≡◌, ◌⊎◌, inl, inr, ℕ, Bool, false, ◌||◌, List, [], ◌∷◌, map, refl, sym, ◌∙◌, ap, subst}
use Rattle.std.specs.Prelude.{◌≢◌}
use Rattle.std.specs.List.{Contains, flat_map}
use Rattle.std.proofs.lemmas.Bool.{false≢true, or_from, or_parts}
use Rattle.std.proofs.lemmas.List.Elements.{Contains-append_cases}
use Rattle.list_laws.proofs.Members.{contains_first, contains_none, contains_only}
use Rattle.jvm_model.specs.declared.number.FieldNo.{FieldNo}
use Rattle.op_model.specs.declared.lowered.LoweredMethod.{LoweredMethod}
use Rattle.op_model.specs.declared.node.Node.{Node}
use Rattle.op_model.specs.declared.op.Move.{Move}
use Rattle.op_model.specs.declared.op.Op.{Op}
use Rattle.op_model.specs.declared.op.Op.TheVariants.{Assign, LoadStatic, StoreStatic}
use Rattle.op_model.specs.declared.op.Source.{Source}
use Rattle.op_model.specs.declared.op.Source.TheVariants as sources
use Rattle.access_paths.specs.declared.root.Root.{Root}
use Rattle.access_paths.specs.declared.root.Root.TheVariants.{Slot, Static, Returned, Thrown}
use Rattle.access_paths.specs.Paths.{same_root}
use Rattle.stage_transfer.specs.Settings.{Setting, among}
use Rattle.stage_transfer.specs.Changes.{copied, Copy, copying, slots_go, unwritten, writing}
use Rattle.stage_transfer.specs.Operations.{assigning, copies_of, moved_by, storing_static, target_of}
use Rattle.stage_relations.specs.Roots.{Copied, Doubles, own, HasVariables, gone_slots, kept, moved, loaded, stored, static, returned, thrown}
use Rattle.stage_transfer_laws.proofs.Shapes.{copies_roots, shape}
use Rattle.stage_transfer_laws.proofs.Members.{not_among, none_among, of_flat_map, in_flat_map}
use Rattle.stage_transfer_laws.proofs.Alike.{Knows}
use Rattle.stage_transfer_laws.proofs.Changed.{Moves, root_copy}
use Rattle.stage_transfer_laws.proofs.Doubles.{moved_double, unwritten_double}
use Rattle.stage_transfer_laws.proofs.Paths.{is_root, other_root}

-- ---- operations that write slots and copy nothing

pub quiet_stays : (op : Op) → shape op ≢ copies_roots → (r : Root) → slots_go (among (gone_slots op)) r ≡ false → Copied op r r
quiet_stays op quiet (Slot z) stays = kept (not_among (gone_slots op) z stays)
quiet_stays op quiet (Static f) stays = static (λ y is. quiet (ap shape is))
quiet_stays op quiet Returned stays = returned
quiet_stays op quiet Thrown stays = thrown

pub quiet_each : (op : Op) → shape op ≢ copies_roots → (r q : Root) → Copied op r q → (r ≡ q) × (slots_go (among (gone_slots op)) r ≡ false)
quiet_each op quiet r q (kept {z = z} keeps) = (refl, none_among (gone_slots op) z keeps)
quiet_each op quiet r q (moved is there source) = absurd (quiet (ap shape is))
quiet_each op quiet r q (loaded is) = absurd (quiet (ap shape is))
quiet_each op quiet r q (stored is) = absurd (quiet (ap shape is))
quiet_each op quiet r q (static other) = (refl, refl)
quiet_each op quiet r q returned = (refl, refl)
quiet_each op quiet r q thrown = (refl, refl)

-- The slot that an operation does not write holds what it held.
slot_stays : (op : Op) (z : ℕ) → among (gone_slots op) z ≡ false → Copied op (Slot z) (Slot z)
slot_stays op z stays = kept (not_among (gone_slots op) z stays)

pub written_moves : (w : Setting) → Knows w → (l : LoweredMethod) (n : Node) → HasVariables l n → (op : Op) → shape op ≢ copies_roots
    → Moves (Copied op) (Doubles l n (Copied op)) [] (writing w l n (gone_slots op))
written_moves w knows l n has op quiet = record {
  adds = λ set. refl;
  stays = quiet_stays op quiet;
  copy = λ k there. absurd (contains_none k there);
  each = λ r q copied. inl (quiet_each op quiet r q copied);
  own = λ r q copied. own copied;
  doubles = unwritten_double w knows l n has (among (gone_slots op)) (Copied op) (slot_stays op);
}

-- ---- assignments

copy_moves : (moves : List Move) (m : Move) → Contains moves m → (s : Source) → m.source ≡ s → (k : Copy) → Contains (copies_of s m.target) k
    → Copied (Assign moves) k.from k.to
copy_moves moves m there (sources.Slot y) is k made =
    subst (λ (c : Copy). Copied (Assign moves) c.from c.to) (contains_only (root_copy (Slot y) (Slot m.target)) k made) (moved {m = m} {y = y} refl there is)
copy_moves moves m there sources.Null is k made = absurd (contains_none k made)
copy_moves moves m there sources.Primitive is k made = absurd (contains_none k made)

move_doubles : (w : Setting) → Knows w → (l : LoweredMethod) (n : Node) → HasVariables l n → (moves : List Move) (m : Move) → Contains moves m
    → (s : Source) → m.source ≡ s → (r q : Root) → Contains (moved_by w l n r s m.target) q → Doubles l n (Copied (Assign moves)) r q
move_doubles w knows l n has moves m there (sources.Slot y) is r q made =
    moved_double w knows l n has y (Slot m.target) (Copied (Assign moves)) (moved {m = m} {y = y} refl there is) r q made
move_doubles w knows l n has moves m there sources.Null is r q made = absurd (contains_none q made)
move_doubles w knows l n has moves m there sources.Primitive is r q made = absurd (contains_none q made)

assigned_stays : (moves : List Move) (r : Root) → slots_go (among (map target_of moves)) r ≡ false → Copied (Assign moves) r r
assigned_stays moves (Slot z) stays = kept (not_among (map target_of moves) z stays)
assigned_stays moves (Static f) stays = static (λ y e. absurd cc)
assigned_stays moves Returned stays = returned
assigned_stays moves Thrown stays = thrown

assigned_each : (moves : List Move) (r q : Root) → Copied (Assign moves) r q
    → ((r ≡ q) × (slots_go (among (map target_of moves)) r ≡ false)) ⊎ Contains (flat_map (λ (m : Move). copies_of m.source m.target) moves) (root_copy r q)
assigned_each moves r q (kept {z = z} keeps) = inl (refl, none_among (map target_of moves) z keeps)
assigned_each moves r q (moved {moves = others} {m = m} {y = y} is there source) =
    let same : others ≡ moves = cc in
    let copy : Copy = root_copy (Slot y) (Slot m.target) in
    inr (in_flat_map (λ (k : Move). copies_of k.source k.target) moves m copy (subst (λ (ms : List Move). Contains ms m) same there)
    (subst (λ (s : Source). Contains (copies_of s m.target) copy) (sym source) (contains_first copy [])))
assigned_each moves r q (loaded is) = absurd cc
assigned_each moves r q (stored is) = absurd cc
assigned_each moves r q (static other) = inl (refl, refl)
assigned_each moves r q returned = inl (refl, refl)
assigned_each moves r q thrown = inl (refl, refl)

pub assigned_moves : (w : Setting) → Knows w → (l : LoweredMethod) (n : Node) → HasVariables l n → (moves : List Move)
    → Moves (Copied (Assign moves)) (Doubles l n (Copied (Assign moves))) (flat_map (λ (m : Move). copies_of m.source m.target) moves) (assigning w l n moves)
assigned_moves w knows l n has moves = record {
  adds = λ set. refl;
  stays = assigned_stays moves;
  copy = λ k there.
      let found = of_flat_map (λ (m : Move). copies_of m.source m.target) moves k there in
      copy_moves moves found.0 found.1 found.0.source refl k found.2;
  each = assigned_each moves;
  own = λ r q copied. own copied;
  doubles = λ r q there. elim
      (Contains-append_cases (unwritten w l n (among (map target_of moves)) r) (flat_map (λ (m : Move). moved_by w l n r m.source m.target) moves) q there) [
        | inl stays ↦ unwritten_double w knows l n has (among (map target_of moves)) (Copied (Assign moves)) (slot_stays (Assign moves)) r q stays
        | inr goes ↦
            let found = of_flat_map (λ (m : Move). moved_by w l n r m.source m.target) moves q goes in
            move_doubles w knows l n has moves found.0 found.1 found.0.source refl r q found.2
      ];
}

-- ---- static fields

-- An operation that writes slots, and lets one root have what another had.
one_moves : (w : Setting) → Knows w → (l : LoweredMethod) (n : Node) → HasVariables l n → (op : Op) (goes : Root → Bool) (from to : Root) → Copied op from to
    → ((r : Root) → goes r ≡ false → Copied op r r)
    → ((r q : Root) → Copied op r q → ((r ≡ q) × (goes r ≡ false)) ⊎ Contains (root_copy from to ∷ []) (root_copy r q))
    → Moves (Copied op) (Doubles l n (Copied op)) (root_copy from to ∷ [])
    (record { adds = copied (root_copy from to ∷ []); goes = goes; doubles = unwritten w l n (among (gone_slots op)) })
one_moves w knows l n has op goes from to copies stays each = record {
  adds = λ set. refl;
  stays = stays;
  copy = λ k there. subst (λ (c : Copy). Copied op c.from c.to) (contains_only (root_copy from to) k there) copies;
  each = each;
  own = λ r q goes. own goes;
  doubles = unwritten_double w knows l n has (among (gone_slots op)) (Copied op) (slot_stays op);
}

loaded_stays : (field : FieldNo) (target : ℕ) (r : Root) → slots_go (among (target ∷ [])) r ≡ false → Copied (LoadStatic field target) r r
loaded_stays field target (Slot z) stays = kept (not_among (target ∷ []) z stays)
loaded_stays field target (Static f) stays = static (λ y e. absurd cc)
loaded_stays field target Returned stays = returned
loaded_stays field target Thrown stays = thrown

loaded_each : (field : FieldNo) (target : ℕ) (r q : Root) → Copied (LoadStatic field target) r q
    → ((r ≡ q) × (slots_go (among (target ∷ [])) r ≡ false)) ⊎ Contains (root_copy (Static field) (Slot target) ∷ []) (root_copy r q)
loaded_each field target r q (kept {z = z} keeps) = inl (refl, none_among (target ∷ []) z keeps)
loaded_each field target r q (moved is there source) = absurd cc
loaded_each field target r q (loaded {f = f} {z = z} is) =
    let same_field : f ≡ field = cc in
    let same_slot : z ≡ target = cc in
    inr (subst (λ (g : FieldNo). Contains (root_copy (Static field) (Slot target) ∷ []) (root_copy (Static g) (Slot z))) (sym same_field)
    (subst (λ (y : ℕ). Contains (root_copy (Static field) (Slot target) ∷ []) (root_copy (Static field) (Slot y))) (sym same_slot)
    (contains_first (root_copy (Static field) (Slot target)) [])))
loaded_each field target r q (stored is) = absurd cc
loaded_each field target r q (static other) = inl (refl, refl)
loaded_each field target r q returned = inl (refl, refl)
loaded_each field target r q thrown = inl (refl, refl)

pub loaded_moves : (w : Setting) → Knows w → (l : LoweredMethod) (n : Node) → HasVariables l n → (field : FieldNo) (target : ℕ)
    → Moves (Copied (LoadStatic field target)) (Doubles l n (Copied (LoadStatic field target))) (root_copy (Static field) (Slot target) ∷ [])
    (copying w l n (target ∷ []) (root_copy (Static field) (Slot target)))
loaded_moves w knows l n has field target =
    one_moves w knows l n has (LoadStatic field target) (slots_go (among (target ∷ []))) (Static field) (Slot target)
    (loaded refl) (loaded_stays field target) (loaded_each field target)

stored_stays : (field : FieldNo) (value : ℕ) (r : Root) → (slots_go (among (value ∷ [])) r || same_root (Static field) r) ≡ false
    → Copied (StoreStatic field value) r r
stored_stays field value (Slot z) stays = kept (not_among (value ∷ []) z (or_parts (among (value ∷ []) z) (same_root (Static field) (Slot z)) stays).0)
stored_stays field value (Static f) stays = static (λ y (e : StoreStatic field value ≡ StoreStatic f y).
    let same : field ≡ f = cc in
    false≢true (sym stays ∙ is_root (Static field) (Static f) (ap Static same)))
stored_stays field value Returned stays = returned
stored_stays field value Thrown stays = thrown

stored_each : (field : FieldNo) (value : ℕ) (r q : Root) → Copied (StoreStatic field value) r q
    → ((r ≡ q) × ((slots_go (among (value ∷ [])) r || same_root (Static field) r) ≡ false))
    ⊎ Contains (root_copy (Slot value) (Static field) ∷ []) (root_copy r q)
stored_each field value r q (kept {z = z} keeps) =
    inl (refl, or_from (among (value ∷ []) z) (same_root (Static field) (Slot z)) (none_among (value ∷ []) z keeps) refl)
stored_each field value r q (moved is there source) = absurd cc
stored_each field value r q (loaded is) = absurd cc
stored_each field value r q (stored {f = f} {y = y} is) =
    let same_field : f ≡ field = cc in
    let same_slot : y ≡ value = cc in
    inr (subst (λ (g : FieldNo). Contains (root_copy (Slot value) (Static field) ∷ []) (root_copy (Slot y) (Static g))) (sym same_field)
    (subst (λ (z : ℕ). Contains (root_copy (Slot value) (Static field) ∷ []) (root_copy (Slot z) (Static field))) (sym same_slot)
    (contains_first (root_copy (Slot value) (Static field)) [])))
stored_each field value r q (static {f = f} other) = inl (
  refl,
  other_root (Static field) (Static f) (λ (e : Static field ≡ Static f).
      let same : field ≡ f = cc in
      other value (ap (λ (g : FieldNo). StoreStatic g value) same)),
)
stored_each field value r q returned = inl (refl, refl)
stored_each field value r q thrown = inl (refl, refl)

pub stored_moves : (w : Setting) → Knows w → (l : LoweredMethod) (n : Node) → HasVariables l n → (field : FieldNo) (value : ℕ)
    → Moves (Copied (StoreStatic field value)) (Doubles l n (Copied (StoreStatic field value))) (root_copy (Slot value) (Static field) ∷ [])
    (storing_static w l n field value)
stored_moves w knows l n has field value =
    one_moves w knows l n has (StoreStatic field value) (λ (r : Root). slots_go (among (value ∷ [])) r || same_root (Static field) r) (Slot value) (Static field)
    (stored refl) (stored_stays field value) (stored_each field value)
