-- The paths of a set after a store, before its operands go; and what is gathered of them.
use Rattle.std.proofs.Common.{◌≡◌, ◌⊎◌, inl, inr, ℕ, ◌+◌, nat_eq, nat_le, nat_lt, Bool, true, false, cond, not, ◌&&◌, ◌||◌, List, [], ◌∷◌, ◌++◌, length, map, refl, sym, ◌∙◌, ap, subst, arith, append-nil, if◌then◌else◌}
use Rattle.std.specs.List.{Contains, filter, flat_map, range_with_len}
use Rattle.std.proofs.lemmas.Bool.{and_from, and_parts, both_ways, cond-false, cond-true, eq-eqb, eqb-true, leb-true, lt-ltb, le-leb, ltb-true, not-true, not_from_false, or_left}
use Rattle.std.proofs.lemmas.List.{map-id}
use Rattle.std.proofs.lemmas.List.Elements.{Contains-append_cases, Contains-append_left, Contains-append_right}
use Rattle.std.proofs.lemmas.List.FromFn.{map-range_with_len_more}
use Rattle.list_laws.proofs.Members.{contained_in_map, contains_first, contains_map, contains_none, contains_only}
use Rattle.jvm_model.specs.declared.number.FieldNo.{FieldNo}
use Rattle.op_model.specs.declared.lowered.LoweredMethod.{LoweredMethod}
use Rattle.op_model.specs.declared.node.Node.{Node}
use Rattle.slot_names.specs.declared.variable.Variable.{Variable}
use Rattle.access_paths.specs.declared.root.Root.{Root}
use Rattle.access_paths.specs.declared.root.Root.TheVariants.{Slot}
use Rattle.access_paths.specs.Paths.{Path, path_set}
use Rattle.access_paths.proofs.SetMembers.{one_set, path_set_ordered}
use Rattle.stage_transfer.specs.Settings.{Setting, alike, same_variable}
use Rattle.stage_transfer.specs.Changes.{begins_at, slots_go}
use Rattle.stage_transfer.specs.Operations.{is_short, passes_field, stored, stored_set, unstored}
use Rattle.stage_transfer_laws.proofs.Alike.{variable_is}
use Rattle.stage_transfer_laws.proofs.Members.{among_those, in_filter, in_flat_map, in_range, is_among, of_filter, of_flat_map}
use Rattle.stage_transfer_laws.proofs.Paths.{in_set, of_set}
use Rattle.stage_views.proofs.Gathered.{one_test}
use Rattle.stage_flow.specs.declared.store.FieldStore.{FieldStore}
use Rattle.stage_flow.specs.Shapes.{is_like}
use Rattle.stage_flow.specs.Stores.{all_slots, given_path, is_free, operands, own_path, stored_at, stored_fields, stored_path}
use Rattle.stage_flow.proofs.OneVariable.{like_is}

-- ---- numbers and sets

pub range_more : (k : ℕ) → range_with_len 0 (k + 1) ≡ range_with_len 0 k ++ k ∷ []
range_more k =
    sym (map-id (range_with_len 0 (k + 1)))
    ∙ map-range_with_len_more (λ (x : ℕ). x) 0 k k (omega arith)
    ∙ ap (λ (xs : List ℕ). xs ++ k ∷ []) (map-id (range_with_len 0 k))

-- lists with the same paths are one set
pub same_set : (xs ys : List Path) → ((z : Path) → Contains xs z → Contains ys z) → ((z : Path) → Contains ys z → Contains xs z) → path_set xs ≡ path_set ys
same_set xs ys to back =
    one_set (path_set xs) (path_set ys) (path_set_ordered xs) (path_set_ordered ys)
    (λ z there. in_set ys z (to z (of_set xs z there))) (λ z there. in_set xs z (back z (of_set ys z there)))

-- ---- slots of one variable

pub like_like : (w : Setting) (l : LoweredMethod) (n : Node) (o z k : ℕ) → is_like w l n o z ≡ true → is_like w l n o k ≡ true → is_like w l n z k ≡ true
like_like w l n o z k first second = by (nat_lt o (l.slots + l.stack)) refl first second
  where
    by : (b : Bool) → nat_lt o (l.slots + l.stack) ≡ b
        → cond b (nat_lt z (l.slots + l.stack) && same_variable (w.answers.variable_at l n z) (w.answers.variable_at l n o)) (nat_eq z o) ≡ true
        → cond b (nat_lt k (l.slots + l.stack) && same_variable (w.answers.variable_at l n k) (w.answers.variable_at l n o)) (nat_eq k o) ≡ true
        → cond (nat_lt z (l.slots + l.stack)) (nat_lt k (l.slots + l.stack) && same_variable (w.answers.variable_at l n k) (w.answers.variable_at l n z)) (nat_eq k z) ≡ true
    by true below one other =
        let ones = and_parts (nat_lt z (l.slots + l.stack)) (same_variable (w.answers.variable_at l n z) (w.answers.variable_at l n o)) one in
        let others = and_parts (nat_lt k (l.slots + l.stack)) (same_variable (w.answers.variable_at l n k) (w.answers.variable_at l n o)) other in
        let same = variable_is (w.answers.variable_at l n z) (w.answers.variable_at l n o) ones.1 in
        cond-true (nat_lt z (l.slots + l.stack)) (nat_lt k (l.slots + l.stack) && same_variable (w.answers.variable_at l n k) (w.answers.variable_at l n z)) (nat_eq k z) ones.0
        ∙ and_from (nat_lt k (l.slots + l.stack)) (same_variable (w.answers.variable_at l n k) (w.answers.variable_at l n z)) others.0
        (subst (λ (v : Variable). same_variable (w.answers.variable_at l n k) v ≡ true) (sym same) others.1)
    by false above one other =
        let z_is = eqb-true z o one in
        cond-false (nat_lt z (l.slots + l.stack)) (nat_lt k (l.slots + l.stack) && same_variable (w.answers.variable_at l n k) (w.answers.variable_at l n z)) (nat_eq k z)
        (ap (λ (y : ℕ). nat_lt y (l.slots + l.stack)) z_is ∙ above)
        ∙ eq-eqb k z (eqb-true k o other ∙ sym z_is)

-- a free slot is one of the method
pub free_inside : (w : Setting) (l : LoweredMethod) (n : Node) (s : FieldStore) (k : ℕ) → is_free w l n s k ≡ true → Contains (all_slots l) k
free_inside w l n s k free =
    let parts = and_parts (not (operands s k)) (is_like w l n s.object k) free in
    by (nat_lt s.object (l.slots + l.stack)) (not-true (operands s k) parts.0) parts.1
  where
    by : (b : Bool) → operands s k ≡ false
        → cond b (nat_lt k (l.slots + l.stack) && same_variable (w.answers.variable_at l n k) (w.answers.variable_at l n s.object)) (nat_eq k s.object) ≡ true
        → Contains (range_with_len 0 (l.slots + l.stack)) k
    by true unwritten like =
        let parts = and_parts (nat_lt k (l.slots + l.stack)) (same_variable (w.answers.variable_at l n k) (w.answers.variable_at l n s.object)) like in
        in_range 0 (l.slots + l.stack) k (omega arith) (omega (arith, ltb-true k (l.slots + l.stack) parts.0))
    by false unwritten like = absurd (both_ways (operands s k) unwritten (or_left (nat_eq k s.object) (nat_eq k s.value || false) like))

-- the object is one of its variable's slots
pub like_itself : (w : Setting) (l : LoweredMethod) (n : Node) (z : ℕ) → Contains (alike w l n z) z → is_like w l n z z ≡ true
like_itself w l n z there = sym (like_is w l n z z) ∙ among_those (alike w l n z) z there

-- ---- paths after a store

-- A path that was there, and does not follow the field.
pub record OldPath (field : FieldNo) (set : List Path) (y : Path) : Type 0 where
  pub listed : Contains set y
  pub passes : passes_field field y ≡ false

-- A path of the value, as one of the field by a slot of the object's variable.
pub record NewPath (w : Setting) (l : LoweredMethod) (n : Node) (s : FieldStore) (set : List Path) (y : Path) : Type 0 where
  pub source : Path
  pub old : OldPath s.field set source
  pub begins : begins_at (Slot s.value) source ≡ true
  pub short : nat_lt (length source.fields) w.depth ≡ true
  pub slot : ℕ
  pub like : is_like w l n s.object slot ≡ true
  pub is : record { root = Slot slot; fields = s.field ∷ source.fields } ≡ y

abbrev pub after_store_of : Setting → LoweredMethod → Node → FieldStore → List Path → List Path
after_store_of w l n s set = stored_set w l n s.object s.field s.value set

pub short_behind : (w : Setting) (r : Root) (field : FieldNo) (fields : List FieldNo) → is_short w (record { root = r; fields = field ∷ fields }) ≡ nat_lt (length fields) w.depth
short_behind w r field fields =
    one_test (nat_le (length (field ∷ fields)) w.depth) (nat_lt (length fields) w.depth)
    (λ is. let h = leb-true (length (field ∷ fields)) w.depth is in lt-ltb (length fields) w.depth (omega arith))
    (λ is. let h = ltb-true (length fields) w.depth is in le-leb (length (field ∷ fields)) w.depth (omega arith))

pub of_unstored : (field : FieldNo) (set : List Path) (y : Path) → Contains (unstored field set) y → OldPath field set y
of_unstored field set y there =
    let found = of_filter (λ (x : Path). not (passes_field field x)) set y there in
    record { listed = found.0; passes = not-true (passes_field field y) found.1 }

pub in_unstored : (field : FieldNo) (set : List Path) (y : Path) → OldPath field set y → Contains (unstored field set) y
in_unstored field set y old = in_filter (λ (x : Path). not (passes_field field x)) set y old.listed (not_from_false (passes_field field y) old.passes)

module _ (w : Setting) (l : LoweredMethod) (n : Node) (s : FieldStore) (set : List Path) where
  -- what is stored, be it short or long
  pub record IsStored (y : Path) : Type 0 where
    pub source : Path
    pub old : OldPath s.field set source
    pub begins : begins_at (Slot s.value) source ≡ true
    pub slot : ℕ
    pub like : is_like w l n s.object slot ≡ true
    pub is : record { root = Slot slot; fields = s.field ∷ source.fields } ≡ y

  pub of_all_stored : (y : Path) → Contains (stored w l n s.object s.field s.value (unstored s.field set)) y → IsStored y
  of_all_stored y there =
      let values = filter (begins_at (Slot s.value)) (unstored s.field set) in
      let found = of_flat_map (λ (z : ℕ). map (λ (x : Path). record { root = Slot z; fields = s.field ∷ x.fields }) values) (alike w l n s.object) y there in
      let made = contained_in_map (λ (x : Path). record { root = Slot found.0; fields = s.field ∷ x.fields }) values y found.2 in
      let value = of_filter (begins_at (Slot s.value)) (unstored s.field set) made.0 made.1 in
      record {
        source = made.0;
        old = of_unstored s.field set made.0 value.0;
        begins = value.1;
        slot = found.0;
        like = sym (like_is w l n s.object found.0) ∙ among_those (alike w l n s.object) found.0 found.1;
        is = made.2;
      }

  pub in_all_stored : (x : Path) (z : ℕ) → OldPath s.field set x → begins_at (Slot s.value) x ≡ true → is_like w l n s.object z ≡ true
      → Contains (stored w l n s.object s.field s.value (unstored s.field set)) (record { root = Slot z; fields = s.field ∷ x.fields })
  in_all_stored x z old begins like =
      let values = filter (begins_at (Slot s.value)) (unstored s.field set) in
      in_flat_map (λ (k : ℕ). map (λ (p : Path). record { root = Slot k; fields = s.field ∷ p.fields }) values) (alike w l n s.object) z
      (record { root = Slot z; fields = s.field ∷ x.fields })
      (is_among (alike w l n s.object) z (like_is w l n s.object z ∙ like))
      (contains_map (λ (p : Path). record { root = Slot z; fields = s.field ∷ p.fields }) values x
      (in_filter (begins_at (Slot s.value)) (unstored s.field set) x (in_unstored s.field set x old) begins))

  pub of_stored : (y : Path) → Contains (after_store_of w l n s set) y → OldPath s.field set y ⊎ NewPath w l n s set y
  of_stored y there =
      let all = stored w l n s.object s.field s.value (unstored s.field set) in
      elim (Contains-append_cases (unstored s.field set) (filter (is_short w) all) y (of_set (unstored s.field set ++ filter (is_short w) all) y there)) [
        | inl old ↦ inl (of_unstored s.field set y old)
        | inr new ↦
            let found = of_filter (is_short w) all y new in
            let made = of_all_stored y found.0 in
            inr (record {
              source = made.source;
              old = made.old;
              begins = made.begins;
              short = sym (short_behind w (Slot made.slot) s.field made.source.fields) ∙ ap (is_short w) made.is ∙ found.1;
              slot = made.slot;
              like = made.like;
              is = made.is;
            })
      ]

  pub in_old : (y : Path) → OldPath s.field set y → Contains (after_store_of w l n s set) y
  in_old y old =
      let all = stored w l n s.object s.field s.value (unstored s.field set) in
      in_set (unstored s.field set ++ filter (is_short w) all) y
      (Contains-append_left (unstored s.field set) (filter (is_short w) all) y (in_unstored s.field set y old))

  pub in_new : (x : Path) (z : ℕ) → OldPath s.field set x → begins_at (Slot s.value) x ≡ true → nat_lt (length x.fields) w.depth ≡ true
      → is_like w l n s.object z ≡ true → Contains (after_store_of w l n s set) (record { root = Slot z; fields = s.field ∷ x.fields })
  in_new x z old begins short like =
      let all = stored w l n s.object s.field s.value (unstored s.field set) in
      let y : Path = record { root = Slot z; fields = s.field ∷ x.fields } in
      in_set (unstored s.field set ++ filter (is_short w) all) y
      (Contains-append_right (unstored s.field set) (filter (is_short w) all) y
      (in_filter (is_short w) all y (in_all_stored x z old begins like) (short_behind w (Slot z) s.field x.fields ∙ short)))

  -- ---- what is gathered

  -- the paths that are left when the operands go
  abbrev pub kept_of : List Path
  kept_of = filter (λ (x : Path). not (slots_go (operands s) x.root)) (after_store_of w l n s set) ++ []

  in_kept : (y : Path) → Contains (after_store_of w l n s set) y → slots_go (operands s) y.root ≡ false → Contains kept_of y
  in_kept y there stays =
      Contains-append_left (filter (λ (x : Path). not (slots_go (operands s) x.root)) (after_store_of w l n s set)) [] y
      (in_filter (λ (x : Path). not (slots_go (operands s) x.root)) (after_store_of w l n s set) y there (not_from_false (slots_go (operands s) y.root) stays))

  own_kept : (x y : Path) → OldPath s.field set x → (b : Bool) → slots_go (operands s) x.root ≡ b → Contains (if b then [] else x ∷ []) y → Contains kept_of y
  own_kept x y old true goes there = absurd (contains_none y there)
  own_kept x y old false stays there = subst (λ (p : Path). Contains kept_of p) (contains_only x y there) (in_kept x (in_old x old) stays)

  at_kept : (x y : Path) (k : ℕ) → OldPath s.field set x → begins_at (Slot s.value) x ≡ true → nat_lt (length x.fields) w.depth ≡ true
      → (b : Bool) → is_free w l n s k ≡ b → Contains (if b then record { root = Slot k; fields = s.field ∷ x.fields } ∷ [] else []) y → Contains kept_of y
  at_kept x y k old begins short true free there =
      let parts = and_parts (not (operands s k)) (is_like w l n s.object k) free in
      subst (λ (p : Path). Contains kept_of p) (contains_only (record { root = Slot k; fields = s.field ∷ x.fields }) y there)
      (in_kept (record { root = Slot k; fields = s.field ∷ x.fields }) (in_new x k old begins short parts.1) (not-true (operands s k) parts.0))
  at_kept x y k old begins short false free there = absurd (contains_none y there)

  stored_kept : (x y : Path) → OldPath s.field set x → (a b : Bool) → begins_at (Slot s.value) x ≡ a → nat_lt (length x.fields) w.depth ≡ b
      → Contains (if a then (if b then stored_fields w l n s (s.field ∷ x.fields) else []) else []) y → Contains kept_of y
  stored_kept x y old true true begins short there =
      let found = of_flat_map (stored_at w l n s (s.field ∷ x.fields)) (all_slots l) y there in
      at_kept x y found.0 old begins short (is_free w l n s found.0) refl found.2
  stored_kept x y old true false begins long there = absurd (contains_none y there)
  stored_kept x y old false b others short there = absurd (contains_none y there)

  given_kept : (x y : Path) → Contains set x → (b : Bool) → passes_field s.field x ≡ b
      → Contains (if b then [] else own_path s x ++ stored_path w l n s x) y → Contains kept_of y
  given_kept x y listed true passes there = absurd (contains_none y there)
  given_kept x y listed false passes there =
      let old : OldPath s.field set x = record { listed = listed; passes = passes } in
      elim (Contains-append_cases (own_path s x) (stored_path w l n s x) y there) [
        | inl own ↦ own_kept x y old (slots_go (operands s) x.root) refl own
        | inr stored ↦ stored_kept x y old (begins_at (Slot s.value) x) (nat_lt (length x.fields) w.depth) refl refl stored
      ]

  given_by : (x y : Path) → Contains set x → passes_field s.field x ≡ false → Contains (own_path s x ++ stored_path w l n s x) y
      → Contains (flat_map (given_path w l n s) set) y
  given_by x y listed passes there =
      in_flat_map (given_path w l n s) set x y listed
      (subst (λ (ps : List Path). Contains ps y)
      (sym (cond-false (passes_field s.field x) [] (own_path s x ++ stored_path w l n s x) passes)) there)

  pub gathered_kept : path_set (flat_map (given_path w l n s) set) ≡ path_set kept_of
  gathered_kept =
      same_set (flat_map (given_path w l n s) set) kept_of
      (λ y there.
      let found = of_flat_map (given_path w l n s) set y there in
      given_kept found.0 y found.1 (passes_field s.field found.0) refl found.2)
      (λ y there.
      let kept = of_filter (λ (x : Path). not (slots_go (operands s) x.root)) (after_store_of w l n s set) y
      (subst (λ (ps : List Path). Contains ps y) (append-nil (filter (λ (x : Path). not (slots_go (operands s) x.root)) (after_store_of w l n s set))) there) in
      let stays = not-true (slots_go (operands s) y.root) kept.1 in
      elim (of_stored y kept.0) [
        | inl old ↦
            given_by y y old.listed old.passes
            (Contains-append_left (own_path s y) (stored_path w l n s y) y
            (subst (λ (ps : List Path). Contains ps y) (sym (cond-false (slots_go (operands s) y.root) [] (y ∷ []) stays)) (contains_first y [])))
        | inr new ↦ new_given y new stays
      ])
    where
      new_given : (y : Path) → NewPath w l n s set y → slots_go (operands s) y.root ≡ false → Contains (flat_map (given_path w l n s) set) y
      new_given y new stays =
          let x = new.source in
          let unwritten : operands s new.slot ≡ false = ap (λ (p : Path). slots_go (operands s) p.root) new.is ∙ stays in
          let free = and_from (not (operands s new.slot)) (is_like w l n s.object new.slot) (not_from_false (operands s new.slot) unwritten) new.like in
          let path : Path = record { root = Slot new.slot; fields = s.field ∷ x.fields } in
          let fields = s.field ∷ x.fields in
          let made =
          in_flat_map (stored_at w l n s fields) (all_slots l) new.slot path (free_inside w l n s new.slot free)
          (subst (λ (ps : List Path). Contains ps path) (sym (cond-true (is_free w l n s new.slot) (path ∷ []) [] free)) (contains_first path [])) in
          let is_path : stored_path w l n s x ≡ stored_fields w l n s fields =
          cond-true (begins_at (Slot s.value) x) (if nat_lt (length x.fields) w.depth then stored_fields w l n s fields else []) [] new.begins
          ∙ cond-true (nat_lt (length x.fields) w.depth) (stored_fields w l n s fields) [] new.short in
          subst (λ (p : Path). Contains (flat_map (given_path w l n s) set) p) new.is
          (given_by x path new.old.listed new.old.passes
          (Contains-append_right (own_path s x) (stored_path w l n s x) path (subst (λ (ps : List Path). Contains ps path) (sym is_path) made)))
