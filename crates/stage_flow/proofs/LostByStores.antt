-- Which paths a store loses: the code's test of each path is that of the definitions, of the set before the operands go.
use Rattle.std.proofs.Common.{◌≡◌, ◌⊎◌, inl, inr, ℕ, nat_eq, nat_lt, Bool, true, false, not, ◌&&◌, ◌||◌, List, [], ◌∷◌, length, map, refl, sym, ◌∙◌, ap, subst}
use Rattle.std.specs.List.{Contains, filter, list_any}
use Rattle.std.proofs.lemmas.Bool.{and_from, and_parts, both_ways, cond-false, cond-true, eq-eqb, false_from_ne_true, false≢true, not-true, not_from_false, or_cases, or_left, or_right}
use Rattle.list_laws.proofs.Members.{contained_in_map, contains_map, contains_none}
use Rattle.jvm_model.specs.declared.number.FieldNo.{FieldNo}
use Rattle.op_model.specs.declared.lowered.LoweredMethod.{LoweredMethod}
use Rattle.op_model.specs.declared.node.Node.{Node}
use Rattle.access_paths.specs.declared.root.Root.{Root}
use Rattle.access_paths.specs.declared.root.Root.TheVariants.{Slot, Static, Returned, Thrown}
use Rattle.access_paths.specs.Paths.{Path, has_path, same_path}
use Rattle.stage_transfer.specs.Settings.{Setting, alike, same_field}
use Rattle.stage_transfer.specs.Changes.{begins_at, changed_set, has_fields, is_doubled, is_lost, slots_go, unwritten, with_root, writing}
use Rattle.stage_transfer.specs.Operations.{field_of, is_short, is_stored_field, passes_field, store_loses, stored, unstored}
use Rattle.stage_transfer_laws.proofs.Alike.{alike_itself}
use Rattle.stage_transfer_laws.proofs.Changed.{doubled_by, of_changed, staying}
use Rattle.stage_transfer_laws.proofs.Members.{among_those, any_passes, in_filter, is_among, of_filter, one_passes}
use Rattle.access_paths.proofs.KeyOrders.{same_is_one}
use Rattle.stage_transfer_laws.proofs.Paths.{has_it, is_path, it_has}
use Rattle.stage_views.proofs.Gathered.{one_test}
use Rattle.stage_flow.specs.declared.store.FieldStore.{FieldStore}
use Rattle.stage_flow.specs.Shapes.{is_double, is_like, may_double}
use Rattle.stage_flow.specs.Stores.{all_slots, field_by, has_free, is_free, is_owner, is_own_field, loses_by, loses_root, loses_value, operands}
use Rattle.stage_flow.proofs.OneVariable.{like_is}
use Rattle.stage_flow.proofs.StoredPaths.{after_store_of, free_inside, in_all_stored, in_new, in_old, like_itself, like_like, of_all_stored, of_stored, short_behind, NewPath, OldPath}

-- ---- roots that double others

pub record Doubling (w : Setting) (l : LoweredMethod) (n : Node) (written : ℕ → Bool) (q r : Root) : Type 0 where
  pub from : ℕ
  pub to : ℕ
  pub first : q ≡ Slot from
  pub second : r ≡ Slot to
  pub free : written to ≡ false
  pub like : is_like w l n from to ≡ true

of_may_double : (w : Setting) (l : LoweredMethod) (n : Node) (written : ℕ → Bool) (q r : Root) → may_double w l n written q r ≡ true → Doubling w l n written q r
of_may_double w l n written (Slot z) (Slot y) is =
    let parts = and_parts (not (written y)) (is_like w l n z y) is in
    record { from = z; to = y; first = refl; second = refl; free = not-true (written y) parts.0; like = parts.1 }
of_may_double w l n written (Slot z) (Static f) is = absurd (false≢true is)
of_may_double w l n written (Slot z) Returned is = absurd (false≢true is)
of_may_double w l n written (Slot z) Thrown is = absurd (false≢true is)
of_may_double w l n written (Static f) r is = absurd (false≢true is)
of_may_double w l n written Returned r is = absurd (false≢true is)
of_may_double w l n written Thrown r is = absurd (false≢true is)

in_may_double : (w : Setting) (l : LoweredMethod) (n : Node) (written : ℕ → Bool) (q r : Root) → Doubling w l n written q r → may_double w l n written q r ≡ true
in_may_double w l n written q r d =
    let both = and_from (not (written d.to)) (is_like w l n d.from d.to) (not_from_false (written d.to) d.free) d.like in
    (λ i. may_double w l n written (d.first i) (d.second i)) ∙ both

of_unwritten : (w : Setting) (l : LoweredMethod) (n : Node) (written : ℕ → Bool) (q r : Root) → Contains (unwritten w l n written q) r → Doubling w l n written q r
of_unwritten w l n written (Slot z) r there =
    let free = filter (λ (y : ℕ). not (written y)) (alike w l n z) in
    let slot = contained_in_map Slot free r there in
    let kept = of_filter (λ (y : ℕ). not (written y)) (alike w l n z) slot.0 slot.1 in
    record {
      from = z;
      to = slot.0;
      first = refl;
      second = sym slot.2;
      free = not-true (written slot.0) kept.1;
      like = sym (like_is w l n z slot.0) ∙ among_those (alike w l n z) slot.0 kept.0;
    }
of_unwritten w l n written (Static f) r there = absurd (contains_none r there)
of_unwritten w l n written Returned r there = absurd (contains_none r there)
of_unwritten w l n written Thrown r there = absurd (contains_none r there)

in_unwritten : (w : Setting) (l : LoweredMethod) (n : Node) (written : ℕ → Bool) (q r : Root) → Doubling w l n written q r → Contains (unwritten w l n written q) r
in_unwritten w l n written q r d =
    let free = filter (λ (y : ℕ). not (written y)) (alike w l n d.from) in
    let there = contains_map Slot free d.to
    (in_filter (λ (y : ℕ). not (written y)) (alike w l n d.from) d.to (is_among (alike w l n d.from) d.to (like_is w l n d.from d.to ∙ d.like))
    (not_from_false (written d.to) d.free)) in
    subst (λ (p : Root). Contains (unwritten w l n written p) r) (sym d.first) (subst (λ (p : Root). Contains (map Slot free) p) (sym d.second) there)

-- ---- the field itself

own_root : (w : Setting) (l : LoweredMethod) (n : Node) (object : ℕ) (r : Root) → is_owner w l n object r ≡ true → (z : ℕ) × (r ≡ Slot z) × (is_like w l n object z ≡ true)
own_root w l n object (Slot z) is = (z, refl, is)
own_root w l n object (Static f) is = absurd (false≢true is)
own_root w l n object Returned is = absurd (false≢true is)
own_root w l n object Thrown is = absurd (false≢true is)

own_field : (w : Setting) (l : LoweredMethod) (n : Node) (s : FieldStore) (x : Path) → is_stored_field w l n s.object s.field x ≡ is_own_field w l n s x
own_field w l n s x =
    one_test (is_stored_field w l n s.object s.field x) (is_own_field w l n s x)
    (λ is.
    let found = contained_in_map (λ (z : ℕ). field_of z s.field) (alike w l n s.object) x
    (has_it (map (λ (z : ℕ). field_of z s.field) (alike w l n s.object)) x is) in
    let like = sym (like_is w l n s.object found.0) ∙ among_those (alike w l n s.object) found.0 found.1 in
    subst (λ (p : Path). is_own_field w l n s p ≡ true) found.2
    (and_from (is_like w l n s.object found.0) (same_path (field_of found.0 s.field) (field_of found.0 s.field)) like
    (is_path (field_of found.0 s.field) (field_of found.0 s.field) refl)))
    (λ is.
    let parts = and_parts (is_owner w l n s.object x.root) (same_path x (field_by x.root s.field)) is in
    let own = own_root w l n s.object x.root parts.0 in
    let same : field_of own.0 s.field ≡ x = (λ i. field_by (sym own.1 i) s.field) ∙ sym (same_is_one x (field_by x.root s.field) parts.1) in
    it_has (map (λ (z : ℕ). field_of z s.field) (alike w l n s.object)) x
    (subst (λ (p : Path). Contains (map (λ (z : ℕ). field_of z s.field) (alike w l n s.object)) p) same
    (contains_map (λ (z : ℕ). field_of z s.field) (alike w l n s.object) own.0
    (is_among (alike w l n s.object) own.0 (like_is w l n s.object own.0 ∙ own.2)))))

-- ---- paths that are doubled after a store

module _ (w : Setting) (l : LoweredMethod) (n : Node) (s : FieldStore) (set : List Path) where
  abbrev pub writes_of : List ℕ
  writes_of = s.object ∷ s.value ∷ []

  abbrev pub left_of_store : List Path
  left_of_store = changed_set (writing w l n writes_of) (after_store_of w l n s set)

  abbrev pub doubled_after : Path → Bool
  doubled_after = is_doubled (unwritten w l n (operands s)) left_of_store

  -- a path that is there by a slot that doubles the root
  doubled_there : (y : Path) (r : Root) → Doubling w l n (operands s) y.root r → Contains (after_store_of w l n s set) (with_root r y) → doubled_after y ≡ true
  doubled_there y r d there =
      let goes : slots_go (operands s) r ≡ false = ap (slots_go (operands s)) d.second ∙ d.free in
      any_passes (λ (q : Root). has_path left_of_store (with_root q y)) (unwritten w l n (operands s) y.root) r
      (in_unwritten w l n (operands s) y.root r d)
      (it_has left_of_store (with_root r y) (staying (writing w l n writes_of) (after_store_of w l n s set) (with_root r y) there goes))

  stands_doubled : (y : Path) → passes_field s.field y ≡ false → list_any (is_double w l n (operands s) y) set ≡ true → doubled_after y ≡ true
  stands_doubled y passes any =
      let found = one_passes (is_double w l n (operands s) y) set any in
      let parts = and_parts (may_double w l n (operands s) y.root found.0.root) (same_path found.0 (with_root found.0.root y)) found.2 in
      let same = same_is_one found.0 (with_root found.0.root y) parts.1 in
      let old : OldPath s.field set found.0 =
      record { listed = found.1; passes = ap (λ (p : Path). passes_field s.field p) same ∙ passes } in
      doubled_there y found.0.root (of_may_double w l n (operands s) y.root found.0.root parts.0)
      (subst (λ (p : Path). Contains (after_store_of w l n s set) p) same (in_old w l n s set found.0 old))

  doubled_stands : (y : Path) → passes_field s.field y ≡ false → doubled_after y ≡ true → list_any (is_double w l n (operands s) y) set ≡ true
  doubled_stands y passes is =
      let found = doubled_by (unwritten w l n (operands s)) left_of_store y is in
      let d = of_unwritten w l n (operands s) y.root found.root found.listed in
      let path : Path = with_root found.root y in
      elim (of_changed (writing w l n writes_of) (after_store_of w l n s set) path found.has) [
        | inl stays ↦ elim (of_stored w l n s set path stays.0) [
          | inl old ↦
              any_passes (is_double w l n (operands s) y) set path old.listed
              (and_from (may_double w l n (operands s) y.root found.root) (same_path path path) (in_may_double w l n (operands s) y.root found.root d)
              (is_path path path refl))
          | inr new ↦
              absurd (both_ways (passes_field s.field y) passes
              (ap (λ (p : Path). passes_field s.field p) (sym new.is)
              ∙ or_left (same_field s.field s.field) (list_any (same_field s.field) new.source.fields) (eq-eqb s.field.0 s.field.0 refl)))
        ]
        | inr none ↦ absurd (contains_none path none)
      ]

  free_doubled : (y : Path) → NewPath w l n s set y → has_free w l n s ≡ true → doubled_after y ≡ true
  free_doubled y new any =
      let found = one_passes (is_free w l n s) (all_slots l) any in
      let parts = and_parts (not (operands s found.0)) (is_like w l n s.object found.0) found.2 in
      let made : Path = record { root = Slot new.slot; fields = s.field ∷ new.source.fields } in
      subst (λ (p : Path). doubled_after p ≡ true) new.is
      (doubled_there made (Slot found.0)
      (record {
        from = new.slot;
        to = found.0;
        first = refl;
        second = refl;
        free = not-true (operands s found.0) parts.0;
        like = like_like w l n s.object new.slot found.0 new.like parts.1;
      })
      (in_new w l n s set new.source found.0 new.old new.begins new.short parts.1))

  doubled_free : (fields : List FieldNo) → doubled_after (record { root = Slot s.object; fields = fields }) ≡ true → has_free w l n s ≡ true
  doubled_free fields is =
      let y : Path = record { root = Slot s.object; fields = fields } in
      let found = doubled_by (unwritten w l n (operands s)) left_of_store y is in
      let d = of_unwritten w l n (operands s) (Slot s.object) found.root found.listed in
      let from : s.object ≡ d.from = slot_is s.object d.from d.first in
      let free = and_from (not (operands s d.to)) (is_like w l n s.object d.to) (not_from_false (operands s d.to) d.free)
      (ap (λ (z : ℕ). is_like w l n z d.to) from ∙ d.like) in
      any_passes (is_free w l n s) (all_slots l) d.to (free_inside w l n s d.to free) free
    where
      slot_is : (a b : ℕ) → Slot a ≡ Slot b → a ≡ b
      slot_is a b e = cc

  -- ---- both tests

  abbrev pub lost_after : Path → Bool
  lost_after = is_lost (writing w l n writes_of) left_of_store

  by_passing : (x : Path) → passes_field s.field x ≡ true → not (is_own_field w l n s x) ≡ true → loses_by w l n s set x ≡ true
  by_passing x passes is =
      cond-true (passes_field s.field x) (not (is_own_field w l n s x)) (loses_root w l n s set x || loses_value w l n s x) passes ∙ is

  by_root : (x : Path) → passes_field s.field x ≡ false → loses_root w l n s set x ≡ true → loses_by w l n s set x ≡ true
  by_root x passes is =
      cond-false (passes_field s.field x) (not (is_own_field w l n s x)) (loses_root w l n s set x || loses_value w l n s x) passes
      ∙ or_left (loses_root w l n s set x) (loses_value w l n s x) is

  by_value : (x : Path) → passes_field s.field x ≡ false → begins_at (Slot s.value) x ≡ true
      → (not (nat_lt (length x.fields) w.depth) || not (has_free w l n s)) ≡ true → loses_by w l n s set x ≡ true
  by_value x passes begins is =
      cond-false (passes_field s.field x) (not (is_own_field w l n s x)) (loses_root w l n s set x || loses_value w l n s x) passes
      ∙ or_right (loses_root w l n s set x) (loses_value w l n s x)
      (and_from (begins_at (Slot s.value) x) (not (nat_lt (length x.fields) w.depth) || not (has_free w l n s)) begins is)

  -- a test that would be false is true
  refuted : (b : Bool) → (b ≡ true → ⊥) → not b ≡ true
  refuted b never = not_from_false b (false_from_ne_true b never)

  lost_counts : (y : Path) → OldPath s.field set y ⊎ NewPath w l n s set y → lost_after y ≡ true → list_any (loses_by w l n s set) set ≡ true
  lost_counts y (inl old) is =
      let parts = and_parts (has_fields y.fields) (slots_go (operands s) y.root && not (doubled_after y)) is in
      let more = and_parts (slots_go (operands s) y.root) (not (doubled_after y)) parts.1 in
      let alone = refuted (list_any (is_double w l n (operands s) y) set)
      (λ stands. both_ways (doubled_after y) (not-true (doubled_after y) more.1) (stands_doubled y old.passes stands)) in
      any_passes (loses_by w l n s set) set y old.listed
      (by_root y old.passes
      (and_from (has_fields y.fields) (slots_go (operands s) y.root && not (list_any (is_double w l n (operands s) y) set)) parts.0
      (and_from (slots_go (operands s) y.root) (not (list_any (is_double w l n (operands s) y) set)) more.0 alone)))
  lost_counts y (inr new) is =
      let parts = and_parts (has_fields y.fields) (slots_go (operands s) y.root && not (doubled_after y)) is in
      let more = and_parts (slots_go (operands s) y.root) (not (doubled_after y)) parts.1 in
      let none = refuted (has_free w l n s) (λ any. both_ways (doubled_after y) (not-true (doubled_after y) more.1) (free_doubled y new any)) in
      any_passes (loses_by w l n s set) set new.source new.old.listed
      (by_value new.source new.old.passes new.begins
      (or_right (not (nat_lt (length new.source.fields) w.depth)) (not (has_free w l n s)) none))

  passing_counts : list_any (λ (x : Path). passes_field s.field x && not (is_stored_field w l n s.object s.field x)) set ≡ true
      → list_any (loses_by w l n s set) set ≡ true
  passing_counts any =
      let test : Path → Bool = λ x. passes_field s.field x && not (is_stored_field w l n s.object s.field x) in
      let found = one_passes test set any in
      let parts = and_parts (passes_field s.field found.0) (not (is_stored_field w l n s.object s.field found.0)) found.2 in
      any_passes (loses_by w l n s set) set found.0 found.1
      (by_passing found.0 parts.0 (ap not (sym (own_field w l n s found.0)) ∙ parts.1))

  abbrev pub all_stored : List Path
  all_stored = stored w l n s.object s.field s.value (unstored s.field set)

  long_counts : list_any (λ (x : Path). not (is_short w x)) all_stored ≡ true → list_any (loses_by w l n s set) set ≡ true
  long_counts any =
      let found = one_passes (λ (x : Path). not (is_short w x)) all_stored any in
      let made = of_all_stored w l n s set found.0 found.1 in
      let long : not (nat_lt (length made.source.fields) w.depth) ≡ true =
      ap not (sym (short_behind w (Slot made.slot) s.field made.source.fields) ∙ ap (is_short w) made.is) ∙ found.2 in
      any_passes (loses_by w l n s set) set made.source made.old.listed
      (by_value made.source made.old.passes made.begins
      (or_left (not (nat_lt (length made.source.fields) w.depth)) (not (has_free w l n s)) long))

  abbrev pub lost_of_store : Bool
  lost_of_store = store_loses w l n s.object s.field s.value set || list_any lost_after (after_store_of w l n s set)

  defined_counts : lost_of_store ≡ true → list_any (loses_by w l n s set) set ≡ true
  defined_counts any =
      let first = list_any (λ (x : Path). passes_field s.field x && not (is_stored_field w l n s.object s.field x)) set in
      let second = list_any (λ (x : Path). not (is_short w x)) all_stored in
      elim (or_cases (store_loses w l n s.object s.field s.value set) (list_any lost_after (after_store_of w l n s set)) any) [
        | inl loses ↦ elim (or_cases first second loses) [ inl passing ↦ passing_counts passing | inr long ↦ long_counts long ]
        | inr lost ↦
            let found = one_passes lost_after (after_store_of w l n s set) lost in
            lost_counts found.0 (of_stored w l n s set found.0 found.1) found.2
      ]

  -- ---- and back

  by_first : list_any (λ (x : Path). passes_field s.field x && not (is_stored_field w l n s.object s.field x)) set ≡ true → lost_of_store ≡ true
  by_first is =
      let first = list_any (λ (x : Path). passes_field s.field x && not (is_stored_field w l n s.object s.field x)) set in
      let second = list_any (λ (x : Path). not (is_short w x)) all_stored in
      or_left (first || second) (list_any lost_after (after_store_of w l n s set)) (or_left first second is)

  by_second : list_any (λ (x : Path). not (is_short w x)) all_stored ≡ true → lost_of_store ≡ true
  by_second is =
      let first = list_any (λ (x : Path). passes_field s.field x && not (is_stored_field w l n s.object s.field x)) set in
      let second = list_any (λ (x : Path). not (is_short w x)) all_stored in
      or_left (first || second) (list_any lost_after (after_store_of w l n s set)) (or_right first second is)

  by_lost : list_any lost_after (after_store_of w l n s set) ≡ true → lost_of_store ≡ true
  by_lost is = or_right (store_loses w l n s.object s.field s.value set) (list_any lost_after (after_store_of w l n s set)) is

  root_defined : (x : Path) → OldPath s.field set x → loses_root w l n s set x ≡ true → lost_of_store ≡ true
  root_defined x old is =
      let stands = list_any (is_double w l n (operands s) x) set in
      let parts = and_parts (has_fields x.fields) (slots_go (operands s) x.root && not stands) is in
      let more = and_parts (slots_go (operands s) x.root) (not stands) parts.1 in
      let alone = refuted (doubled_after x) (λ doubled. both_ways stands (not-true stands more.1) (doubled_stands x old.passes doubled)) in
      by_lost (any_passes lost_after (after_store_of w l n s set) x (in_old w l n s set x old)
      (and_from (has_fields x.fields) (slots_go (operands s) x.root && not (doubled_after x)) parts.0
      (and_from (slots_go (operands s) x.root) (not (doubled_after x)) more.0 alone)))

  object_like : is_like w l n s.object s.object ≡ true
  object_like = like_itself w l n s.object (alike_itself w l n s.object)

  long_defined : (x : Path) → OldPath s.field set x → begins_at (Slot s.value) x ≡ true → not (nat_lt (length x.fields) w.depth) ≡ true → lost_of_store ≡ true
  long_defined x old begins long =
      let y : Path = record { root = Slot s.object; fields = s.field ∷ x.fields } in
      by_second (any_passes (λ (p : Path). not (is_short w p)) all_stored y (in_all_stored w l n s set x s.object old begins object_like)
      (ap not (short_behind w (Slot s.object) s.field x.fields) ∙ long))

  short_defined : (x : Path) → OldPath s.field set x → begins_at (Slot s.value) x ≡ true → nat_lt (length x.fields) w.depth ≡ true
      → not (has_free w l n s) ≡ true → lost_of_store ≡ true
  short_defined x old begins short none =
      let y : Path = record { root = Slot s.object; fields = s.field ∷ x.fields } in
      let alone = refuted (doubled_after y)
      (λ doubled. both_ways (has_free w l n s) (not-true (has_free w l n s) none) (doubled_free (s.field ∷ x.fields) doubled)) in
      by_lost (any_passes lost_after (after_store_of w l n s set) y (in_new w l n s set x s.object old begins short object_like)
      (and_from (operands s s.object) (not (doubled_after y))
      (or_left (nat_eq s.object s.object) (nat_eq s.object s.value || false) (eq-eqb s.object s.object refl)) alone))

  value_defined : (x : Path) → OldPath s.field set x → (b : Bool) → nat_lt (length x.fields) w.depth ≡ b → loses_value w l n s x ≡ true → lost_of_store ≡ true
  value_defined x old b short is =
      let parts = and_parts (begins_at (Slot s.value) x) (not (nat_lt (length x.fields) w.depth) || not (has_free w l n s)) is in
      by b short parts.0 (or_cases (not (nat_lt (length x.fields) w.depth)) (not (has_free w l n s)) parts.1)
    where
      by : (b : Bool) → nat_lt (length x.fields) w.depth ≡ b → begins_at (Slot s.value) x ≡ true
          → (not (nat_lt (length x.fields) w.depth) ≡ true) ⊎ (not (has_free w l n s) ≡ true) → lost_of_store ≡ true
      by b short begins (inl long) = long_defined x old begins long
      by true short begins (inr none) = short_defined x old begins short none
      by false short begins (inr none) = long_defined x old begins (ap not short)

  counted_defined : (x : Path) → Contains set x → (b : Bool) → passes_field s.field x ≡ b → loses_by w l n s set x ≡ true → lost_of_store ≡ true
  counted_defined x listed true passes is =
      let own : not (is_own_field w l n s x) ≡ true =
      sym (cond-true (passes_field s.field x) (not (is_own_field w l n s x)) (loses_root w l n s set x || loses_value w l n s x) passes) ∙ is in
      let test : Path → Bool = λ p. passes_field s.field p && not (is_stored_field w l n s.object s.field p) in
      by_first (any_passes test set x listed
      (and_from (passes_field s.field x) (not (is_stored_field w l n s.object s.field x)) passes (ap not (own_field w l n s x) ∙ own)))
  counted_defined x listed false passes is =
      let old : OldPath s.field set x = record { listed = listed; passes = passes } in
      let either =
      sym (cond-false (passes_field s.field x) (not (is_own_field w l n s x)) (loses_root w l n s set x || loses_value w l n s x) passes) ∙ is in
      elim (or_cases (loses_root w l n s set x) (loses_value w l n s x) either) [
        | inl root ↦ root_defined x old root
        | inr value ↦ value_defined x old (nat_lt (length x.fields) w.depth) refl value
      ]

  pub lost_by_store : list_any (loses_by w l n s set) set ≡ lost_of_store
  lost_by_store =
      one_test (list_any (loses_by w l n s set) set) lost_of_store
      (λ any.
      let found = one_passes (loses_by w l n s set) set any in
      counted_defined found.0 found.1 (passes_field s.field found.0) refl found.2)
      defined_counts
