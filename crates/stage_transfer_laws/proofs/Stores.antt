-- The store to a field: paths that pass the field leave, and those of the value are listed behind the object's slots.
use Rattle.op_model.specs.declared.op.Op.{Op}
use Rattle.std.proofs.Common.{◌≡◌, ◌⊎◌, inl, inr, ℕ, Bool, true, false, not, ◌&&◌, List, [], ◌∷◌, ◌++◌, map, refl, sym, ◌∙◌, subst}
use Rattle.std.specs.Prelude.{◌≢◌}
use Rattle.std.specs.List.{Contains, filter, list_any}
use Rattle.std.proofs.lemmas.Bool.{and_cases, false≢true, not-false, not-true, not_from_false, or_parts}
use Rattle.std.proofs.lemmas.List.Elements.{Contains-append_cases, Contains-append_left, Contains-append_right}
use Rattle.list_laws.proofs.Members.{contained_in_map, contains_first, contains_map, contains_none}
use Rattle.jvm_model.specs.declared.number.FieldNo.{FieldNo}
use Rattle.op_model.specs.declared.lowered.LoweredMethod.{LoweredMethod}
use Rattle.op_model.specs.declared.node.Node.{Node}
use Rattle.op_model.specs.declared.op.Op.TheVariants.{Store}
use Rattle.access_paths.specs.declared.root.Root.{Root}
use Rattle.access_paths.specs.declared.root.Root.TheVariants.{Slot}
use Rattle.access_paths.specs.Paths.{Path, bare}
use Rattle.stage_facts.specs.Facts.{Tuple}
use Rattle.stage_transfer.specs.Settings.{Setting, alike, among, same_field}
use Rattle.stage_transfer.specs.Changes.{Change, begins_at, changed_set, is_lost, slots_go, writing}
use Rattle.stage_transfer.specs.Operations.{store_loses, after_store, field_of, is_short, is_stored_field, passes_field, stored, stored_set, unstored as unpassed}
use Rattle.stage_relations.specs.Roots.{same, own, HasVariables}
use Rattle.stage_relations.specs.Relations.{Comes, put, Flows, HasFields, Heir, IsComplete, IsOverwritten, IsPut, IsUnstored, Origin, path}
use Rattle.stage_transfer_laws.proofs.Members.{in_filter, in_flat_map, none_passes, not_among, of_filter, of_flat_map}
use Rattle.stage_transfer_laws.proofs.Alike.{Knows, alike_itself, are_alike}
use Rattle.stage_transfer_laws.proofs.Changed.{not_lost, of_changed, staying, target_of_path}
use Rattle.stage_transfer_laws.proofs.Loads.{is_field}
use Rattle.stage_transfer_laws.proofs.Flowing.{heir_of, origin_of, origins_flow}
use Rattle.stage_transfer_laws.proofs.Operations.{quiet_each, quiet_stays, written_moves}
use Rattle.stage_transfer_laws.proofs.Shapes.{copies_roots, shape}
use Rattle.stage_transfer_laws.proofs.Paths.{has_it, in_set, is_root, of_set, root_is}

-- ---- fields that are not stored to

free_fields : (object : ℕ) (field : FieldNo) (value : ℕ) (fields : List FieldNo) → list_any (same_field field) fields ≡ false
    → IsUnstored (Store object field value) fields
free_fields object field value [] none = tt
free_fields object field value (f ∷ fields) none =
    let parts = or_parts (same_field field f) (list_any (same_field field) fields) none in (
      λ other written (e : Store object field value ≡ Store other f written).
          let is : field ≡ f = cc in
          false≢true (sym parts.0 ∙ subst (λ (g : FieldNo). same_field field g ≡ true) is (is_field field)),
      free_fields object field value fields parts.1,
    )

of_unpassed : (field : FieldNo) (set : List Path) (y : Path) → Contains (unpassed field set) y → Contains set y × (passes_field field y ≡ false)
of_unpassed field set y there =
    let found = of_filter (λ (x : Path). not (passes_field field x)) set y there in
    (found.0, not-true (passes_field field y) found.1)

in_unpassed : (field : FieldNo) (set : List Path) (y : Path) → Contains set y → passes_field field y ≡ false → Contains (unpassed field set) y
in_unpassed field set y there other = in_filter (λ (x : Path). not (passes_field field x)) set y there (not_from_false (passes_field field y) other)

-- ---- what is stored

-- The path is one of the value, by a slot of the object's variable.
record IsStored (w : Setting) (l : LoweredMethod) (n : Node) (object : ℕ) (field : FieldNo) (value : ℕ) (set : List Path) (y : Path) : Type 0 where
  slot : ℕ
  alike_is : Contains (alike w l n object) slot
  path_of : Path
  listed : Contains set path_of
  root : Slot value ≡ path_of.root
  is : path (Slot slot) (field ∷ path_of.fields) ≡ y

module _ (w : Setting) (knows : Knows w) (l : LoweredMethod) (n : Node) (has : HasVariables l n) (object : ℕ) (field : FieldNo) (value : ℕ) where
  abbrev op : Op
  op = Store object field value

  abbrev slots : List ℕ
  slots = object ∷ value ∷ []

  abbrev change : Change
  change = writing w l n slots

  -- the paths that are added, if they are not too long
  abbrev more : List Path → List Path
  more set = stored w l n object field value (unpassed field set)

  abbrev put_in : List Path → List Path
  put_in set = stored_set w l n object field value set

  -- the paths of the value, by one slot
  abbrev by_slot : List Path → ℕ → List Path
  by_slot set z = map (λ (x : Path). path (Slot z) (field ∷ x.fields)) (filter (begins_at (Slot value)) set)

  quiet : shape op ≢ copies_roots
  quiet e = absurd cc

  of_stored : (set : List Path) (y : Path) → Contains (stored w l n object field value set) y → IsStored w l n object field value set y
  of_stored set y there =
      let found = of_flat_map (λ (z : ℕ). by_slot set z) (alike w l n object) y there in
      let old = contained_in_map (λ (x : Path). path (Slot found.0) (field ∷ x.fields)) (filter (begins_at (Slot value)) set) y found.2 in
      let begins = of_filter (begins_at (Slot value)) set old.0 old.1 in
      record { slot = found.0; alike_is = found.1; path_of = old.0; listed = begins.0; root = root_is (Slot value) old.0.root begins.1; is = old.2 }

  in_stored : (set : List Path) → Contains set (bare (Slot value)) → Contains (stored w l n object field value set) (field_of object field)
  in_stored set there =
      in_flat_map (λ (z : ℕ). by_slot set z) (alike w l n object) object (field_of object field) (alike_itself w l n object)
      (contains_map (λ (x : Path). path (Slot object) (field ∷ x.fields)) (filter (begins_at (Slot value)) set) (bare (Slot value))
      (in_filter (begins_at (Slot value)) set (bare (Slot value)) there (is_root (Slot value) (Slot value) refl)))

  of_put : (set : List Path) (y : Path) → Contains (put_in set) y
      → (Contains set y × (passes_field field y ≡ false)) ⊎ IsStored w l n object field value (unpassed field set) y
  of_put set y there =
      let short = filter (is_short w) (more set) in
      elim (Contains-append_cases (unpassed field set) short y (of_set (unpassed field set ++ short) y there)) [
        | inl old ↦ inl (of_unpassed field set y old)
        | inr new ↦ inr (of_stored (unpassed field set) y (of_filter (is_short w) (more set) y new).0)
      ]

  stays_put : (set : List Path) (y : Path) → Contains set y → passes_field field y ≡ false → Contains (put_in set) y
  stays_put set y there other =
      in_set (unpassed field set ++ filter (is_short w) (more set)) y
      (Contains-append_left (unpassed field set) (filter (is_short w) (more set)) y (in_unpassed field set y there other))

  field_put : (set : List Path) → list_any (λ (x : Path). not (is_short w x)) (more set) ≡ false → Contains set (bare (Slot value))
      → Contains (put_in set) (field_of object field)
  field_put set short there =
      let y = field_of object field in
      let made = in_stored (unpassed field set) (in_unpassed field set (bare (Slot value)) there refl) in
      in_set (unpassed field set ++ filter (is_short w) (more set)) y
      (Contains-append_right (unpassed field set) (filter (is_short w) (more set)) y
      (in_filter (is_short w) (more set) y made (not-false (is_short w y) (none_passes (λ (x : Path). not (is_short w x)) (more set) y short made))))

  -- ---- where paths come from

  store_origin : (set : List Path) (y : Path) → Contains (changed_set change (put_in set)) y → Origin l n op set y
  store_origin set y there = elim (of_changed change (put_in set) y there) [
    | inl stays ↦ by stays.1 (of_put set y stays.0)
    | inr none ↦ absurd (contains_none y none)
  ]
    where
      by : slots_go (among slots) y.root ≡ false
          → (Contains set y × (passes_field field y ≡ false)) ⊎ IsStored w l n object field value (unpassed field set) y → Origin l n op set y
      by stays (inl old) =
          origin_of (free_fields object field value y.fields old.1)
          (record { path = y; listed = old.0; goes = own (quiet_stays op quiet y.root stays); fields = refl })
      by stays (inr new) =
          let listed = of_unpassed field set new.path_of new.listed in
          let keeps = not_among slots new.slot (subst (λ (p : Path). slots_go (among slots) p.root ≡ false) (sym new.is) stays) in
          record {
            path = new.path_of;
            listed = listed.0;
            comes = subst (λ (p : Path). Comes l n op new.path_of p) new.is
                (subst (λ (r : Root). Comes l n op (path r new.path_of.fields) (path (Slot new.slot) (field ∷ new.path_of.fields))) new.root
                (put {object = object} {value = value} {y = value} {z = new.slot} refl (are_alike w knows l n object new.slot has new.alike_is) keeps
                (same refl) (free_fields object field value new.path_of.fields listed.1)));
          }

  -- ---- where paths are left

  -- no path is lost when the operands go
  abbrev IsKept : List Path → Type 0
  IsKept set = list_any (is_lost change (changed_set change set)) set ≡ false

  overwritten : (x : Path) → is_stored_field w l n object field x ≡ true → IsOverwritten l n op x
  overwritten x is =
      let fields_of = map (λ (z : ℕ). field_of z field) (alike w l n object) in
      let found = contained_in_map (λ (z : ℕ). field_of z field) (alike w l n object) x (has_it fields_of x is) in
      record {
        object = object;
        field = field;
        value = value;
        slot = found.0;
        op_is = refl;
        alike = are_alike w knows l n object found.0 has found.1;
        path_is = sym found.2;
      }

  store_heir : (set : List Path) (x : Path) → IsKept set → Contains set x → HasFields x.fields → passes_field field x ≡ false
      → Heir l n op x (changed_set change set)
  store_heir set x none there some other =
      heir_of (free_fields object field value x.fields other) some
      (target_of_path (written_moves w knows l n has op quiet) set x none there some)

  store_fields : (must : List Path) (x : Path) → list_any (λ (x : Path). passes_field field x && not (is_stored_field w l n object field x)) must ≡ false
      → IsKept (put_in must) → Contains must x → HasFields x.fields → IsOverwritten l n op x ⊎ Heir l n op x (changed_set change (put_in must))
  store_fields must x kept none there some = by (passes_field field x) refl
    where
      by : (b : Bool) → passes_field field x ≡ b → IsOverwritten l n op x ⊎ Heir l n op x (changed_set change (put_in must))
      by true passes =
          elim (and_cases (passes_field field x) (not (is_stored_field w l n object field x))
          (none_passes (λ (x : Path). passes_field field x && not (is_stored_field w l n object field x)) must x kept there)) [
            | inl other ↦ absurd (false≢true (sym other ∙ passes))
            | inr is ↦ inl (overwritten x (not-false (is_stored_field w l n object field x) is))
          ]
      by false other = inr (store_heir (put_in must) x none (stays_put must x there other) some other)

  -- The slot of the object goes: another one of its variable has the field.
  store_put : (must : List Path) → list_any (λ (x : Path). not (is_short w x)) (more must) ≡ false → IsKept (put_in must) → Contains must (bare (Slot value))
      → IsPut l n op object field (changed_set change (put_in must))
  store_put must short none there =
      elim (not_lost change (changed_set change (put_in must)) (put_in must) (field_of object field) none (field_put must short there) tt) [
        | inl stays ↦ absurd (not_among slots object stays (contains_first object (value ∷ [])))
        | inr doubled ↦
            let found = contained_in_map Slot (filter (λ (y : ℕ). not (among slots y)) (alike w l n object)) doubled.root doubled.listed in
            let kept = of_filter (λ (y : ℕ). not (among slots y)) (alike w l n object) found.0 found.1 in
            record {
              slot = found.0;
              alike = are_alike w knows l n object found.0 has kept.0;
              keeps = not_among slots found.0 (not-true (among slots found.0) kept.1);
              listed = subst (λ (r : Root). Contains (changed_set change (put_in must)) (path r (field ∷ []))) (sym found.2) doubled.has;
            }
      ]

  store_complete : (must : List Path) → store_loses w l n object field value must ≡ false → IsKept (put_in must)
      → IsComplete l n op must (changed_set change (put_in must))
  store_complete must keeps none =
      let passed : Bool = list_any (λ (x : Path). passes_field field x && not (is_stored_field w l n object field x)) must in
      let losses = or_parts passed (list_any (λ (x : Path). not (is_short w x)) (more must)) keeps in
      record {
        roots = λ r q copied there.
            let stays = quiet_each op quiet r q copied in
            subst (λ (p : Root). Contains (changed_set change (put_in must)) (bare p)) stays.0
            (staying change (put_in must) (bare r) (stays_put must (bare r) there refl) stays.1);
        fields = λ x there some. store_fields must x losses.0 none there some;
        loads = λ other target f is. absurd cc;
        stores = λ other written f is there.
            let same_object : object ≡ other = cc in
            let same_field : field ≡ f = cc in
            let same_value : written ≡ value = cc in
            subst (λ (z : ℕ). IsPut l n op z f (changed_set change (put_in must))) same_object
            (subst (λ (g : FieldNo). IsPut l n op object g (changed_set change (put_in must))) same_field
            (store_put must losses.1 none (subst (λ (z : ℕ). Contains must (bare (Slot z))) same_value there)));
        elements = λ array written is. absurd cc;
      }

  pub store_flows : (t : Tuple) → Flows l n op t (after_store w l n object field value t)
  store_flows t =
      origins_flow l n op t (changed_set change (put_in t.must)) (changed_set change (put_in t.must_not)) (store_loses w l n object field value t.must)
      (list_any (is_lost change (changed_set change (put_in t.must))) (put_in t.must)) (store_origin t.must) (store_origin t.must_not) (store_complete t.must)
