-- The load of a field: the path behind it leads from the target.
use Rattle.op_model.specs.declared.op.Op.{Op}
use Rattle.std.proofs.Common.{◌≡◌, inl, inr, ℕ, Bool, true, false, cond, not, List, [], ◌∷◌, refl, sym, ◌∙◌, ap, subst}
use Rattle.std.specs.Prelude.{◌≢◌}
use Rattle.std.specs.List.{Contains, filter, list_any}
use Rattle.std.proofs.lemmas.Bool.{and_cases, eq-eqb, eqb-true, false≢true, not-false}
use Rattle.list_laws.proofs.Members.{contains_first, contains_none, contains_only}
use Rattle.jvm_model.specs.declared.number.FieldNo.{FieldNo}
use Rattle.op_model.specs.declared.lowered.LoweredMethod.{LoweredMethod}
use Rattle.op_model.specs.declared.node.Node.{Node}
use Rattle.op_model.specs.declared.op.Op.TheVariants.{Load}
use Rattle.access_paths.specs.declared.root.Root.{Root}
use Rattle.access_paths.specs.declared.root.Root.TheVariants.{Slot}
use Rattle.access_paths.specs.Paths.{Path, bare, has_path}
use Rattle.stage_facts.specs.Facts.{Tuple}
use Rattle.stage_transfer.specs.Settings.{Setting, among, same_field}
use Rattle.stage_transfer.specs.Changes.{Change, begins_at, changed_set, is_lost, slots_go, unwritten}
use Rattle.stage_transfer.specs.Operations.{after_load, ends_in, field_of, loaded, loaded_fields, may_be_loaded}
use Rattle.stage_relations.specs.Roots.{Copied, Doubles, same, own, HasVariables}
use Rattle.stage_relations.specs.Relations.{Comes, taken, EndsIn, Flows, HasFields, IsComplete, IsUnstored, Origin, path, Target}
use Rattle.stage_transfer_laws.proofs.Members.{in_filter, in_flat_map, none_passes, of_filter, of_flat_map}
use Rattle.stage_transfer_laws.proofs.Alike.{Knows}
use Rattle.stage_transfer_laws.proofs.Changed.{added, not_lost, of_changed, staying}
use Rattle.stage_transfer_laws.proofs.Flowing.{heir_of, origin_of, origins_flow}
use Rattle.stage_transfer_laws.proofs.Operations.{quiet_each, quiet_stays, written_moves}
use Rattle.stage_transfer_laws.proofs.Shapes.{copies_roots, shape}
use Rattle.stage_transfer_laws.proofs.Paths.{has_it, is_root, root_is}

pub field_is : (f g : FieldNo) → same_field f g ≡ true → f ≡ g
field_is f g is = let number = eqb-true f.0 g.0 is in λ i. record { 0 = number i }

pub is_field : (f : FieldNo) → same_field f f ≡ true
is_field f = eq-eqb f.0 f.0 refl

-- ---- what is loaded

record IsBehind (field : FieldNo) (target : ℕ) (fields : List FieldNo) (y : Path) : Type 0 where
  rest : List FieldNo
  fields_are : fields ≡ field ∷ rest
  is : path (Slot target) rest ≡ y

of_loaded_fields : (field : FieldNo) (target : ℕ) (fields : List FieldNo) (y : Path) → Contains (loaded_fields field target fields) y
    → IsBehind field target fields y
of_loaded_fields field target [] y there = absurd (contains_none y there)
of_loaded_fields field target (f ∷ rest) y there = by (same_field field f) refl there
  where
    by : (b : Bool) → same_field field f ≡ b → Contains (cond b (path (Slot target) rest ∷ []) []) y → IsBehind field target (f ∷ rest) y
    by true is there = record {
      rest = rest;
      fields_are = ap (λ (g : FieldNo). g ∷ rest) (sym (field_is field f is));
      is = contains_only (path (Slot target) rest) y there;
    }
    by false is there = absurd (contains_none y there)

in_loaded_fields : (field : FieldNo) (target : ℕ) (rest : List FieldNo) → Contains (loaded_fields field target (field ∷ rest)) (path (Slot target) rest)
in_loaded_fields field target rest = by (same_field field field) (is_field field)
  where
    by : (b : Bool) → b ≡ true → Contains (cond b (path (Slot target) rest ∷ []) []) (path (Slot target) rest)
    by true is = contains_first (path (Slot target) rest) []
    by false is = absurd (false≢true is)

ends_true : (field : FieldNo) (fields : List FieldNo) → EndsIn field fields → ends_in field fields ≡ true
ends_true field [] ends = absurd ends
ends_true field (f ∷ []) ends = subst (λ (g : FieldNo). same_field field g ≡ true) (sym ends) (is_field field)
ends_true field (f ∷ g ∷ rest) ends = ends_true field (g ∷ rest) ends

-- ---- tuples

module _ (w : Setting) (knows : Knows w) (l : LoweredMethod) (n : Node) (has : HasVariables l n) (object : ℕ) (field : FieldNo) (target : ℕ) where
  abbrev op : Op
  op = Load object field target

  abbrev change : Change
  change =
      record { adds = loaded object field target; goes = slots_go (among (object ∷ target ∷ [])); doubles = unwritten w l n (among (object ∷ target ∷ [])) }

  quiet : shape op ≢ copies_roots
  quiet e = absurd cc

  unstored_fields : (fields : List FieldNo) → IsUnstored op fields
  unstored_fields [] = tt
  unstored_fields (f ∷ fields) = (λ other value e. absurd cc, unstored_fields fields)

  load_origin : (set : List Path) (y : Path) → Contains (changed_set change set) y → Origin l n op set y
  load_origin set y there = elim (of_changed change set y there) [
    | inl old ↦ origin_of (unstored_fields y.fields) (record { path = y; listed = old.0; goes = own (quiet_stays op quiet y.root old.1); fields = refl })
    | inr new ↦
        let found = of_flat_map (λ (x : Path). loaded_fields field target x.fields) (filter (begins_at (Slot object)) set) y new in
        let begins = of_filter (begins_at (Slot object)) set found.0 found.1 in
        let behind = of_loaded_fields field target found.0.fields y found.2 in
        let root : Slot object ≡ found.0.root = root_is (Slot object) found.0.root begins.1 in
        record {
          path = found.0;
          listed = begins.0;
          comes = subst (λ (p : Path). Comes l n op found.0 p) behind.is
              (subst (λ (r : Root). Comes l n op (path r found.0.fields) (path (Slot target) behind.rest)) root
              (subst (λ (fs : List FieldNo). Comes l n op (path (Slot object) fs) (path (Slot target) behind.rest)) (sym behind.fields_are)
              (taken {object = object} {z = object} refl (same refl))));
        }
  ]

  load_found : (must : List Path) → may_be_loaded object field must ≡ false → (x : Path) → Contains must x → EndsIn field x.fields
      → Contains (changed_set change must) (bare (Slot target))
  load_found must none x there ends =
      let paths = filter (begins_at (Slot object)) must in
      elim (and_cases (not (has_path must (field_of object field))) (list_any (λ (x : Path). ends_in field x.fields) must) none) [
        | inl has ↦
            let listed = has_it must (field_of object field) (not-false (has_path must (field_of object field)) has) in
            added change must (bare (Slot target))
            (in_flat_map (λ (x : Path). loaded_fields field target x.fields) paths (field_of object field) (bare (Slot target))
            (in_filter (begins_at (Slot object)) must (field_of object field) listed (is_root (Slot object) (Slot object) refl))
            (in_loaded_fields field target []))
        | inr other ↦ absurd (false≢true (sym (none_passes (λ (x : Path). ends_in field x.fields) must x other there) ∙ ends_true field x.fields ends))
      ]

  load_target : (must : List Path) → list_any (is_lost change (changed_set change must)) must ≡ false → (x : Path) → Contains must x → HasFields x.fields
      → Target (Doubles l n (Copied op)) x (changed_set change must)
  load_target must none x there some = elim (not_lost change (changed_set change must) must x none there some) [
    | inl stays ↦ record { path = x; listed = staying change must x there stays; goes = own (quiet_stays op quiet x.root stays); fields = refl }
    | inr doubled ↦
        let moves = written_moves w knows l n has op quiet in
        record { path = path doubled.root x.fields; listed = doubled.has; goes = moves.doubles x.root doubled.root doubled.listed; fields = refl }
  ]

  load_complete : (must : List Path) → list_any (is_lost change (changed_set change must)) must ≡ false → may_be_loaded object field must ≡ false
      → IsComplete l n op must (changed_set change must)
  load_complete must none certain = record {
    roots = λ r q copied there.
        let stays = quiet_each op quiet r q copied in
        subst (λ (p : Root). Contains (changed_set change must) (bare p)) stays.0 (staying change must (bare r) there stays.1);
    fields = λ x there some. inr (heir_of (unstored_fields x.fields) some (load_target must none x there some));
    loads = λ other place f is x there ends.
        let same_field : field ≡ f = cc in
        let same_slot : target ≡ place = cc in
        subst (λ (z : ℕ). Contains (changed_set change must) (bare (Slot z))) same_slot
        (load_found must certain x there (subst (λ (g : FieldNo). EndsIn g x.fields) (sym same_field) ends));
    stores = λ other value f is. absurd cc;
    elements = λ array value is. absurd cc;
  }

  pub load_flows : (t : Tuple) → Flows l n op t (after_load w l n object field target t)
  load_flows t =
      origins_flow l n op t (changed_set change t.must) (changed_set change t.must_not) (list_any (is_lost change (changed_set change t.must)) t.must)
      (may_be_loaded object field t.must) (load_origin t.must) (load_origin t.must_not) (load_complete t.must)
