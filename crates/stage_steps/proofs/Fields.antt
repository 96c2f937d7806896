-- Fields after an operation that goes on: where no other cells are possible, a path ends in each field that has the object.
use Rattle.std.proofs.Common.{◌≡◌, ◌≢◌, ◌⊎◌, inl, inr, ℕ, List, [], ◌∷◌, Some, false, refl, sym, ◌∙◌, ap, subst}
use Rattle.std.specs.Prelude.{slice_set}
use Rattle.std.proofs.lemmas.Bool.{cases_eq}
use Rattle.jvm_model.specs.declared.number.FieldNo.{FieldNo}
use Rattle.jvm_model.specs.declared.site.Site.{Site}
use Rattle.op_model.specs.declared.lowered.LoweredMethod.{LoweredMethod}
use Rattle.op_model.specs.declared.node.Node.{Node}
use Rattle.op_model.specs.declared.op.Op.{Op}
use Rattle.op_model.specs.declared.op.Op.TheVariants.{Assign, Load, Store, LoadElement, StoreElement, LoadStatic, StoreStatic, New, NewArray, Constant, Call, Return, Throw, Cast, Probe}
use Rattle.machine_bytecode.specs.Objects.{Subject}
use Rattle.machine_bytecode.specs.States.{Value, reference_to, Object, World, slot_at}
use Rattle.machine_nodes.specs.NodeSteps.{Leads}
use Rattle.access_paths.specs.declared.root.Root.TheVariants.{Slot}
use Rattle.access_paths.specs.Paths.{Path}
use Rattle.stage_facts.specs.Facts.{Tuple, EndsIn, Describes}
use Rattle.stage_facts.specs.Values.{of_slots, without_primitive, field_in, part_at, in_field, field_cell, last_cell}
use Rattle.stage_relations.specs.Relations.{path, IsOverwritten, IsComplete}
use Rattle.stage_steps.specs.Said.{AreEqual}
use Rattle.stage_steps.proofs.Paths.{has_fields, part_in, part_set, part_set_here, reference_in}
use Rattle.stage_steps.proofs.Calm.{listed_root}
use Rattle.stage_steps.proofs.Shapes.{shape, field_unchanged, with_field}
use Rattle.stage_steps.proofs.Sites.{field_or_not, same_field, updated_here, updated_other}
use Rattle.stage_steps.proofs.Slots.{kept_slot, op_leads, comes_cell}

-- the operation stores to a field
record IsStore (op : Op) : Type 0 where
  object : ℕ
  field : FieldNo
  value : ℕ
  is : op ≡ Store object field value

store_or_not : (op : Op) → IsStore op ⊎ ((object : ℕ) (f : FieldNo) (value : ℕ) → op ≢ Store object f value)
store_or_not (Store object field value) = inl (record { object = object; field = field; value = value; is = refl })
store_or_not (Assign moves) = inr (λ x f y e. cc e)
store_or_not (Load object field target) = inr (λ x f y e. cc e)
store_or_not (LoadElement array target) = inr (λ x f y e. cc e)
store_or_not (StoreElement array value) = inr (λ x f y e. cc e)
store_or_not (LoadStatic field target) = inr (λ x f y e. cc e)
store_or_not (StoreStatic field value) = inr (λ x f y e. cc e)
store_or_not (New site target) = inr (λ x f y e. cc e)
store_or_not (NewArray sites target) = inr (λ x f y e. cc e)
store_or_not (Constant site target) = inr (λ x f y e. cc e)
store_or_not (Call call) = inr (λ x f y e. cc e)
store_or_not (Return value) = inr (λ x f y e. cc e)
store_or_not (Throw value) = inr (λ x f y e. cc e)
store_or_not (Cast class slot) = inr (λ x f y e. cc e)
store_or_not (Probe slot) = inr (λ x f y e. cc e)

cell_place : {a b : ℕ} {f g : FieldNo} → Some (in_field a f) ≡ Some (in_field b g) → a ≡ b
cell_place e = cc e

cell_field : {a b : ℕ} {f g : FieldNo} → Some (in_field a f) ≡ Some (in_field b g) → f ≡ g
cell_field e = cc e

stored_object : {a b c d : ℕ} {f g : FieldNo} → Store a f c ≡ Store b g d → a ≡ b
stored_object e = cc e

stored_field : {a b c d : ℕ} {f g : FieldNo} → Store a f c ≡ Store b g d → f ≡ g
stored_field e = cc e

module _ (x : Subject) (l : LoweredMethod) (n : Node) (w after : World) (old new : List Value) (s : Site) (o : ℕ) (t u : Tuple) (equal : AreEqual l n old)
    (d : Describes s t o w (of_slots old)) (off : t.may ≡ false) where
  -- a field that had the object, and whose path is not overwritten
  field_end : (op : Op) (place : ℕ) (f : FieldNo) → Leads op x w old new after → IsComplete l n op t.must u.must
      → ((y : Path) → IsOverwritten l n op y → last_cell w (of_slots old) y ≡ Some (in_field place f) → ⊥) → part_at (field_in f) w.heap place ≡ reference_to o
      → EndsIn u.must after (of_slots new) (in_field place f)
  field_end op place f leads c over is =
      let e = d.cells off (in_field place f) is in
      let has = has_fields w (of_slots old) e.path place f e.ends in
      elim (c.fields e.path e.listed has) [
        | inl gone ↦ absurd (over e.path gone e.ends)
        | inr heir ↦ record {
          path = heir.path;
          listed = heir.listed;
          ends = comes_cell op x w after old new l n leads equal heir.comes has heir.fields ∙ e.ends;
        }
      ]

  -- the path of the field that is stored to ends in that field of that object
  record IsThisField (object place g : ℕ) (field f : FieldNo) : Type 0 where
    same_place : place ≡ g
    same_field : field ≡ f

  over_cell : (object : ℕ) (field : FieldNo) (value place g : ℕ) (f : FieldNo) (y : Path) → slot_at old object ≡ reference_to place
      → IsOverwritten l n (Store object field value) y → last_cell w (of_slots old) y ≡ Some (in_field g f) → IsThisField object place g field f
  over_cell object field value place g f y refers gone ends =
      let slot_is : slot_at old gone.slot ≡ reference_to place =
      equal gone.slot gone.object gone.alike ∙ ap (slot_at old) (sym (stored_object gone.op_is)) ∙ refers in
      let cell_is : Some (in_field place gone.field) ≡ Some (in_field g f) =
      sym (ap (λ (v : Value). field_cell v gone.field) slot_is) ∙ sym (ap (last_cell w (of_slots old)) gone.path_is) ∙ ends in
      record { same_place = cell_place cell_is; same_field = stored_field gone.op_is ∙ cell_field cell_is }

  stored_end : (object : ℕ) (field : FieldNo) (value place : ℕ) (f : FieldNo) → Leads (Store object field value) x w old new after
      → IsComplete l n (Store object field value) t.must u.must → part_at (field_in f) after.heap place ≡ reference_to o
      → EndsIn u.must after (of_slots new) (in_field place f)
  stored_end object field value place f leads c is = by (cases_eq place leads.0.to.place) (field_or_not f field)
    where
      at : ℕ
      at = leads.0.to.place

      into : Object
      into = leads.0.to.object

      written : Object
      written = with_field into leads.0.values field (slot_at old value)

      heap_is : after.heap ≡ slice_set w.heap at written
      heap_is = ap (λ (y : World). y.heap) leads.0.is

      elsewhere : (at ≡ place → field ≡ f → ⊥) → part_at (field_in f) w.heap place ≡ reference_to o → EndsIn u.must after (of_slots new) (in_field place f)
      elsewhere ne held =
          field_end (Store object field value) place f leads c
          (λ y gone ends. (let k = over_cell object field value at place f y leads.0.to.is gone ends in ne k.same_place k.same_field)) held

      before : (place ≡ at → field_in f written.contents ≡ field_in f into.contents) → part_at (field_in f) w.heap place ≡ reference_to o
      before same =
          sym (part_set (field_in f) w.heap at place into written leads.0.to.held same) ∙ sym (part_in (field_in f) _ _ place heap_is)
          ∙ is

      by : (place ≡ at) ⊎ (place ≢ at) → (f ≡ field) ⊎ (f ≢ field) → EndsIn u.must after (of_slots new) (in_field place f)
      by (inr ne) any = elsewhere (λ e d. ne (sym e)) (before (λ e. absurd (ne e)))
      by (inl e) (inr ne) =
          elsewhere (λ d q. ne (sym q))
          (before (λ d. ap without_primitive (updated_other leads.0.values field.0 f.0 (slot_at old value) (λ q. ne (same_field f field q)))
          ∙ sym (ap (field_in f) leads.0.holds)))
      by (inl e) (inl q) =
          let part : without_primitive (slot_at old value) ≡ reference_to o =
          sym (ap without_primitive (updated_here leads.0.values field.0 f.0 (slot_at old value) (ap (λ (g : FieldNo). g.0) q)))
          ∙ sym (part_set_here (field_in f) w.heap at into written leads.0.to.held) ∙ sym (ap (part_at (field_in f) (slice_set w.heap at written)) e)
          ∙ sym (part_in (field_in f) _ _ place heap_is) ∙ is in
          let p = c.stores object value field refl (listed_root s o w (of_slots old) t (Slot value) d off (reference_in _ o part)) in
          let slot_is : slot_at new p.slot ≡ reference_to at =
          kept_slot (Store object field value) x w after old new p.slot leads p.keeps ∙ equal p.slot object p.alike ∙ leads.0.to.is in
          record {
            path = path (Slot p.slot) (field ∷ []);
            listed = p.listed;
            ends = ap (λ (v : Value). field_cell v field) slot_is ∙ ap Some (ap (λ (k : ℕ). in_field k field) (sym e) ∙ ap (in_field place) (sym q));
          }

  pub any_field_end : (op : Op) (place : ℕ) (f : FieldNo) → Leads op x w old new after → IsComplete l n op t.must u.must
      → part_at (field_in f) after.heap place ≡ reference_to o → EndsIn u.must after (of_slots new) (in_field place f)
  any_field_end op place f leads c is = elim (store_or_not op) [
    | inl k ↦
        stored_end k.object k.field k.value place f (op_leads op _ x w after old new k.is leads) (subst (λ (y : Op). IsComplete l n y t.must u.must) k.is c) is
    | inr un ↦ field_end op place f leads c (λ y gone e. un gone.object gone.field gone.value gone.op_is)
        (sym (field_unchanged (shape op x w after old new leads) f (λ object value. un object f value) place) ∙ is)
  ]
