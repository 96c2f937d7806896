-- What an operation that goes on does to roots, and to paths: a root, and a path, that comes from another one has its value.
use Rattle.std.proofs.Common.{◌≡◌, ◌≢◌, ℕ, List, [], ◌∷◌, ◌++◌, map, Option, Some, None, Contains, refl, sym, ◌∙◌, ap, subst}
use Rattle.std.specs.Option.{option_to_list}
use Rattle.std.proofs.lemmas.List.Elements.{Contains-append_left, Contains-append_right}
use Rattle.list_laws.proofs.Members.{contains_first, contains_map}
use Rattle.jvm_model.specs.declared.number.FieldNo.{FieldNo}
use Rattle.op_model.specs.declared.lowered.LoweredMethod.{LoweredMethod}
use Rattle.op_model.specs.declared.node.Node.{Node}
use Rattle.op_model.specs.declared.op.Op.{Op}
use Rattle.op_model.specs.declared.op.Op.TheVariants.{Assign, Load, Store, LoadElement, StoreElement, LoadStatic, StoreStatic, New, NewArray, Constant, Call, Return, Throw, Cast, Probe}
use Rattle.op_model.specs.declared.op.Source.{Source}
use Rattle.machine_bytecode.specs.Objects.{Subject}
use Rattle.machine_bytecode.specs.States.{Value, primitive_value, null_value, reference_to, Object, World, slot_at}
use Rattle.machine_nodes.specs.NodeSteps.{Leads}
use Rattle.machine_nodes.specs.Slots.{source_value, AreLeft}
use Rattle.access_paths.specs.declared.root.Root.{Root}
use Rattle.access_paths.specs.Paths.{Path}
use Rattle.stage_facts.specs.Values.{of_slots, root_value, without_primitive, field_in, part_at, behind, followed, path_value, last_field_cell, last_cell}
use Rattle.stage_transfer.specs.Operations.{target_of}
use Rattle.stage_relations.specs.Roots.{AreAlike, Doubles, own, shared, Keeps, Copied, kept, moved, loaded, stored, static, returned, thrown}
use Rattle.stage_relations.specs.Relations.{HasFields, Comes, rooted, taken, put}
use Rattle.stage_steps.specs.Said.{AreEqual}
use Rattle.stage_steps.proofs.Paths.{follow_same, last_same, part_is, part_set_here}
use Rattle.stage_steps.proofs.Shapes.{shape, all_unchanged, with_field}
use Rattle.stage_steps.proofs.Sites.{updated_here, updated_other, same_field}

-- ---- slots

left_kept : (operands : List ℕ) (target : Option ℕ) (v : Value) (old new : List Value) (z : ℕ) → AreLeft operands target v old new
    → (Contains (operands ++ option_to_list target) z → ⊥) → slot_at new z ≡ slot_at old z
left_kept operands target v old new z left free =
    left.kept z (λ there. free (Contains-append_left operands (option_to_list target) z there))
    (λ e. free (Contains-append_right operands (option_to_list target) z (listed e)))
  where
    listed : target ≡ Some z → Contains (option_to_list target) z
    listed e = subst (λ (t : Option ℕ). Contains (option_to_list t) z) (sym e) (contains_first z [])

-- a slot that an operation does not write
pub kept_slot : (op : Op) (x : Subject) (w after : World) (old new : List Value) (z : ℕ) → Leads op x w old new after → Keeps op z
    → slot_at new z ≡ slot_at old z
kept_slot (Assign moves) x w after old new z l free =
    l.0.kept z (λ m there e. free (subst (λ (k : ℕ). Contains (map target_of moves) k) e (contains_map target_of moves m there)))
kept_slot (Load object field target) x w after old new z l free = left_kept (object ∷ []) (Some target) l.value old new z l.are_left free
kept_slot (Store object field value) x w after old new z l free = left_kept (object ∷ value ∷ []) None primitive_value old new z l.1 free
kept_slot (LoadElement array target) x w after old new z l free = left_kept (array ∷ []) (Some target) l.value old new z l.are_left free
kept_slot (StoreElement array value) x w after old new z l free = left_kept (array ∷ value ∷ []) None primitive_value old new z l.1 free
kept_slot (LoadStatic field target) x w after old new z l free = left_kept [] (Some target) l.value old new z l.are_left free
kept_slot (StoreStatic field value) x w after old new z l free = left_kept (value ∷ []) None primitive_value old new z l.1 free
kept_slot (New site target) x w after old new z l free = left_kept [] (Some target) l.made old new z l.are_left free
kept_slot (NewArray sites target) x w after old new z l free = left_kept [] (Some target) l.made old new z l.are_left free
kept_slot (Constant site target) x w after old new z l free = left_kept [] (Some target) l.value old new z l.are_left free
kept_slot (Call call) x w after old new z l free = absurd l
kept_slot (Return value) x w after old new z l free = absurd l
kept_slot (Throw value) x w after old new z l free = absurd l
kept_slot (Cast class slot) x w after old new z l free = l.1 z
kept_slot (Probe slot) x w after old new z l free = left_kept (slot ∷ []) None primitive_value old new z l.1 free

-- ---- statics and what is kept

statics_of : (a b : World) (f : ℕ) → a ≡ b → a.statics f ≡ b.statics f
statics_of a b f e = ap (λ (w : World). w.statics f) e

static_same : (op : Op) (x : Subject) (w after : World) (old new : List Value) (f : FieldNo) → ((y : ℕ) → op ≢ StoreStatic f y) → Leads op x w old new after
    → after.statics f.0 ≡ w.statics f.0
static_same (Assign moves) x w after old new f un l = statics_of after _ f.0 l.1
static_same (Load object field target) x w after old new f un l = statics_of after _ f.0 l.same
static_same (Store object field value) x w after old new f un l = statics_of after _ f.0 l.0.is
static_same (LoadElement array target) x w after old new f un l = statics_of after _ f.0 l.same
static_same (StoreElement array value) x w after old new f un l = statics_of after _ f.0 l.0.is
static_same (LoadStatic field target) x w after old new f un l = statics_of after _ f.0 l.same
static_same (StoreStatic field value) x w after old new f un l =
    statics_of after _ f.0 l.0
    ∙ updated_other w.statics field.0 f.0 (slot_at old value) (λ e. un value (ap (λ (g : FieldNo). StoreStatic g value) (sym (same_field f field e))))
static_same (New site target) x w after old new f un l = statics_of after _ f.0 l.is_made.after_is
static_same (NewArray sites target) x w after old new f un l = statics_of after _ f.0 l.is_made.after_is
static_same (Constant site target) x w after old new f un l = statics_of after _ f.0 l.same
static_same (Call call) x w after old new f un l = absurd l
static_same (Return value) x w after old new f un l = absurd l
static_same (Throw value) x w after old new f un l = absurd l
static_same (Cast class slot) x w after old new f un l = statics_of after _ f.0 l.2
static_same (Probe slot) x w after old new f un l = statics_of after _ f.0 l.0.1

kept_of : (a b : World) → a ≡ b → a.kept ≡ b.kept
kept_of a b e = ap (λ (w : World). w.kept) e

pub kept_same : (op : Op) (x : Subject) (w after : World) (old new : List Value) → Leads op x w old new after → after.kept ≡ w.kept
kept_same (Assign moves) x w after old new l = kept_of after _ l.1
kept_same (Load object field target) x w after old new l = kept_of after _ l.same
kept_same (Store object field value) x w after old new l = kept_of after _ l.0.is
kept_same (LoadElement array target) x w after old new l = kept_of after _ l.same
kept_same (StoreElement array value) x w after old new l = kept_of after _ l.0.is
kept_same (LoadStatic field target) x w after old new l = kept_of after _ l.same
kept_same (StoreStatic field value) x w after old new l = kept_of after _ l.0
kept_same (New site target) x w after old new l = kept_of after _ l.is_made.after_is
kept_same (NewArray sites target) x w after old new l = kept_of after _ l.is_made.after_is
kept_same (Constant site target) x w after old new l = kept_of after _ l.same
kept_same (Call call) x w after old new l = absurd l
kept_same (Return value) x w after old new l = absurd l
kept_same (Throw value) x w after old new l = absurd l
kept_same (Cast class slot) x w after old new l = kept_of after _ l.2
kept_same (Probe slot) x w after old new l = kept_of after _ l.0.1

-- ---- roots

pub op_leads : (op as_op : Op) (x : Subject) (w after : World) (old new : List Value) → op ≡ as_op → Leads op x w old new after → Leads as_op x w old new after
op_leads op as_op x w after old new e l = subst (λ (o : Op). Leads o x w old new after) e l

-- a root that got what another one had
pub copied_value : (op : Op) (x : Subject) (w after : World) (old new : List Value) {r q : Root} → Leads op x w old new after → Copied op r q
    → root_value after (of_slots new) q ≡ root_value w (of_slots old) r
copied_value op x w after old new l (kept {z = z} keeps) = kept_slot op x w after old new z l keeps
copied_value op x w after old new l (moved {moves = moves} {m = m} {y = y} is listed from) =
    (op_leads op (Assign moves) x w after old new is l).0.moved m listed ∙ ap (λ (source : Source). source_value source old) from
copied_value op x w after old new l (loaded {f = f} {z = z} is) =
    let d = op_leads op (LoadStatic f z) x w after old new is l in d.are_left.given z refl ∙ d.is_read
copied_value op x w after old new l (stored {f = f} {y = y} is) =
    statics_of after _ f.0 (op_leads op (StoreStatic f y) x w after old new is l).0 ∙ updated_here w.statics f.0 f.0 (slot_at old y) refl
copied_value op x w after old new l (static {f = f} un) = static_same op x w after old new f un l
copied_value op x w after old new l returned = refl
copied_value op x w after old new l thrown = refl

-- ---- values that count alike: a primitive is as good as null

twice : (v : Value) → without_primitive (without_primitive v) ≡ without_primitive v
twice primitive_value = refl
twice null_value = refl
twice (reference_to place) = refl

behind_without : (heap : List Object) (f : FieldNo) (v : Value) → behind heap f v ≡ behind heap f (without_primitive v)
behind_without heap f primitive_value = refl
behind_without heap f null_value = refl
behind_without heap f (reference_to place) = refl

pub behind_alike : (heap : List Object) (f : FieldNo) (v u : Value) → without_primitive v ≡ without_primitive u → behind heap f v ≡ behind heap f u
behind_alike heap f v u e = behind_without heap f v ∙ ap (behind heap f) e ∙ sym (behind_without heap f u)

pub follow_alike : (heap : List Object) (v u : Value) (fs : List FieldNo) → without_primitive v ≡ without_primitive u
    → without_primitive (followed heap v fs) ≡ without_primitive (followed heap u fs)
follow_alike heap v u [] e = e
follow_alike heap v u (f ∷ fs) e = ap (λ (y : Value). without_primitive (followed heap y fs)) (behind_alike heap f v u e)

last_without : (heap : List Object) (v : Value) (f : FieldNo) (fs : List FieldNo)
    → last_field_cell heap v f fs ≡ last_field_cell heap (without_primitive v) f fs
last_without heap primitive_value f [] = refl
last_without heap null_value f [] = refl
last_without heap (reference_to place) f [] = refl
last_without heap v f (g ∷ fs) = ap (λ (y : Value). last_field_cell heap y g fs) (behind_without heap f v)

pub last_alike : (heap : List Object) (v u : Value) (f : FieldNo) (fs : List FieldNo) → without_primitive v ≡ without_primitive u
    → last_field_cell heap v f fs ≡ last_field_cell heap u f fs
last_alike heap v u f fs e = last_without heap v f fs ∙ ap (λ (y : Value). last_field_cell heap y f fs) e ∙ sym (last_without heap u f fs)

-- ---- paths

module _ (op : Op) (x : Subject) (w after : World) (old new : List Value) (l : LoweredMethod) (n : Node) (leads : Leads op x w old new after)
    (equal : AreEqual l n old) where
  pub double_same : {r q : Root} → Doubles l n (Copied op) r q → root_value after (of_slots new) q ≡ root_value w (of_slots old) r
  double_same (own goes) = copied_value op x w after old new leads goes
  double_same (shared {y = y} {z = z} alike goes) = copied_value op x w after old new leads goes ∙ sym (equal z y alike)

  -- what is loaded
  record IsLoaded (f : FieldNo) (z target : ℕ) : Type 0 where
    value : without_primitive (slot_at new target) ≡ without_primitive (behind w.heap f (slot_at old z))
    heap : after.heap ≡ w.heap

  load_value : {object target z : ℕ} {f : FieldNo} → op ≡ Load object f target → AreAlike l n z object → IsLoaded f z target
  load_value {object = object} {target = target} {z = z} {f = f} is alike =
      let d = op_leads op (Load object f target) x w after old new is leads in
      let read = d.is_read in
      let to = read.to in
      let field_is : without_primitive d.value ≡ part_at (field_in f) w.heap to.place =
      ap without_primitive read.is ∙ sym (ap (field_in f) read.holds) ∙ sym (part_is (field_in f) w.heap to.place to.object to.held) in
      let behind_is : part_at (field_in f) w.heap to.place ≡ behind w.heap f (slot_at old z) = ap (behind w.heap f) (sym (equal z object alike ∙ to.is)) in
      record {
        value = ap without_primitive (d.are_left.given target refl) ∙ sym (twice d.value) ∙ ap without_primitive (field_is ∙ behind_is);
        heap = ap (λ (y : World). y.heap) d.same;
      }

  -- what is stored
  store_value : {object value z : ℕ} {f : FieldNo} → op ≡ Store object f value → AreAlike l n z object
      → behind after.heap f (slot_at old z) ≡ without_primitive (slot_at old value)
  store_value {object = object} {value = value} {z = z} {f = f} is alike =
      let d = op_leads op (Store object f value) x w after old new is leads in
      let to = d.0.to in
      let written = with_field to.object d.0.values f (slot_at old value) in
      ap (behind after.heap f) (equal z object alike ∙ to.is) ∙ ap (λ (y : World). part_at (field_in f) y.heap to.place) d.0.is
      ∙ part_set_here (field_in f) w.heap to.place to.object written to.held ∙ ap without_primitive (updated_here d.0.values f.0 f.0 (slot_at old value) refl)

  -- a path that comes from another one has its value
  pub comes_value : {a b : Path} → Comes l n op a b → without_primitive (path_value after (of_slots new) b) ≡ without_primitive (path_value w (of_slots old) a)
  comes_value (rooted {r = r} {q = q} {fields = fs} double un) =
      ap (λ (v : Value). without_primitive (followed after.heap v fs)) (double_same double)
      ∙ ap without_primitive (follow_same w.heap after.heap (root_value w (of_slots old) r) fs (all_unchanged (shape op x w after old new leads) fs un))
  comes_value (taken {object = object} {z = z} {target = target} {f = f} {fields = fs} is alike) =
      let k = load_value is alike in
      ap (λ (h : List Object). without_primitive (followed h (slot_at new target) fs)) k.heap
      ∙ follow_alike w.heap (slot_at new target) (behind w.heap f (slot_at old z)) fs k.value
  comes_value (put {object = object} {value = value} {y = y} {z = z} {f = f} {fields = fs} is alike keeps like un) =
      ap (λ (v : Value). without_primitive (followed after.heap (behind after.heap f v) fs)) (kept_slot op x w after old new z leads keeps)
      ∙ follow_alike after.heap (behind after.heap f (slot_at old z)) (slot_at old y) fs
      (ap without_primitive (store_value is alike) ∙ twice (slot_at old value) ∙ ap without_primitive (sym (equal y value like)))
      ∙ ap without_primitive (follow_same w.heap after.heap (slot_at old y) fs (all_unchanged (shape op x w after old new leads) fs un))

  -- and, where both have fields, its last cell
  pub comes_cell : {a b : Path} → Comes l n op a b → HasFields a.fields → HasFields b.fields → last_cell after (of_slots new) b ≡ last_cell w (of_slots old) a
  comes_cell (rooted {fields = []} double un) has later = absurd has
  comes_cell (rooted {r = r} {q = q} {fields = f ∷ fs} double un) has later =
      ap (λ (v : Value). last_field_cell after.heap v f fs) (double_same double)
      ∙ last_same w.heap after.heap (root_value w (of_slots old) r) f fs (all_unchanged (shape op x w after old new leads) (f ∷ fs) un)
  comes_cell (taken {fields = []} is alike) has later = absurd later
  comes_cell (taken {z = z} {target = target} {f = f} {fields = g ∷ fs} is alike) has later =
      let k = load_value is alike in
      ap (λ (h : List Object). last_field_cell h (slot_at new target) g fs) k.heap
      ∙ last_alike w.heap (slot_at new target) (behind w.heap f (slot_at old z)) g fs k.value
  comes_cell (put {fields = []} is alike keeps like un) has later = absurd has
  comes_cell (put {value = value} {y = y} {z = z} {f = f} {fields = g ∷ fs} is alike keeps like un) has later =
      ap (λ (v : Value). last_field_cell after.heap (behind after.heap f v) g fs) (kept_slot op x w after old new z leads keeps)
      ∙ last_alike after.heap (behind after.heap f (slot_at old z)) (slot_at old y) g fs
      (ap without_primitive (store_value is alike) ∙ twice (slot_at old value) ∙ ap without_primitive (sym (equal y value like)))
      ∙ last_same w.heap after.heap (slot_at old y) g fs (all_unchanged (shape op x w after old new leads) (g ∷ fs) un)
