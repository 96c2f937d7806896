-- How an operation that goes on changes the heap: which fields, sites and states are as before.
use Rattle.std.proofs.Common.{◌≡◌, ◌≢◌, ◌⊎◌, inl, inr, ℕ, zero, suc, ◌+◌, ◌*◌, ◌<◌, ◌≤◌, List, [], ◌∷◌, ◌++◌, length, drop, map, replicate, Some, Contains, refl, sym, ◌∙◌, ap, subst, arith}
use Rattle.std.specs.Prelude.{slice_get, slice_set, slice_index_or}
use Rattle.std.specs.List.{AllByRecursion}
use Rattle.std.proofs.lemmas.Bool.{cases_eq}
use Rattle.std.proofs.lemmas.List.Elements.{Contains-append_cases}
use Rattle.std.proofs.lemmas.Option.{same_Some}
use Rattle.list_laws.proofs.Members.{contains_cases, contains_first, contains_later, contains_none}
use Rattle.list_laws.proofs.Places.{contains_at, in_longer, set_cases, set_other}
use Rattle.jvm_model.specs.declared.number.FieldNo.{FieldNo}
use Rattle.jvm_model.specs.declared.site.Site.{Site}
use Rattle.op_model.specs.declared.op.Op.{Op}
use Rattle.op_model.specs.declared.op.Op.TheVariants.{Assign, Load, Store, LoadElement, StoreElement, LoadStatic, StoreStatic, New, NewArray, Constant, Call, Return, Throw, Cast, Probe}
use Rattle.machine_bytecode.specs.Objects.{Subject}
use Rattle.machine_bytecode.specs.States.{Value, null_value, reference_to, fields, elements, Object, World, slot_at, updated, default_element, new_object, new_array, Dimension, references_from, arrays_of_arrays, arrays_from}
use Rattle.machine_nodes.specs.NodeSteps.{Leads}
use Rattle.stage_facts.specs.Values.{without_primitive, field_in, element_in}
use Rattle.stage_relations.specs.Relations.{IsUnstored}
use Rattle.stage_steps.proofs.Paths.{default_field, default_refers_not, part_append, part_in, part_push, part_set, reference_in, same_place, set_here, Unchanged}
use Rattle.stage_steps.proofs.Calm.{HasAt}
use Rattle.stage_steps.proofs.Sites.{same_field, updated_other}

-- ---- new arrays

-- It is of one of the sites, has no fields, and its elements refer to places from the first one on.
pub record IsNewArray (sites : List Site) (first : ℕ) (o : Object) : Type 0 where
  pub among : Contains sites o.site
  pub no_field : (f : FieldNo) → field_in f o.contents ≡ null_value
  pub beyond : (index q : ℕ) → element_in index o.contents ≡ reference_to q → first ≤ q

references_beyond : (first long index q : ℕ) → slice_index_or (references_from first long) index null_value ≡ reference_to q → first ≤ q
references_beyond first zero index q e = absurd (cc e)
references_beyond first (suc long) zero q e = let same = same_place first q e in omega (arith, same)
references_beyond first (suc long) (suc index) q e = let later = references_beyond (first + 1) long index q e in omega (arith, later)

default_elements : (class : List ℕ) (long index : ℕ) → without_primitive (slice_index_or (replicate long (default_element class)) index null_value) ≡ null_value
default_elements class zero index = refl
default_elements class (suc long) zero = default_refers_not (drop 1 class)
default_elements class (suc long) (suc index) = default_elements class long index

row_is_new : (d : Dimension) (sites : List Site) (state first low count : ℕ) (o : Object) → Contains sites d.site → low ≤ first
    → Contains (arrays_of_arrays d state first count) o → IsNewArray sites low o
row_is_new d sites state first low zero o among le there = absurd (contains_none o there)
row_is_new d sites state first low (suc count) o among le there =
    by (row_is_new d sites state (first + d.long) low count o among (omega (arith, le)))
    (contains_cases (new_array d.site (references_from first d.long) state) o (arrays_of_arrays d state (first + d.long) count) there)
  where
    by : (Contains (arrays_of_arrays d state (first + d.long) count) o → IsNewArray sites low o)
        → (new_array d.site (references_from first d.long) state ≡ o) ⊎ Contains (arrays_of_arrays d state (first + d.long) count) o → IsNewArray sites low o
    by rest (inr later) = rest later
    by rest (inl e) = subst (λ (y : Object). IsNewArray sites low y) e (record {
      among = among;
      no_field = λ f. refl;
      beyond = λ index q is. (let far = references_beyond first d.long index q (reference_in _ q is) in omega (arith, far, le));
    })

replicated_is : {X : Type 0} (n : ℕ) (x y : X) → Contains (replicate n x) y → x ≡ y
replicated_is zero x y there = absurd (contains_none y there)
replicated_is {X = X} (suc n) x y there = by (replicated_is n x y) (contains_cases x y (replicate n x) there)
  where
    by : (Contains (replicate n x) y → x ≡ y) → (x ≡ y) ⊎ Contains (replicate n x) y → x ≡ y
    by rest (inl e) = e
    by rest (inr later) = rest later

widened : (outer : Site) (sites : List Site) (first : ℕ) (o : Object) → IsNewArray sites first o → IsNewArray (outer ∷ sites) first o
widened outer sites first o a = record { among = contains_later outer o.site sites a.among; no_field = a.no_field; beyond = a.beyond }

pub arrays_are_new : (dimensions : List Dimension) (state place low count : ℕ) (o : Object) → low ≤ place
    → Contains (arrays_from state place count dimensions) o → IsNewArray (map (λ (d : Dimension). d.site) dimensions) low o
arrays_are_new [] state place low count o le there = absurd (contains_none o there)
arrays_are_new (d ∷ []) state place low count o le there =
    subst (λ (y : Object). IsNewArray (d.site ∷ []) low y) (replicated_is count _ o there) (record {
      among = contains_first d.site [];
      no_field = λ f. refl;
      beyond = λ index q is. absurd (let bad : null_value ≡ reference_to q = sym (default_elements d.site.class d.long index) ∙ is in cc bad);
    })
arrays_are_new (d ∷ e ∷ deeper) state place low count o le there =
    by (arrays_are_new (e ∷ deeper) state (place + count) low (count * d.long) o (omega (arith, le)))
    (Contains-append_cases (arrays_of_arrays d state (place + count) count) (arrays_from state (place + count) (count * d.long) (e ∷ deeper)) o there)
  where
    by : (Contains (arrays_from state (place + count) (count * d.long) (e ∷ deeper)) o → IsNewArray (e.site ∷ map (λ (d : Dimension). d.site) deeper) low o)
        → Contains (arrays_of_arrays d state (place + count) count) o ⊎ Contains (arrays_from state (place + count) (count * d.long) (e ∷ deeper)) o
        → IsNewArray (d.site ∷ e.site ∷ map (λ (d : Dimension). d.site) deeper) low o
    by rest (inl outer) =
        row_is_new d (d.site ∷ e.site ∷ map (λ (d : Dimension). d.site) deeper) state (place + count) low count o
        (contains_first d.site (e.site ∷ map (λ (d : Dimension). d.site) deeper)) (omega (arith, le)) outer
    by rest (inr inner) = widened d.site (e.site ∷ map (λ (d : Dimension). d.site) deeper) low o (rest inner)

-- ---- the heap after an operation

-- the object with another field, or with another element
abbrev pub with_field : Object → (ℕ → Value) → FieldNo → Value → Object
with_field into values f v = record { site = into.site; class = into.class; contents = fields (updated values f.0 v); automaton = into.automaton }

abbrev pub with_element : Object → List Value → ℕ → Value → Object
with_element into values index v = record { site = into.site; class = into.class; contents = elements (slice_set values index v); automaton = into.automaton }

pub data Shape (x : Subject) (op : Op) (old : List Value) (before after : List Object) : Type 0 where
  stayed : after ≡ before → Shape x op old before after
  pushed : {site : Site} {target : ℕ} → op ≡ New site target → after ≡ before ++ new_object x.program site x.property.initial ∷ [] → Shape x op old before after
  arrayed : {sites : List Site} {target : ℕ} (more : List Object) → op ≡ NewArray sites target
      → ((o : Object) → Contains more o → IsNewArray sites (length before) o) → after ≡ before ++ more → Shape x op old before after
  wrote : {base value : ℕ} {f : FieldNo} (place : ℕ) (into : Object) (values : ℕ → Value) → op ≡ Store base f value → slot_at old base ≡ reference_to place
      → slice_get before place ≡ Some into → into.contents ≡ fields values → after ≡ slice_set before place (with_field into values f (slot_at old value))
      → Shape x op old before after
  filled : {base value : ℕ} (place : ℕ) (into : Object) (values : List Value) (index : ℕ) → op ≡ StoreElement base value → slice_get before place ≡ Some into
      → into.contents ≡ elements values → index < length values → after ≡ slice_set before place (with_element into values index (slot_at old value))
      → Shape x op old before after

heap_of : (a b : World) → a ≡ b → a.heap ≡ b.heap
heap_of a b e = ap (λ (w : World). w.heap) e

pub shape : (op : Op) (x : Subject) (w after : World) (old new : List Value) → Leads op x w old new after → Shape x op old w.heap after.heap
shape (Assign moves) x w after old new l = stayed (heap_of after w l.1)
shape (Load object field target) x w after old new l = stayed (heap_of after w l.same)
shape (Store object field value) x w after old new l = wrote l.0.to.place l.0.to.object l.0.values refl l.0.to.is l.0.to.held l.0.holds (heap_of after _ l.0.is)
shape (LoadElement array target) x w after old new l = stayed (heap_of after w l.same)
shape (StoreElement array value) x w after old new l =
    filled l.0.of.array.to.place l.0.of.array.to.object l.0.of.array.values l.0.index refl l.0.of.array.to.held l.0.of.array.holds l.0.inside
    (heap_of after _ l.0.is)
shape (LoadStatic field target) x w after old new l = stayed (heap_of after w l.same)
shape (StoreStatic field value) x w after old new l = stayed (heap_of after _ l.0)
shape (New site target) x w after old new l = pushed refl (heap_of after _ l.is_made.after_is)
shape (NewArray sites target) x w after old new l =
    let made = l.is_made in
    arrayed (arrays_from x.property.initial (length w.heap) 1 made.dimensions) refl
    (λ o there. subst (λ (known : List Site). IsNewArray known (length w.heap) o) made.of_sites
    (arrays_are_new made.dimensions x.property.initial (length w.heap) (length w.heap) 1 o (omega arith) there))
    (heap_of after _ made.after_is)
shape (Constant site target) x w after old new l = stayed (heap_of after w l.same)
shape (Call call) x w after old new l = absurd l
shape (Return value) x w after old new l = absurd l
shape (Throw value) x w after old new l = absurd l
shape (Cast class slot) x w after old new l = stayed (heap_of after w l.2)
shape (Probe slot) x w after old new l = stayed (heap_of after w l.0.1)

-- ---- fields

pub field_unchanged : {x : Subject} {op : Op} {old : List Value} {before after : List Object} → Shape x op old before after → (f : FieldNo)
    → ((object value : ℕ) → op ≢ Store object f value) → Unchanged before after f
field_unchanged {before = before} (stayed e) f un place = part_in (field_in f) _ _ place e
field_unchanged {x = x} {before = before} (pushed {site = site} is e) f un place =
    part_in (field_in f) _ _ place e
    ∙ part_push (field_in f) before (new_object x.program site x.property.initial) place (default_field x.program f)
field_unchanged {before = before} (arrayed more is new e) f un place =
    part_in (field_in f) _ _ place e ∙ part_append (field_in f) before more place (λ o there. (let a = new o there in a.no_field f))
field_unchanged {old = old} {before = before} (wrote {base = base} {value = value} {f = g} at into values is ref held holds e) f un place =
    part_in (field_in f) _ _ place e
    ∙ part_set (field_in f) before at place into (with_field into values g (slot_at old value)) held
    (λ _. ap without_primitive (updated_other values g.0 f.0 (slot_at old value)
    (λ d. un base value (is ∙ ap (λ (h : FieldNo). Store base h value) (sym (same_field f g d))))) ∙ sym (ap (field_in f) holds))
field_unchanged {old = old} {before = before} (filled {value = value} at into values index is held holds inside e) f un place =
    part_in (field_in f) _ _ place e
    ∙ part_set (field_in f) before at place into (with_element into values index (slot_at old value)) held (λ _. sym (ap (field_in f) holds))

pub all_unchanged : {x : Subject} {op : Op} {old : List Value} {before after : List Object} → Shape x op old before after → (fs : List FieldNo)
    → IsUnstored op fs → AllByRecursion (Unchanged before after) fs
all_unchanged how [] un = tt
all_unchanged how (f ∷ fs) un = (field_unchanged how f un.0, all_unchanged how fs un.1)

-- ---- objects

-- an object keeps its place, its site and its state
pub record Remains (heap : List Object) (place : ℕ) (old : Object) : Type 0 where
  pub object : Object
  pub stands : slice_get heap place ≡ Some object
  pub of_site : object.site ≡ old.site
  pub in_state : object.automaton ≡ old.automaton

remains_set : (heap : List Object) (at place : ℕ) (into written object : Object) → slice_get heap at ≡ Some into → written.site ≡ into.site
    → written.automaton ≡ into.automaton → slice_get heap place ≡ Some object → Remains (slice_set heap at written) place object
remains_set heap at place into written object is site state held = by (cases_eq place at)
  where
    by : (place ≡ at) ⊎ (place ≢ at) → Remains (slice_set heap at written) place object
    by (inl e) =
        let same : into ≡ object = same_Some _ _ (sym is ∙ ap (slice_get heap) (sym e) ∙ held) in
        record {
          object = written;
          stands = ap (slice_get (slice_set heap at written)) e ∙ set_here heap at into written is;
          of_site = site ∙ ap (λ (o : Object). o.site) same;
          in_state = state ∙ ap (λ (o : Object). o.automaton) same;
        }
    by (inr ne) = record { object = object; stands = set_other heap at place written ne ∙ held; of_site = refl; in_state = refl }

pub was_set : (heap : List Object) (at place : ℕ) (into written object : Object) → slice_get heap at ≡ Some into → written.site ≡ into.site
    → slice_get (slice_set heap at written) place ≡ Some object → HasAt object.site heap place
was_set heap at place into written object is site stands = elim (set_cases heap at place written object stands) [
  | inl here ↦ record { object = into; stands = ap (slice_get heap) here.0 ∙ is; of_site = sym site ∙ sym (ap (λ (o : Object). o.site) here.1) }
  | inr before ↦ record { object = object; stands = before; of_site = refl }
]

in_heap : {before after : List Object} {place : ℕ} {object : Object} → after ≡ before → Remains before place object → Remains after place object
in_heap {place = place} {object = object} e r = subst (λ (h : List Object). Remains h place object) (sym e) r

pub remains : {x : Subject} {op : Op} {old : List Value} {before after : List Object} → Shape x op old before after → (place : ℕ) (object : Object)
    → slice_get before place ≡ Some object → Remains after place object
remains (stayed e) place object held = in_heap e (record { object = object; stands = held; of_site = refl; in_state = refl })
remains {before = before} (pushed is e) place object held =
    in_heap e (record { object = object; stands = in_longer before _ place object held; of_site = refl; in_state = refl })
remains {before = before} (arrayed more is new e) place object held =
    in_heap e (record { object = object; stands = in_longer before more place object held; of_site = refl; in_state = refl })
remains {before = before} (wrote at into values is ref stands holds e) place object held =
    in_heap e (remains_set before at place into _ object stands refl refl held)
remains {before = before} (filled at into values index is stands holds inside e) place object held =
    in_heap e (remains_set before at place into _ object stands refl refl held)

-- the operation makes objects of a site
pub data Makes (op : Op) (s : Site) : Type 0 where
  an_object : {target : ℕ} → op ≡ New s target → Makes op s
  an_array : {sites : List Site} {target : ℕ} → op ≡ NewArray sites target → Contains sites s → Makes op s

pub append_cases : {X : Type 0} (xs ys : List X) (k : ℕ) (x : X) → slice_get (xs ++ ys) k ≡ Some x → (slice_get xs k ≡ Some x) ⊎ Contains ys x
append_cases [] ys k x e = inr (contains_at ys k x e)
append_cases (y ∷ xs) ys zero x e = inl e
append_cases (y ∷ xs) ys (suc k) x e = append_cases xs ys k x e

pub was : {x : Subject} {op : Op} {old : List Value} {before after : List Object} → Shape x op old before after → (place : ℕ) (object : Object)
    → slice_get after place ≡ Some object → HasAt object.site before place ⊎ Makes op object.site
was {before = before} (stayed e) place object stands =
    inl (record { object = object; stands = subst (λ (h : List Object). slice_get h place ≡ Some object) e stands; of_site = refl })
was {x = x} {op = op} {before = before} (pushed {site = site} {target = target} is e) place object stands =
    by (append_cases before _ place object (subst (λ (h : List Object). slice_get h place ≡ Some object) e stands))
  where
    by : (slice_get before place ≡ Some object) ⊎ Contains (new_object x.program site x.property.initial ∷ []) object
        → HasAt object.site before place ⊎ Makes op object.site
    by (inl held) = inl (record { object = object; stands = held; of_site = refl })
    by (inr new) = elim (contains_cases _ object [] new) [
      | inl same ↦ inr (an_object {target = target} (is ∙ ap (λ (y : Object). New y.site target) same))
      | inr none ↦ absurd (contains_none object none)
    ]
was {op = op} {before = before} (arrayed {sites = sites} {target = target} more is new e) place object stands =
    by (append_cases before more place object (subst (λ (h : List Object). slice_get h place ≡ Some object) e stands))
  where
    by : (slice_get before place ≡ Some object) ⊎ Contains more object → HasAt object.site before place ⊎ Makes op object.site
    by (inl held) = inl (record { object = object; stands = held; of_site = refl })
    by (inr there) = let a = new object there in inr (an_array is a.among)
was {before = before} (wrote at into values is ref held holds e) place object stands =
    inl (was_set before at place into _ object held refl (subst (λ (h : List Object). slice_get h place ≡ Some object) e stands))
was {before = before} (filled at into values index is held holds inside e) place object stands =
    inl (was_set before at place into _ object held refl (subst (λ (h : List Object). slice_get h place ≡ Some object) e stands))
