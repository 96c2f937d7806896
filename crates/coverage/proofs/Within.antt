-- Operations that go on: what they leave is covered.
use Rattle.std.proofs.Common.{◌≡◌, ◌⊎◌, inl, inr, arith, ℕ, ◌+◌, Bool, true, false, cond, eqb, List, [], ◌∷◌, Some, Contains, refl, sym, ap, ◌∙◌, subst}
use Rattle.std.specs.Prelude.{slice_get, slice_set, suc}
use Rattle.std.proofs.lemmas.Bool.{cases_eq, eqb-true}
use Rattle.std.proofs.lemmas.Option.{same_Some}
use Rattle.list_laws.proofs.Members.{contains_cases, contains_first, contains_later, contains_none}
use Rattle.jvm_model.specs.declared.number.FieldNo.{FieldNo}
use Rattle.jvm_model.specs.declared.number.MethodNo.{MethodNo}
use Rattle.jvm_model.specs.declared.site.Site.{Site}
use Rattle.jvm_model.specs.Subtypes.{Fits}
use Rattle.least_sets.specs.Rules.{IsClosedSet}
use Rattle.op_model.specs.declared.lowered.LoweredMethod.{LoweredMethod}
use Rattle.op_model.specs.declared.node.Node.{Node}
use Rattle.op_model.specs.declared.op.Op.{Op}
use Rattle.op_model.specs.declared.op.Op.TheVariants.{Assign, Load, Store, LoadElement, StoreElement, LoadStatic, StoreStatic, New, NewArray, Constant, Call, Return, Throw, Cast, Probe}
use Rattle.op_model.specs.Supplies.{GivenAs}
use Rattle.machine_bytecode.specs.Objects.{Subject, Passes, no_object, fitting}
use Rattle.machine_bytecode.specs.Start.{boot_site}
use Rattle.machine_bytecode.specs.States.{Value, reference_to, fields, elements, Object, World, slot_at, updated}
use Rattle.machine_nodes.specs.NodeSteps.{Leads}
use Rattle.machine_nodes.specs.Slots.{AreSame}
use Rattle.slot_names.specs.Variables.{effect_on}
use Rattle.points_to_rules.specs.Facts.{variable, field_of, elements_of, static_field, Fact, may_hold, may_run}
use Rattle.points_to_rules.specs.Rules.{IsNodeOf, IsSlotAfter, Instance, load, load_element, load_static, make, make_array, get_constant, cast, store, store_element, store_static, nest, begin_static}
use Rattle.points_to_rules.specs.WholeMethods.{AreWholeMethods}
use Rattle.coverage.specs.References.{IsCovered}
use Rattle.coverage.specs.Sites.{IsSite, of_node, IsMadeAt, of_new, of_new_array}
use Rattle.coverage.specs.Covering.{MayHold, MayHoldStatic, IsCoveredWorld}
use Rattle.coverage.proofs.Lists.{where_set}
use Rattle.coverage.proofs.Values.{grows_not, covered_by, covered_at, covered_as, among_from}
use Rattle.coverage.proofs.Arrays.{AreNested}
use Rattle.coverage.proofs.Effects.{no_write}
use Rattle.coverage.proofs.Worlds.{Inner, IsLater, later_same, object_made, arrays_made, contents_later, static_later}
use Rattle.coverage.proofs.Slots.{AreSlotsCovered, IsNext, slot_after, operand_of, moved_slots, gets_slots, puts_slots, kept_slot}
use Rattle.coverage.proofs.KeptFields.{same_fields}

same_elements : (values others : List Value) → elements values ≡ elements others → values ≡ others
same_elements values others e = cc

pub fields_elements : (values : ℕ → Value) (others : List Value) → fields values ≡ elements others → ⊥
fields_elements values others e = cc

from_zero : (sites : List Site) (k : ℕ) → slice_get sites (0 + k) ≡ slice_get sites k
from_zero sites k = let same : 0 + k ≡ k = omega arith in ap (slice_get sites) same

pub same_place : (a b : ℕ) → reference_to a ≡ reference_to b → a ≡ b
same_place a b e = cc

module _ (x : Subject) (gives : GivenAs) (S : Fact → Type 0) (closed : IsClosedSet (Instance x.program gives (record { 0 = x.entry })) S) (whole : AreWholeMethods x.program gives) where
  -- what an operation at a node leaves
  pub record IsLed (l : LoweredMethod) (n : Node) (before after : World) (left : List Value) : Type 0 where
    pub later : IsLater x gives S before after
    pub slots : (k : Node) → IsNext l n k → AreSlotsCovered S l k after.heap left

  led_as : (l : LoweredMethod) (n : Node) (before after w : World) (left : List Value) → after ≡ w → IsLed l n before w left → IsLed l n before after left
  led_as l n before after w left e c = subst (λ (u : World). IsLed l n before u left) (sym e) c

  -- a static field that is loaded holds what it begins with
  pub static_covered : (m : MethodNo) (l : LoweredMethod) (n : Node) (field : FieldNo) (target : ℕ) (heap : List Object) (v : Value) → IsNodeOf gives m l n → S (may_run m) → n.op ≡ LoadStatic field target
      → IsCovered (MayHoldStatic x.program S field) heap v → IsCovered (MayHold S (static_field field)) heap v
  static_covered m l n field target heap v is runs is_op c =
      covered_by (MayHoldStatic x.program S field) (MayHold S (static_field field)) heap v
      (λ s may. elim may [
        | inl held ↦ held
        | inr begins ↦ subst (λ (t : Site). S (may_hold (static_field field) t)) (sym begins.2) (closed _ _ (begin_static m l n target field begins.0 is is_op begins.1) (runs, tt))
      ]) c

  module _ (m : MethodNo) (l : LoweredMethod) (n : Node) (is : IsNodeOf gives m l n) (runs : S (may_run m)) where
    made_here : (s : Site) → IsMadeAt x.program S m n s → IsSite x.program gives S s
    made_here s made = of_node m l n runs is made

    -- each of nested arrays holds those of the next site
    nested_from : (sites : List Site) (target : ℕ) → n.op ≡ NewArray sites target → (front : ℕ) (rest : List Site) → ((k : ℕ) → slice_get sites (front + k) ≡ slice_get rest k) → AreNested (Inner x gives S) rest
    nested_from sites target is_op front [] at = tt
    nested_from sites target is_op front (outer ∷ []) at = tt
    nested_from sites target is_op front (outer ∷ inner ∷ rest) at = (
      closed _ _ (nest m l n sites target front outer inner is is_op (first_at_front (at 0)) (at 1)) (runs, tt),
      nested_from sites target is_op (front + 1) (inner ∷ rest) (λ k. shifted k (at (suc k))),
    )
      where
        first_at_front : slice_get sites (front + 0) ≡ Some outer → slice_get sites front ≡ Some outer
        first_at_front e = let same : front + 0 ≡ front = omega arith in subst (λ (i : ℕ). slice_get sites i ≡ Some outer) same e

        shifted : (k : ℕ) → slice_get sites (front + suc k) ≡ slice_get (inner ∷ rest) k → slice_get sites (front + 1 + k) ≡ slice_get (inner ∷ rest) k
        shifted k e = let same : front + suc k ≡ front + 1 + k = omega arith in subst (λ (i : ℕ). slice_get sites i ≡ slice_get (inner ∷ rest) k) same e

    -- a cast keeps each slot, and its own where the object fits
    cast_slots : (class : List ℕ) (slot : ℕ) (before : World) (old left : List Value) (k : Node) → IsNext l n k → n.op ≡ Cast class slot → Passes x.program class before (slot_at old slot) → AreSame old left
        → IsCoveredWorld x gives S before → AreSlotsCovered S l n before.heap old → AreSlotsCovered S l k before.heap left
    cast_slots class slot before old left k next is_op passes same w slots z v inside after = by (cases_eq slot z)
      where
        -- the object of the slot fits
        fits : (place : ℕ) (o : Object) → slot_at old slot ≡ reference_to place → slice_get before.heap place ≡ Some o → Passes x.program class before (slot_at old slot) → Fits x.program class o.site.class
        fits place o at held (no_object none) = absurd (let e = sym at ∙ none in cc)
        fits place o at held (fitting f) =
            let places : f.to.place ≡ place = same_place f.to.place place (sym f.to.is ∙ at) in
            let objects : f.to.object ≡ o = same_Some f.to.object o (sym f.to.held ∙ ap (slice_get before.heap) places ∙ held) in
            subst (λ (c : List ℕ). Fits x.program class c) (ap (λ (p : Object). p.class) objects ∙ (w.objects place o held).of_class) f.fits

        by : (slot ≡ z) ⊎ (slot ≡ z → ⊥) → IsCovered (MayHold S (variable v)) before.heap (slot_at left z)
        by (inl e) =
            let o = operand_of x gives S closed whole m l n (Cast class slot) slot before.heap old is is_op (contains_first slot []) slots in
            let after_slot : IsSlotAfter l n slot (variable v) = subst (λ (y : ℕ). IsSlotAfter l n y (variable v)) (sym e) (slot_after l n k z v next after) in
            covered_as (MayHold S (variable v)) before.heap (slot_at old slot) _ (same z ∙ ap (slot_at old) (sym e))
            (covered_at (MayHold S o.holder) (MayHold S (variable v)) before.heap (slot_at old slot)
            (λ place object at held among. closed _ _ (cast m l n class slot o.holder (variable v) object.site is is_op o.slot after_slot (fits place object at held passes)) (runs, (among, tt))) o.covered)
        by (inr other) =
            covered_as (MayHold S (variable v)) before.heap (slot_at old z) _ (same z)
            (kept_slot x gives S closed whole m l n k is runs next z v before.heap old inside
            (ap (effect_on z) is_op ∙ no_write z (slot ∷ []) (λ there. elim (contains_cases slot z [] there) [ inl e ↦ other e | inr none ↦ contains_none z none ])) after slots)

    -- a field that is written, and the others
    field_written : (values others : ℕ → Value) (field other : FieldNo) (heap : List Object) (v : Value) (base : Site) → fields (updated values field.0 v) ≡ fields others
        → IsCovered (MayHold S (field_of base field)) heap v → ((f : FieldNo) → IsCovered (MayHold S (field_of base f)) heap (values f.0)) → IsCovered (MayHold S (field_of base other)) heap (others other.0)
    field_written values others field other heap v base e new old =
        subst (λ (vs : ℕ → Value). IsCovered (MayHold S (field_of base other)) heap (vs other.0)) (same_fields _ others e) (by (eqb other.0 field.0) refl)
      where
        by : (b : Bool) → eqb other.0 field.0 ≡ b → IsCovered (MayHold S (field_of base other)) heap (cond b v (values other.0))
        by true is_it =
            let same : field ≡ other = ap (λ (number : ℕ). record { 0 = number }) (sym (eqb-true other.0 field.0 is_it)) in
            subst (λ (f : FieldNo). IsCovered (MayHold S (field_of base f)) heap v) same new
        by false is_not = old other

    element_written : (values others : List Value) (index : ℕ) (u : Value) (heap : List Object) (v : Value) (base : Site) → elements (slice_set values index v) ≡ elements others → Contains others u
        → IsCovered (MayHold S (elements_of base)) heap v → ((y : Value) → Contains values y → IsCovered (MayHold S (elements_of base)) heap y) → IsCovered (MayHold S (elements_of base)) heap u
    element_written values others index u heap v base e there new old =
        by (where_set values index v u (subst (λ (vs : List Value). Contains vs u) (sym (same_elements _ others e)) there))
      where
        by : (v ≡ u) ⊎ Contains values u → IsCovered (MayHold S (elements_of base)) heap u
        by (inl is_it) = subst (λ (y : Value). IsCovered (MayHold S (elements_of base)) heap y) is_it new
        by (inr among) = old u among

    pub leads_covered : (op : Op) (before after : World) (old left : List Value) → n.op ≡ op → Leads op x before old left after → IsCoveredWorld x gives S before → AreSlotsCovered S l n before.heap old
        → IsLed l n before after left
    leads_covered (Assign changes) before after old left is_op h w slots =
        led_as l n before after before left h.1 (record {
          later = later_same x gives S before w;
          slots = λ k next. moved_slots x gives S closed whole m l n k is runs next changes before.heap old left is_op h.0 slots;
        })
    leads_covered (Load object field target) before after old left is_op h w slots =
        let o = operand_of x gives S closed whole m l n (Load object field target) object before.heap old is is_op (contains_first object []) slots in
        let to = h.is_read.to in
        let base : S (may_hold o.holder to.object.site) = among_from (MayHold S o.holder) before.heap (slot_at old object) to.place to.object o.covered to.is to.held in
        let value : IsCovered (MayHold S (field_of to.object.site field)) before.heap h.value =
        covered_as (MayHold S (field_of to.object.site field)) before.heap (h.is_read.values field.0) h.value h.is_read.is
        ((w.objects to.place to.object to.held).in_fields h.is_read.values field h.is_read.holds) in
        led_as l n before after before left h.same (record {
          later = later_same x gives S before w;
          slots = λ k next. gets_slots x gives S closed whole m l n k is runs next (Load object field target) (object ∷ []) target h.value old left before.heap before.heap is_op (λ z. refl) h.are_left (grows_not before.heap)
              (λ to_holder after_slot. covered_by (MayHold S (field_of to.object.site field)) (MayHold S to_holder) before.heap h.value
              (λ s held. closed _ _ (load m l n object target field o.holder to_holder to.object.site s is is_op o.slot after_slot) (runs, (base, (held, tt)))) value) slots;
        })
    leads_covered (Store object field value) before after old left is_op h w slots =
        let op = Store object field value in
        let o = operand_of x gives S closed whole m l n op object before.heap old is is_op (contains_first object (value ∷ [])) slots in
        let v = operand_of x gives S closed whole m l n op value before.heap old is is_op (contains_later object value (value ∷ []) (contains_first value [])) slots in
        let to = h.0.to in
        let base : S (may_hold o.holder to.object.site) = among_from (MayHold S o.holder) before.heap (slot_at old object) to.place to.object o.covered to.is to.held in
        let new : IsCovered (MayHold S (field_of to.object.site field)) before.heap (slot_at old value) =
        covered_by (MayHold S v.holder) (MayHold S (field_of to.object.site field)) before.heap (slot_at old value)
        (λ s held. closed _ _ (store m l n object value field o.holder v.holder to.object.site s is is_op o.slot v.slot) (runs, (base, (held, tt)))) v.covered in
        let later = contents_later x gives S before to.place to.object (fields (updated h.0.values field.0 (slot_at old value))) to.held
        (λ values other e. field_written h.0.values values field other before.heap (slot_at old value) to.object.site e new (λ f. (w.objects to.place to.object to.held).in_fields h.0.values f h.0.holds))
        (λ values u e there. absurd (fields_elements _ values e)) w in
        led_as l n before after _ left h.0.is (record {
          later = later;
          slots = λ k next. puts_slots x gives S closed whole m l n k is runs next op (object ∷ value ∷ []) old left before.heap _ is_op (λ z. refl) h.1 later.grows slots;
        })
    leads_covered (LoadElement array target) before after old left is_op h w slots =
        let op = LoadElement array target in
        let o = operand_of x gives S closed whole m l n op array before.heap old is is_op (contains_first array []) slots in
        let a = h.is_read.of.array in
        let base : S (may_hold o.holder a.to.object.site) = among_from (MayHold S o.holder) before.heap (slot_at old array) a.to.place a.to.object o.covered a.to.is a.to.held in
        let value : IsCovered (MayHold S (elements_of a.to.object.site)) before.heap h.value =
        (w.objects a.to.place a.to.object a.to.held).in_elements a.values h.value a.holds h.is_read.among in
        led_as l n before after before left h.same (record {
          later = later_same x gives S before w;
          slots = λ k next. gets_slots x gives S closed whole m l n k is runs next op (array ∷ []) target h.value old left before.heap before.heap is_op (λ z. refl) h.are_left (grows_not before.heap)
              (λ to_holder after_slot. covered_by (MayHold S (elements_of a.to.object.site)) (MayHold S to_holder) before.heap h.value
              (λ s held. closed _ _ (load_element m l n array target o.holder to_holder a.to.object.site s is is_op o.slot after_slot) (runs, (base, (held, tt)))) value) slots;
        })
    leads_covered (StoreElement array value) before after old left is_op h w slots =
        let op = StoreElement array value in
        let o = operand_of x gives S closed whole m l n op array before.heap old is is_op (contains_first array (value ∷ [])) slots in
        let v = operand_of x gives S closed whole m l n op value before.heap old is is_op (contains_later array value (value ∷ []) (contains_first value [])) slots in
        let a = h.0.of.array in
        let base : S (may_hold o.holder a.to.object.site) = among_from (MayHold S o.holder) before.heap (slot_at old array) a.to.place a.to.object o.covered a.to.is a.to.held in
        let new : IsCovered (MayHold S (elements_of a.to.object.site)) before.heap (slot_at old value) =
        covered_by (MayHold S v.holder) (MayHold S (elements_of a.to.object.site)) before.heap (slot_at old value)
        (λ s held. closed _ _ (store_element m l n array value o.holder v.holder a.to.object.site s is is_op o.slot v.slot) (runs, (base, (held, tt)))) v.covered in
        let later = contents_later x gives S before a.to.place a.to.object (elements (slice_set a.values h.0.index (slot_at old value))) a.to.held
        (λ values other e. absurd (fields_elements values _ (sym e)))
        (λ values u e there. element_written a.values values h.0.index u before.heap (slot_at old value) a.to.object.site e there new
        (λ y among. (w.objects a.to.place a.to.object a.to.held).in_elements a.values y a.holds among)) w in
        led_as l n before after _ left h.0.is (record {
          later = later;
          slots = λ k next. puts_slots x gives S closed whole m l n k is runs next op (array ∷ value ∷ []) old left before.heap _ is_op (λ z. refl) h.1 later.grows slots;
        })
    leads_covered (LoadStatic field target) before after old left is_op h w slots =
        let value : IsCovered (MayHold S (static_field field)) before.heap h.value =
        covered_as (MayHold S (static_field field)) before.heap (before.statics field.0) h.value h.is_read
        (static_covered m l n field target before.heap (before.statics field.0) is runs is_op (w.statics field)) in
        led_as l n before after before left h.same (record {
          later = later_same x gives S before w;
          slots = λ k next. gets_slots x gives S closed whole m l n k is runs next (LoadStatic field target) [] target h.value old left before.heap before.heap is_op (λ z. refl) h.are_left (grows_not before.heap)
              (λ to_holder after_slot. covered_by (MayHold S (static_field field)) (MayHold S to_holder) before.heap h.value
              (λ s held. closed _ _ (load_static m l n target field to_holder s is is_op after_slot) (runs, (held, tt))) value) slots;
        })
    leads_covered (StoreStatic field value) before after old left is_op h w slots =
        let op = StoreStatic field value in
        let v = operand_of x gives S closed whole m l n op value before.heap old is is_op (contains_first value []) slots in
        let new : IsCovered (MayHold S (static_field field)) before.heap (slot_at old value) =
        covered_by (MayHold S v.holder) (MayHold S (static_field field)) before.heap (slot_at old value)
        (λ s held. closed _ _ (store_static m l n value field v.holder s is is_op v.slot) (runs, (held, tt))) v.covered in
        let later = static_later x gives S before field (slot_at old value) new w in
        led_as l n before after _ left h.0 (record {
          later = later;
          slots = λ k next. puts_slots x gives S closed whole m l n k is runs next op (value ∷ []) old left before.heap _ is_op (λ z. refl) h.1 later.grows slots;
        })
    leads_covered (New site target) before after old left is_op h w slots =
        let made = object_made x gives S site before h.made after h.is_made (made_here site (of_new target is_op)) w in
        record {
          later = made.later;
          slots = λ k next. gets_slots x gives S closed whole m l n k is runs next (New site target) [] target h.made old left before.heap after.heap is_op (λ z. refl) h.are_left made.later.grows
              (λ to_holder after_slot. covered_by (λ t. t ≡ site) (MayHold S to_holder) after.heap h.made
              (λ s e. subst (λ (t : Site). S (may_hold to_holder t)) (sym e) (closed _ _ (make m l n target to_holder site is is_op after_slot) (runs, tt))) made.leads) slots;
        }
    leads_covered (NewArray sites target) before after old left is_op h w slots =
        let made = arrays_made x gives S sites before h.made after h.is_made (λ s there. made_here s (of_new_array sites target is_op there)) (nested_from sites target is_op 0 sites (λ k. from_zero sites k)) w in
        record {
          later = made.later;
          slots = λ k next. gets_slots x gives S closed whole m l n k is runs next (NewArray sites target) [] target h.made old left before.heap after.heap is_op (λ z. refl) h.are_left made.later.grows
              (λ to_holder after_slot. covered_by (λ t. slice_get sites 0 ≡ Some t) (MayHold S to_holder) after.heap h.made
              (λ s e. closed _ _ (make_array m l n sites target to_holder s is is_op e after_slot) (runs, tt)) made.leads) slots;
        }
    leads_covered (Constant site target) before after old left is_op h w slots =
        let there = w.start.constants h.is_read.place site.class h.is_read.stands in
        let value : IsCovered (λ t. t ≡ boot_site site.class) before.heap h.value =
        covered_as (λ t. t ≡ boot_site site.class) before.heap (reference_to h.is_read.place) h.value h.is_read.is there in
        led_as l n before after before left h.same (record {
          later = later_same x gives S before w;
          slots = λ k next. gets_slots x gives S closed whole m l n k is runs next (Constant site target) [] target h.value old left before.heap before.heap is_op (λ z. refl) h.are_left (grows_not before.heap)
              (λ to_holder after_slot. covered_by (λ t. t ≡ boot_site site.class) (MayHold S to_holder) before.heap h.value
              (λ s e. subst (λ (t : Site). S (may_hold to_holder t)) ((whole m.0 l is.given).constants n site target is.stands is_op ∙ sym e)
              (closed _ _ (get_constant m l n target to_holder site is is_op after_slot) (runs, tt))) value) slots;
        })
    leads_covered (Call call) before after old left is_op h w slots = absurd h
    leads_covered (Return value) before after old left is_op h w slots = absurd h
    leads_covered (Throw value) before after old left is_op h w slots = absurd h
    leads_covered (Cast class slot) before after old left is_op h w slots =
        led_as l n before after before left h.2 (record {
          later = later_same x gives S before w;
          slots = λ k next. cast_slots class slot before old left k next is_op h.0 h.1 w slots;
        })
    leads_covered (Probe slot) before after old left is_op h w slots =
        led_as l n before after before left h.0.1 (record {
          later = later_same x gives S before w;
          slots = λ k next. puts_slots x gives S closed whole m l n k is runs next (Probe slot) (slot ∷ []) old left before.heap before.heap is_op (λ z. refl) h.1 (grows_not before.heap) slots;
        })
