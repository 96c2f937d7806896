-- Roots after an operation that goes on: where no other cells are possible, each root that has the object is listed.
use Rattle.std.proofs.Common.{◌≡◌, ◌≢◌, ◌⊎◌, inl, inr, ℕ, List, [], ◌∷◌, ◌++◌, length, Option, Some, None, Contains, false, refl, sym, ◌∙◌, ap, subst, arith}
use Rattle.std.specs.Prelude.{slice_get}
use Rattle.std.specs.Option.{option_to_list}
use Rattle.std.proofs.lemmas.List.Elements.{Contains-append_cases}
use Rattle.std.proofs.lemmas.Option.{same_Some, slice_get_within, get_or_from_slice_get}
use Rattle.list_laws.proofs.Members.{contained_or_not, contains_only, contained_in_map, contains_none}
use Rattle.list_laws.proofs.Places.{place_of}
use Rattle.jvm_model.specs.declared.number.FieldNo.{FieldNo}
use Rattle.jvm_model.specs.declared.site.Site.{Site}
use Rattle.op_model.specs.declared.lowered.LoweredMethod.{LoweredMethod}
use Rattle.op_model.specs.declared.node.Node.{Node}
use Rattle.op_model.specs.declared.op.Move.{Move}
use Rattle.op_model.specs.declared.op.Op.{Op}
use Rattle.op_model.specs.declared.op.Op.TheVariants.{Assign, Load, Store, LoadElement, StoreElement, LoadStatic, StoreStatic, New, NewArray, Constant, Call, Return, Throw, Cast, Probe}
use Rattle.op_model.specs.declared.op.Source.{Source}
use Rattle.op_model.specs.declared.op.Source.TheVariants as sources
use Rattle.machine_bytecode.specs.Objects.{Subject, constant_classes}
use Rattle.machine_bytecode.specs.States.{Value, primitive_value, null_value, reference_to, Object, World, slot_at}
use Rattle.machine_nodes.specs.NodeSteps.{Leads}
use Rattle.machine_nodes.specs.Slots.{source_value, AreLeft}
use Rattle.access_paths.specs.declared.root.Root.{Root}
use Rattle.access_paths.specs.declared.root.Root.TheVariants.{Slot, Static}
use Rattle.access_paths.specs.Paths.{bare}
use Rattle.stage_facts.specs.Facts.{Tuple, EndsIn, Describes}
use Rattle.stage_facts.specs.Values.{of_slots, root_value, without_primitive, field_in, element_in, part_at, in_root, in_field, in_element}
use Rattle.stage_transfer.specs.Operations.{target_of}
use Rattle.stage_relations.specs.Roots.{gone_slots, Copied, kept, moved, loaded, stored, static}
use Rattle.stage_relations.specs.Relations.{IsComplete}
use Rattle.stage_steps.proofs.Paths.{ends_in, no_element, part_is, same_place}
use Rattle.stage_steps.proofs.Calm.{listed_root}
use Rattle.stage_steps.proofs.Sites.{some_or_not, same_field}
use Rattle.stage_steps.proofs.Slots.{kept_slot, copied_value}
use Rattle.std.proofs.lemmas.Bool.{cases_eq}

-- the place is none of those of the objects that stand for constants
abbrev pub IsNoConstant : ℕ → Type 0
IsNoConstant o = (place : ℕ) (class : List ℕ) → slice_get constant_classes place ≡ Some class → place ≢ o

-- no object stands at the heap's end
pub at_end : (heap : List Object) (o : ℕ) (object : Object) → slice_get heap o ≡ Some object → length heap ≢ o
at_end heap o object stands e = let inside = slice_get_within heap o object stands in omega (arith, inside, e)

-- a slot that an operation wrote and that refers to an object is its target
pub record IsGiven (target : Option ℕ) (v : Value) (z o : ℕ) : Type 0 where
  pub is_target : target ≡ Some z
  pub is : v ≡ reference_to o

pub given_value : (operands : List ℕ) (target : Option ℕ) (v : Value) (old new : List Value) (z o : ℕ) → AreLeft operands target v old new
    → Contains (operands ++ option_to_list target) z → slot_at new z ≡ reference_to o → IsGiven target v z o
given_value operands target v old new z o left there is = by (some_or_not target z)
  where
    of_target : (t : Option ℕ) → Contains (option_to_list t) z → t ≡ Some z
    of_target None c = absurd (contains_none z c)
    of_target (Some y) c = ap Some (contains_only y z c)

    by : (target ≡ Some z) ⊎ (target ≢ Some z) → IsGiven target v z o
    by (inl e) = record { is_target = e; is = sym (left.given z e) ∙ is }
    by (inr ne) = elim (Contains-append_cases operands (option_to_list target) z there) [
      | inl operand ↦ absurd (let bad : primitive_value ≡ reference_to o = sym (left.cleared z operand ne) ∙ is in cc bad)
      | inr last ↦ absurd (ne (of_target target last))
    ]

static_or_not : (op : Op) (f : FieldNo) → ((y : ℕ) × (op ≡ StoreStatic f y)) ⊎ ((y : ℕ) → op ≢ StoreStatic f y)
static_or_not (StoreStatic g y) f =
    elim (cases_eq g.0 f.0) [ inl e ↦ inl (y, ap (λ (h : FieldNo). StoreStatic h y) (same_field g f e)) | inr ne ↦ inr (λ z e. ne (by y z e)) ]
  where
    by : (y z : ℕ) → StoreStatic g y ≡ StoreStatic f z → g.0 ≡ f.0
    by y z e = ap (λ (h : FieldNo). h.0) (cc e)
static_or_not op f = inr (λ z e. cc e)

module _ (x : Subject) (l : LoweredMethod) (n : Node) (w after : World) (old new : List Value) (s : Site) (o : ℕ) (t u : Tuple)
    (d : Describes s t o w (of_slots old)) (off : t.may ≡ false) (apart : IsNoConstant o) where
  at_root : (r : Root) → Contains u.must (bare r) → EndsIn u.must after (of_slots new) (in_root r)
  at_root r listed = record { path = bare r; listed = listed; ends = refl }

  -- a root that got what a root had that is the object's
  pub root_end : (op : Op) (r q : Root) → IsComplete l n op t.must u.must → Copied op r q → root_value w (of_slots old) r ≡ reference_to o
      → EndsIn u.must after (of_slots new) (in_root q)
  root_end op r q c copied is = at_root q (c.roots r q copied (listed_root s o w (of_slots old) t r d off is))

  -- the same slot by another name
  as_slot : (y z : ℕ) → y ≡ z → EndsIn u.must after (of_slots new) (in_root (Slot y)) → EndsIn u.must after (of_slots new) (in_root (Slot z))
  as_slot y z e end = subst (λ (k : ℕ). EndsIn u.must after (of_slots new) (in_root (Slot k))) e end

  no_target : (operands : List ℕ) (z : ℕ) → AreLeft operands None primitive_value old new → Contains (operands ++ []) z → slot_at new z ≡ reference_to o → ⊥
  no_target operands z left there is = let k = given_value operands None primitive_value old new z o left there is in let bad = k.is in cc bad

  -- a slot that the operation wrote
  gone_end : (op : Op) (z : ℕ) → Leads op x w old new after → IsComplete l n op t.must u.must → Contains (gone_slots op) z → slot_at new z ≡ reference_to o
      → EndsIn u.must after (of_slots new) (in_root (Slot z))
  gone_end (Assign moves) z leads c there is =
      let m = contained_in_map target_of moves z there in
      as_slot m.0.target z m.2 (by m.0 m.1 m.0.source refl (sym (leads.0.moved m.0 m.1) ∙ ap (slot_at new) m.2 ∙ is))
    where
      by : (m : Move) → Contains moves m → (source : Source) → m.source ≡ source → source_value m.source old ≡ reference_to o
          → EndsIn u.must after (of_slots new) (in_root (Slot m.target))
      by m listed (sources.Slot y) e v =
          root_end (Assign moves) (Slot y) (Slot m.target) c (moved refl listed e) (sym (ap (λ (from : Source). source_value from old) e) ∙ v)
      by m listed sources.Null e v = absurd (let bad : null_value ≡ reference_to o = sym (ap (λ (from : Source). source_value from old) e) ∙ v in cc bad)
      by m listed sources.Primitive e v =
          absurd (let bad : primitive_value ≡ reference_to o = sym (ap (λ (from : Source). source_value from old) e) ∙ v in cc bad)
  gone_end (Load object field target) z leads c there is =
      let k = given_value (object ∷ []) (Some target) leads.value old new z o leads.are_left there is in
      let read = leads.is_read in
      let to = read.to in
      let part : part_at (field_in field) w.heap to.place ≡ reference_to o =
      part_is (field_in field) w.heap to.place to.object to.held ∙ ap (field_in field) read.holds ∙ ap without_primitive (sym read.is ∙ k.is) in
      let e = d.cells off (in_field to.place field) part in
      as_slot target z (same_Some _ _ k.is_target)
      (at_root (Slot target) (c.loads object target field refl e.path e.listed (ends_in w (of_slots old) e.path to.place field e.ends)))
  gone_end (Store object field value) z leads c there is = absurd (no_target (object ∷ value ∷ []) z leads.1 there is)
  gone_end (LoadElement array target) z leads c there is =
      let k = given_value (array ∷ []) (Some target) leads.value old new z o leads.are_left there is in
      let read = leads.is_read in
      let to = read.of.array.to in
      let at = place_of read.of.array.values leads.value read.among in
      let part : part_at (element_in at.0) w.heap to.place ≡ reference_to o =
      part_is (element_in at.0) w.heap to.place to.object to.held ∙ ap (element_in at.0) read.of.array.holds
      ∙ ap without_primitive (get_or_from_slice_get read.of.array.values at.0 leads.value null_value at.1 ∙ k.is) in
      let e = d.cells off (in_element to.place at.0) part in
      absurd (no_element w (of_slots old) e.path to.place at.0 e.ends)
  gone_end (StoreElement array value) z leads c there is = absurd (no_target (array ∷ value ∷ []) z leads.1 there is)
  gone_end (LoadStatic field target) z leads c there is =
      let k = given_value [] (Some target) leads.value old new z o leads.are_left there is in
      as_slot target z (same_Some _ _ k.is_target) (root_end (LoadStatic field target) (Static field) (Slot target) c (loaded refl) (sym leads.is_read ∙ k.is))
  gone_end (StoreStatic field value) z leads c there is = absurd (no_target (value ∷ []) z leads.1 there is)
  gone_end (New site target) z leads c there is =
      let k = given_value [] (Some target) leads.made old new z o leads.are_left there is in
      absurd (at_end w.heap o d.object d.stands (same_place _ _ (sym leads.is_made.made_is ∙ k.is)))
  gone_end (NewArray sites target) z leads c there is =
      let k = given_value [] (Some target) leads.made old new z o leads.are_left there is in
      absurd (at_end w.heap o d.object d.stands (same_place _ _ (sym leads.is_made.made_is ∙ k.is)))
  gone_end (Constant site target) z leads c there is =
      let k = given_value [] (Some target) leads.value old new z o leads.are_left there is in
      let read = leads.is_read in
      absurd (apart read.place site.class read.stands (same_place _ _ (sym read.is ∙ k.is)))
  gone_end (Call call) z leads c there is = absurd leads
  gone_end (Return value) z leads c there is = absurd leads
  gone_end (Throw value) z leads c there is = absurd leads
  gone_end (Cast class slot) z leads c there is = absurd (contains_none z there)
  gone_end (Probe slot) z leads c there is = absurd (no_target (slot ∷ []) z leads.1 there is)

  pub slot_end : (op : Op) (z : ℕ) → Leads op x w old new after → IsComplete l n op t.must u.must → slot_at new z ≡ reference_to o
      → EndsIn u.must after (of_slots new) (in_root (Slot z))
  slot_end op z leads c is = elim (contained_or_not (gone_slots op) z) [
    | inl there ↦ gone_end op z leads c there is
    | inr free ↦ root_end op (Slot z) (Slot z) c (kept free) (sym (kept_slot op x w after old new z leads free) ∙ is)
  ]

  pub static_end : (op : Op) (f : FieldNo) → Leads op x w old new after → IsComplete l n op t.must u.must → after.statics f.0 ≡ reference_to o
      → EndsIn u.must after (of_slots new) (in_root (Static f))
  static_end op f leads c is = elim (static_or_not op f) [
    | inl k ↦ root_end op (Slot k.0) (Static f) c (stored k.1) (sym (copied_value op x w after old new {r = Slot k.0} {q = Static f} leads (stored k.1)) ∙ is)
    | inr un ↦ root_end op (Static f) (Static f) c (static un) (sym (copied_value op x w after old new {r = Static f} {q = Static f} leads (static un)) ∙ is)
  ]
