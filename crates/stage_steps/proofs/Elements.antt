-- Elements after an operation that goes on, and what is kept: where no other cells are possible, they refer to the object nowhere.
use Rattle.std.proofs.Common.{◌≡◌, ◌≢◌, ◌⊎◌, inl, inr, ℕ, List, ◌++◌, Some, Contains, false, refl, sym, ◌∙◌, ap, arith}
use Rattle.std.specs.Prelude.{slice_get, slice_set}
use Rattle.std.specs.Option.{option_map_or}
use Rattle.std.proofs.lemmas.Bool.{cases_eq}
use Rattle.std.proofs.lemmas.List.{get_or-set_other}
use Rattle.std.proofs.lemmas.Grind.{get_or-set_at}
use Rattle.std.proofs.lemmas.Option.{slice_get_within}
use Rattle.jvm_model.specs.declared.site.Site.{Site}
use Rattle.op_model.specs.declared.lowered.LoweredMethod.{LoweredMethod}
use Rattle.op_model.specs.declared.node.Node.{Node}
use Rattle.op_model.specs.declared.op.Op.{Op}
use Rattle.op_model.specs.declared.op.Op.TheVariants.{StoreElement}
use Rattle.machine_bytecode.specs.Objects.{Subject}
use Rattle.machine_bytecode.specs.States.{Value, null_value, reference_to, Object, World, slot_at, new_object}
use Rattle.machine_nodes.specs.NodeSteps.{Leads}
use Rattle.access_paths.specs.declared.root.Root.TheVariants.{Slot}
use Rattle.stage_facts.specs.Facts.{Tuple, EndsIn, Describes}
use Rattle.stage_facts.specs.Values.{of_slots, without_primitive, element_in, part_at, in_element, in_kept}
use Rattle.stage_relations.specs.Relations.{IsComplete}
use Rattle.stage_steps.proofs.Paths.{no_element, no_kept, part_held, part_in, part_is, part_push, part_set, part_set_here, reference_in}
use Rattle.stage_steps.proofs.Calm.{listed_root}
use Rattle.stage_steps.proofs.Shapes.{Shape, stayed, pushed, arrayed, wrote, filled, shape, with_field, with_element, append_cases}
use Rattle.stage_steps.proofs.Slots.{kept_same}

-- the object was put into an array
pub record IsFilled (op : Op) (old : List Value) (o : ℕ) : Type 0 where
  pub array : ℕ
  pub value : ℕ
  pub op_is : op ≡ StoreElement array value
  pub is : slot_at old value ≡ reference_to o

-- an element that refers to an object that was there did so before, or it was written
pub element_before : {x : Subject} {op : Op} {old : List Value} {before after : List Object} → Shape x op old before after → (o : ℕ) (object : Object)
    → slice_get before o ≡ Some object → (place index : ℕ) → part_at (element_in index) after place ≡ reference_to o
    → (part_at (element_in index) before place ≡ reference_to o) ⊎ IsFilled op old o
element_before (stayed e) o object stands place index is = inl (sym (part_in (element_in index) _ _ place e) ∙ is)
element_before {x = x} {before = before} (pushed {site = site} op_is e) o object stands place index is =
    inl (sym (part_push (element_in index) before (new_object x.program site x.property.initial) place refl)
    ∙ sym (part_in (element_in index) _ _ place e) ∙ is)
element_before {op = op} {old = old} {before = before} (arrayed {sites = sites} more op_is new e) o object stands place index is =
    let held = part_held (element_in index) (before ++ more) place o (sym (part_in (element_in index) _ _ place e) ∙ is) in
    by held.object held.is (append_cases before more place held.object held.stands)
  where
    by : (holder : Object) → element_in index holder.contents ≡ reference_to o → (slice_get before place ≡ Some holder) ⊎ Contains more holder
        → (part_at (element_in index) before place ≡ reference_to o) ⊎ IsFilled op old o
    by holder v (inl there) = inl (part_is (element_in index) before place holder there ∙ v)
    by holder v (inr late) =
        let a = new holder late in
        let far = a.beyond index o v in
        let near = slice_get_within before o object stands in
        absurd (omega (arith, far, near))
element_before {old = old} {before = before} (wrote {value = value} {f = f} at into values op_is ref held holds e) o object stands place index is =
    inl (sym (part_set (element_in index) before at place into (with_field into values f (slot_at old value)) held (λ _. sym (ap (element_in index) holds)))
    ∙ sym (part_in (element_in index) _ _ place e) ∙ is)
element_before {op = op} {old = old} {before = before}
    (filled {base = base} {value = value} at into values k op_is held holds inside e) o object stands place index is =
    by (cases_eq place at) (cases_eq index k)
  where
    written : Object
    written = with_element into values k (slot_at old value)

    later : part_at (element_in index) (slice_set before at written) place ≡ reference_to o
    later = sym (part_in (element_in index) _ _ place e) ∙ is

    by : (place ≡ at) ⊎ (place ≢ at) → (index ≡ k) ⊎ (index ≢ k) → (part_at (element_in index) before place ≡ reference_to o) ⊎ IsFilled op old o
    by (inr ne) any = inl (sym (part_set (element_in index) before at place into written held (λ d. absurd (ne d))) ∙ later)
    by (inl d) (inr ne) =
        inl (sym (part_set (element_in index) before at place into written held
        (λ q. ap without_primitive (get_or-set_other values k index (slot_at old value) null_value ne) ∙ sym (ap (element_in index) holds))) ∙ later)
    by (inl d) (inl q) =
        let part : without_primitive (slot_at old value) ≡ reference_to o =
        sym (ap without_primitive (get_or-set_at values k index (slot_at old value) null_value q inside))
        ∙ sym (part_set_here (element_in index) before at into written held) ∙ sym (ap (part_at (element_in index) (slice_set before at written)) d) ∙ later in
        inr (record { array = base; value = value; op_is = op_is; is = reference_in _ o part })

module _ (x : Subject) (l : LoweredMethod) (n : Node) (w after : World) (old new : List Value) (s : Site) (o : ℕ) (t u : Tuple)
    (d : Describes s t o w (of_slots old)) (off : t.may ≡ false) where
  pub element_end : (op : Op) (place index : ℕ) → Leads op x w old new after → IsComplete l n op t.must u.must
      → part_at (element_in index) after.heap place ≡ reference_to o → EndsIn u.must after (of_slots new) (in_element place index)
  element_end op place index leads c is = elim (element_before (shape op x w after old new leads) o d.object d.stands place index is) [
    | inl before ↦ (let e = d.cells off (in_element place index) before in absurd (no_element w (of_slots old) e.path place index e.ends))
    | inr k ↦ absurd (c.elements k.array k.value k.op_is (listed_root s o w (of_slots old) t (Slot k.value) d off k.is))
  ]

  pub kept_end : (op : Op) (number : ℕ) → Leads op x w old new after → option_map_or reference_to (slice_get after.kept number) null_value ≡ reference_to o
      → EndsIn u.must after (of_slots new) (in_kept number)
  kept_end op number leads is =
      let before =
      sym (ap (λ (places : List ℕ). option_map_or reference_to (slice_get places number) null_value) (kept_same op x w after old new leads)) ∙ is in
      let e = d.cells off (in_kept number) before in
      absurd (no_kept w (of_slots old) e.path number e.ends)
