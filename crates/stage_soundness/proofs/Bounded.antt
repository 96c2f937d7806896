-- In each state of each execution on nodes that a closed set covers, whatever refers to an object refers to one that is there.
use Rattle.std.proofs.Common.{◌≡◌, ◌⊎◌, inl, inr, ℕ, zero, suc, ◌+◌, ◌<◌, ◌≤◌, Bool, true, false, cond, List, [], ◌∷◌, ◌++◌, length, Option, Some, None, Contains, refl, sym, ap, ◌∙◌, subst, arith}
use Rattle.std.specs.List.{AllByRecursion}
use Rattle.std.specs.Option.{option_map_or}
use Rattle.std.specs.Prelude.{slice_get, slice_index_or}
use Rattle.std.specs.Str.{bytes_eq}
use Rattle.std.proofs.Math.Nat.{eq-or-lt_of_le}
use Rattle.std.proofs.lemmas.Bool.{cases_lt, false≢true}
use Rattle.std.proofs.lemmas.Option.{slice_get_within}
use Rattle.std.proofs.lemmas.Slice.Eq.{bytes_eq-Decides}
use Rattle.list_laws.proofs.Members.{contained_or_not, contains_cases, contains_first, contains_later, contains_none}
use Rattle.list_laws.proofs.Places.{contains_at, pushed_at}
use Rattle.jvm_model.specs.declared.number.FieldNo.{FieldNo}
use Rattle.jvm_model.specs.declared.site.Site.{Site}
use Rattle.jvm_model.specs.declared.stub.StubResult.{StubResult}
use Rattle.jvm_model.specs.declared.stub.StubResult.TheVariants as results
use Rattle.jvm_model.specs.Programs.{Method}
use Rattle.jvm_model.specs.Soundness.{plain_descriptor}
use Rattle.least_sets.specs.Rules.{IsClosedSet}
use Rattle.op_model.specs.declared.op.Move.{Move}
use Rattle.op_model.specs.declared.op.Op.{Op}
use Rattle.op_model.specs.declared.op.Op.TheVariants.{Assign, Load, Store, LoadElement, StoreElement, LoadStatic, StoreStatic, New, NewArray, Constant, Call, Return, Throw, Cast, Probe}
use Rattle.op_model.specs.Supplies.{Given, GivenAs, IsMapOf}
use Rattle.machine_bytecode.specs.Described.{DescribedMethod, Gives}
use Rattle.machine_bytecode.specs.Machine.{ThrowsNew, unwound}
use Rattle.machine_bytecode.specs.Objects.{Subject, MakesObject, MakesArrays, IsConstant, ReadsField, ReadsElement}
use Rattle.machine_bytecode.specs.Start.{arguments_of, boot_classes, IsFirst}
use Rattle.machine_bytecode.specs.States.{Value, primitive_value, null_value, reference_to, Contents, fields, elements, Object, Frame, Mode, running, throwing, ended, World, State, slot_at, with_kept, runs_on, throws_on, new_object, Dimension, arrays_from}
use Rattle.machine_laws.proofs.Described.{keeps_result, keeps_listed}
use Rattle.machine_laws.proofs.Heaps.{Keeps, keeps_same, keeps_made, keeps_arrays, keeps_field, keeps_element, keeps_static}
use Rattle.machine_nodes.specs.NodeExecutions.{AreNodeSteps, IsNodeExecution}
use Rattle.machine_nodes.specs.NodeSteps.{AtNode, Calls, GetsValue, GetsMade, Leads, NodeStep, advances, enters, gets_result, gets_exception, enters_entry, returns, resumes, ends, raises, throws, catches, unwinds, starts, wraps}
use Rattle.machine_nodes.specs.Slots.{AreMoved, AreLeft, AreSame, argument_values, argument_slots, returned_value, AreCaught}
use Rattle.points_to_rules.specs.Facts.{Fact}
use Rattle.points_to_rules.specs.Rules.{Instance, argument_site}
use Rattle.points_to_rules.specs.WholeMethods.{AreWholeMethods}
use Rattle.access_paths.specs.declared.root.Root.TheVariants.{Slot, Static, Returned, Thrown}
use Rattle.coverage.proofs.Arrays.{first_at}
use Rattle.coverage.proofs.Effects.{IsMovedSlot, as_before, as_source, as_null, as_primitive, moved_slot}
use Rattle.coverage.proofs.Executions.{step_covers, covers_all}
use Rattle.coverage.proofs.FirstStates.{first_covered}
use Rattle.coverage.proofs.Lists.{some_or_not, behind}
use Rattle.coverage.proofs.RefusedCalls.{HasNoRefusedCall}
use Rattle.coverage.proofs.Units.{IsUnit, of_slot, of_none, unit_is}
use Rattle.coverage.proofs.Values.{Grows, grows_on, covered_on, covered_by, covered_as, leads_by, leads_from}
use Rattle.coverage.proofs.Worlds.{events_later}
use Rattle.coverage.specs.Covering.{IsCoveredWorld, Covers}
use Rattle.coverage.specs.References.{IsCovered}
use Rattle.stage_facts.specs.Values.{Cell, in_root, in_field, in_element, in_kept, cell_value, field_in, element_in, of_slots, without_primitive}
use Rattle.stage_steps.specs.Said.{IsBounded}

-- ---- values

abbrev Any : Site → Type 0
Any s = Unit {0}

-- the value is no reference, or there is an object where it leads
abbrev pub IsThere : List Object → Value → Type 0
IsThere heap v = IsCovered Any heap v

loosened : (Among : Site → Type 0) (heap : List Object) (v : Value) → IsCovered Among heap v → IsThere heap v
loosened Among heap v c = covered_by Among Any heap v (λ s a. tt) c

there_on : (old new : List Object) (v : Value) → Grows old new → IsThere old v → IsThere new v
there_on old new v grows c = covered_on Any old new v grows c

there_as : (heap : List Object) (v w : Value) → w ≡ v → IsThere heap v → IsThere heap w
there_as heap v w e c = covered_as Any heap v w e c

there_at : (heap : List Object) (place : ℕ) (o : Object) → slice_get heap place ≡ Some o → IsThere heap (reference_to place)
there_at heap place o held = record { object = o; held = held; among = tt }

-- a reference leads below the heap's length
pub there_below : (heap : List Object) (v : Value) (place : ℕ) → IsThere heap v → v ≡ reference_to place → place < length heap
there_below heap v place c is = let l = leads_from Any heap v place c is in slice_get_within heap place l.object l.held

-- ---- slots

pub record AreThere (heap : List Object) (slots : List Value) : Type 0 where
  pub each : (z : ℕ) → IsThere heap (slot_at slots z)

none_there : (heap : List Object) → AreThere heap []
none_there heap = record { each = λ z. tt }

slots_on : (old new : List Object) (slots : List Value) → Grows old new → AreThere old slots → AreThere new slots
slots_on old new slots grows c = record { each = λ z. there_on old new (slot_at slots z) grows (c.each z) }

same_slots : (heap : List Object) (before after : List Value) → AreSame before after → AreThere heap before → AreThere heap after
same_slots heap before after same c = record { each = λ z. there_as heap (slot_at before z) (slot_at after z) (same z) (c.each z) }

left_slots : (heap : List Object) (operands : List ℕ) (target : Option ℕ) (v : Value) (before after : List Value) → AreLeft operands target v before after
    → IsThere heap v → AreThere heap before
    → AreThere heap after
left_slots heap operands target v before after are new c = record { each = λ z. by z (some_or_not target z) (contained_or_not operands z) }
  where
    by : (z : ℕ) → (target ≡ Some z) ⊎ (target ≡ Some z → ⊥) → Contains operands z ⊎ (Contains operands z → ⊥) → IsThere heap (slot_at after z)
    by z (inl e) among = there_as heap v (slot_at after z) (are.given z e) new
    by z (inr other) (inl there) = there_as heap primitive_value (slot_at after z) (are.cleared z there other) tt
    by z (inr other) (inr free) = there_as heap (slot_at before z) (slot_at after z) (are.kept z free other) (c.each z)

moved_slots : (heap : List Object) (moves : List Move) (before after : List Value) → AreMoved moves before after → AreThere heap before → AreThere heap after
moved_slots heap moves before after are c = record { each = λ z. by z (moved_slot moves before after z are) }
  where
    by : (z : ℕ) → IsMovedSlot moves before after z → IsThere heap (slot_at after z)
    by z (as_before keeps e) = there_as heap (slot_at before z) (slot_at after z) e (c.each z)
    by z (as_source y moved reads e) = there_as heap (slot_at before y) (slot_at after z) e (c.each y)
    by z (as_null e) = there_as heap null_value (slot_at after z) e tt
    by z (as_primitive e) = there_as heap primitive_value (slot_at after z) e tt

caught_slots : (heap : List Object) (locals : ℕ) (thrown : Value) (before after : List Value) → AreCaught locals thrown before after → IsThere heap thrown
    → AreThere heap before → AreThere heap after
caught_slots heap locals thrown before after are new c = record { each = λ z. by z (place_of z) }
  where
    place_of : (z : ℕ) → (z < locals) ⊎ ((locals ≡ z) ⊎ (locals < z))
    place_of z = elim (cases_lt z locals) [ inl lt ↦ inl lt | inr le ↦ inr (eq-or-lt_of_le le) ]

    by : (z : ℕ) → (z < locals) ⊎ ((locals ≡ z) ⊎ (locals < z)) → IsThere heap (slot_at after z)
    by z (inl lt) = there_as heap (slot_at before z) (slot_at after z) (are.kept z lt) (c.each z)
    by z (inr (inl e)) = there_as heap thrown (slot_at after z) (ap (slot_at after) (sym e) ∙ are.given) new
    by z (inr (inr gt)) = there_as heap primitive_value (slot_at after z) (are.cleared z gt) tt

-- the units of a call
units_there : (heap : List Object) (arguments : List (Option ℕ)) (slots : List Value) → AreThere heap slots → AreThere heap (argument_values arguments slots)
units_there heap arguments slots c = record { each = λ unit. by unit (unit_is arguments slots unit) }
  where
    by : (unit : ℕ) → IsUnit arguments slots unit → IsThere heap (slot_at (argument_values arguments slots) unit)
    by unit (of_slot z at e) = there_as heap (slot_at slots z) _ e (c.each z)
    by unit (of_none e) = there_as heap primitive_value _ e tt

returned_there : (heap : List Object) (value : Option ℕ) (slots : List Value) → AreThere heap slots → IsThere heap (returned_value value slots)
returned_there heap None slots c = tt
returned_there heap (Some z) slots c = c.each z

-- ---- frames

abbrev pub AreBounded : List Object → List Frame → Type 0
AreBounded heap frames = AllByRecursion (λ (f : Frame). AreThere heap f.slots) frames

frames_on : (old new : List Object) (frames : List Frame) → Grows old new → AreBounded old frames → AreBounded new frames
frames_on old new [] grows c = tt
frames_on old new (f ∷ frames) grows c = (slots_on old new f.slots grows c.0, frames_on old new frames grows c.1)

frames_as : (heap : List Object) (frames others : List Frame) → frames ≡ others → AreBounded heap frames → AreBounded heap others
frames_as heap frames others e c = subst (λ (fs : List Frame). AreBounded heap fs) e c

bounded_frame : (heap : List Object) (frames : List Frame) (f : Frame) → AreBounded heap frames → Contains frames f → AreThere heap f.slots
bounded_frame heap [] f c there = absurd (contains_none f there)
bounded_frame heap (g ∷ frames) f c there = elim (contains_cases g f frames there) [
  | inl e ↦ subst (λ (h : Frame). AreThere heap h.slots) e c.0
  | inr later ↦ bounded_frame heap frames f c.1 later
]

-- ---- worlds

grown : (before after : World) → Keeps before after → Grows before.heap after.heap
grown before after keeps = record {
  stays = λ place o held.
      let later = keeps.each place o held in
      record { object = later.later; held = later.held; site = later.site; class = later.class };
}

-- ---- what is made

object_there : (x : Subject) (site : Site) (before : World) (made : Value) (after : World) → MakesObject x site before made after → IsThere after.heap made
object_there x site before made after m =
    let o = new_object x.program site x.property.initial in
    let there : IsThere (before.heap ++ o ∷ []) (reference_to (length before.heap)) =
    there_at (before.heap ++ o ∷ []) (length before.heap) o (pushed_at before.heap o) in
    there_as after.heap (reference_to (length before.heap)) made m.made_is
    (subst (λ (w : World). IsThere w.heap (reference_to (length before.heap))) (sym m.after_is) there)

arrays_there : (x : Subject) (sites : List Site) (before : World) (made : Value) (after : World) → MakesArrays x sites before made after
    → IsThere after.heap made
arrays_there x sites before made after m =
    there_as after.heap (reference_to (length before.heap)) made m.made_is
    (subst (λ (w : World). IsThere w.heap (reference_to (length before.heap))) (sym m.after_is) (first m.dimensions m.some))
  where
    first : (ds : List Dimension) → 1 ≤ length ds
        → IsThere (before.heap ++ arrays_from x.property.initial (length before.heap) 1 ds) (reference_to (length before.heap))
    first [] some = absurd (omega arith)
    first (d ∷ deeper) some =
        let more = arrays_from x.property.initial (length before.heap) 1 (d ∷ deeper) in
        let r = first_at x.property.initial (length before.heap) 1 d deeper 0 (omega arith) in
        let here : length before.heap + 0 ≡ length before.heap = omega arith in
        there_at (before.heap ++ more) (length before.heap) r.object
        (subst (λ (i : ℕ). slice_get (before.heap ++ more) i ≡ Some r.object) here (behind before.heap more 0 r.object r.held))

-- ---- the object that is thrown

abbrev pub IsThrownThere : List Object → Mode → Type 0
IsThrownThere heap running = Unit {0}
IsThrownThere heap (throwing place) = IsThere heap (reference_to place)
IsThrownThere heap ended = Unit {0}

-- what the frames of a state refer to is there, and so is what it throws
pub record IsBoundedState (s : State) : Type 0 where
  pub frames : AreBounded s.world.heap s.frames
  pub mode : IsThrownThere s.world.heap s.mode

runs_bounded : (t : State) (frames : List Frame) (w : World) → t ≡ runs_on frames w → AreBounded w.heap frames → IsBoundedState t
runs_bounded t frames w e c = subst (λ (u : State). IsBoundedState u) (sym e) (record { frames = c; mode = tt })

throws_bounded : (t : State) (frames : List Frame) (w : World) (place : ℕ) → t ≡ throws_on frames w place → AreBounded w.heap frames
    → IsThere w.heap (reference_to place) → IsBoundedState t
throws_bounded t frames w place e c there = subst (λ (u : State). IsBoundedState u) (sym e) (record { frames = c; mode = there })

-- ---- what values are read of a covered world

module _ (x : Subject) (gives : GivenAs) (S : Fact → Type 0) where
  field_there : (w : World) (object : Value) (number : FieldNo) (v : Value) → IsCoveredWorld x gives S w → ReadsField w object number.0 v → IsThere w.heap v
  field_there w object number v c r =
      there_as w.heap (r.values number.0) v r.is
      (loosened _ w.heap (r.values number.0) ((c.objects r.to.place r.to.object r.to.held).in_fields r.values number r.holds))

  element_there : (w : World) (array v : Value) → IsCoveredWorld x gives S w → ReadsElement w array v → IsThere w.heap v
  element_there w array v c r =
      let a = r.of.array in
      loosened _ w.heap v ((c.objects a.to.place a.to.object a.to.held).in_elements a.values v a.holds r.among)

  constant_there : (w : World) (class : List ℕ) (v : Value) → IsCoveredWorld x gives S w → IsConstant class v → IsThere w.heap v
  constant_there w class v c k =
      there_as w.heap (reference_to k.place) v k.is (leads_by _ Any w.heap k.place (λ s e. tt) (c.start.constants k.place class k.stands))

  -- ---- operations that go on

  -- each object stays, and what the slots refer to is there
  record IsLed (before after : World) (left : List Value) : Type 0 where
    grows : Grows before.heap after.heap
    slots : AreThere after.heap left

  led_by : (before after : World) (left : List Value) → Keeps before after → AreThere before.heap left → IsLed before after left
  led_by before after left keeps c = let grows = grown before after keeps in record { grows = grows; slots = slots_on before.heap after.heap left grows c }

  gets_led : (operands : List ℕ) (target : ℕ) (IsRead : Value → Type 0) (before after : World) (slots left : List Value)
      → ((v : Value) → IsRead v → IsThere before.heap v)
      → GetsValue operands target IsRead before slots left after → AreThere before.heap slots → IsLed before after left
  gets_led operands target IsRead before after slots left read g c =
      led_by before after left (keeps_same before after g.same)
      (left_slots before.heap operands (Some target) g.value slots left g.are_left (read g.value g.is_read) c)

  puts_led : (operands : List ℕ) (before after : World) (slots left : List Value) → Keeps before after → AreLeft operands None primitive_value slots left
      → AreThere before.heap slots
      → IsLed before after left
  puts_led operands before after slots left keeps are c =
      led_by before after left keeps (left_slots before.heap operands None primitive_value slots left are tt c)

  made_led : (target : ℕ) (Is : World → Value → World → Type 0) (before after : World) (slots left : List Value)
      → ((v : Value) → Is before v after → Keeps before after × IsThere after.heap v)
      → GetsMade target Is before slots left after → AreThere before.heap slots → IsLed before after left
  made_led target Is before after slots left makes g c =
      let m = makes g.made g.is_made in
      let grows = grown before after m.0 in
      record { grows = grows; slots = left_slots after.heap [] (Some target) g.made slots left g.are_left m.1 (slots_on before.heap after.heap slots grows c) }

  led : (op : Op) (before after : World) (slots left : List Value) → Leads op x before slots left after → IsCoveredWorld x gives S before
      → AreThere before.heap slots → IsLed before after left
  led (Assign moves) before after slots left l w c = led_by before after left (keeps_same before after l.1) (moved_slots before.heap moves slots left l.0 c)
  led (Load object field target) before after slots left l w c =
      gets_led (object ∷ []) target _ before after slots left (λ v r. field_there before (slot_at slots object) field v w r) l c
  led (Store object field value) before after slots left l w c =
      puts_led (object ∷ value ∷ []) before after slots left (keeps_field before _ _ _ after l.0) l.1 c
  led (LoadElement array target) before after slots left l w c =
      gets_led (array ∷ []) target _ before after slots left (λ v r. element_there before (slot_at slots array) v w r) l c
  led (StoreElement array value) before after slots left l w c =
      puts_led (array ∷ value ∷ []) before after slots left (keeps_element _ before _ _ after l.0) l.1 c
  led (LoadStatic field target) before after slots left l w c =
      gets_led [] target _ before after slots left
      (λ v e. there_as before.heap (before.statics field.0) v e (loosened _ before.heap (before.statics field.0) (w.statics field))) l c
  led (StoreStatic field value) before after slots left l w c =
      puts_led (value ∷ []) before after slots left (subst (λ (u : World). Keeps before u) (sym l.0) (keeps_static before _ _)) l.1 c
  led (New site target) before after slots left l w c =
      made_led target _ before after slots left (λ v m. (keeps_made x site before v after m, object_there x site before v after m)) l c
  led (NewArray sites target) before after slots left l w c =
      made_led target _ before after slots left (λ v m. (keeps_arrays x sites before v after m, arrays_there x sites before v after m)) l c
  led (Constant site target) before after slots left l w c = gets_led [] target _ before after slots left (λ v k. constant_there before site.class v w k) l c
  led (Call call) before after slots left l w c = absurd l
  led (Return value) before after slots left l w c = absurd l
  led (Throw value) before after slots left l w c = absurd l
  led (Cast class slot) before after slots left l w c = led_by before after left (keeps_same before after l.2) (same_slots before.heap slots left l.1 c)
  led (Probe slot) before after slots left l w c = puts_led (slot ∷ []) before after slots left (keeps_same before after l.0.1) l.1 c

  -- ---- the argument of the entry

  entry_there : (w : World) (m : Method) → slice_get x.program.methods x.entry ≡ Some m → IsCoveredWorld x gives S w → (unit : ℕ) → (b : Bool)
      → bytes_eq m.signature.descriptor plain_descriptor ≡ b
      → IsThere w.heap (slot_at (cond b [] (reference_to (length (boot_classes x.program)) ∷ [])) unit)
  entry_there w m stands c unit true e = tt
  entry_there w m stands c zero false e =
      leads_by (λ s. s ≡ argument_site) Any w.heap (length (boot_classes x.program)) (λ s is. tt)
      (c.start.arguments m stands (λ is. false≢true (sym e ∙ (bytes_eq-Decides m.signature.descriptor plain_descriptor).1 is)))
  entry_there w m stands c (suc unit) false e = tt

  -- ---- cells

  without_there : (heap : List Object) (v : Value) → IsThere heap v → IsThere heap (without_primitive v)
  without_there heap primitive_value c = tt
  without_there heap null_value c = tt
  without_there heap (reference_to place) c = c

  index_there : (heap : List Object) (values : List Value) (index : ℕ) → ((v : Value) → Contains values v → IsThere heap v)
      → IsThere heap (slice_index_or values index null_value)
  index_there heap [] index each = tt
  index_there heap (v ∷ values) zero each = each v (contains_first v values)
  index_there heap (v ∷ values) (suc index) each = index_there heap values index (λ u there. each u (contains_later v u values there))

  -- what a field or an element of contents holds
  field_part : (w : World) (place : ℕ) (f : FieldNo) → IsCoveredWorld x gives S w → (o : Option Object) → slice_get w.heap place ≡ o
      → IsThere w.heap (option_map_or (λ (p : Object). field_in f p.contents) o null_value)
  field_part w place f c None held = tt
  field_part w place f c (Some o) held = by o.contents refl
    where
      by : (contents : Contents) → o.contents ≡ contents → IsThere w.heap (field_in f contents)
      by (fields values) e = without_there w.heap (values f.0) (loosened _ w.heap (values f.0) ((c.objects place o held).in_fields values f e))
      by (elements values) e = tt

  element_part : (w : World) (place index : ℕ) → IsCoveredWorld x gives S w → (o : Option Object) → slice_get w.heap place ≡ o
      → IsThere w.heap (option_map_or (λ (p : Object). element_in index p.contents) o null_value)
  element_part w place index c None held = tt
  element_part w place index c (Some o) held = by o.contents refl
    where
      by : (contents : Contents) → o.contents ≡ contents → IsThere w.heap (element_in index contents)
      by (fields values) e = tt
      by (elements values) e =
          without_there w.heap (slice_index_or values index null_value)
          (index_there w.heap values index (λ v there. loosened _ w.heap v ((c.objects place o held).in_elements values v e there)))

  kept_part : (w : World) → IsCoveredWorld x gives S w → (number : ℕ) (o : Option ℕ) → slice_get w.kept number ≡ o
      → IsThere w.heap (option_map_or reference_to o null_value)
  kept_part w c number None e = tt
  kept_part w c number (Some place) e = leads_by _ Any w.heap place (λ s a. tt) (c.kept place (contains_at w.kept number place e))

  cell_bounded : (w : World) (slots : List Value) → IsCoveredWorld x gives S w → ((z place : ℕ) → slot_at slots z ≡ reference_to place → place < length w.heap)
      → (c : Cell) (place : ℕ)
      → cell_value w (of_slots slots) c ≡ reference_to place → place < length w.heap
  cell_bounded w slots c own (in_root (Slot z)) place e = own z place e
  cell_bounded w slots c own (in_root (Static f)) place e = there_below w.heap (w.statics f.0) place (loosened _ w.heap (w.statics f.0) (c.statics f)) e
  cell_bounded w slots c own (in_root Returned) place e = there_below w.heap primitive_value place tt e
  cell_bounded w slots c own (in_root Thrown) place e = there_below w.heap primitive_value place tt e
  cell_bounded w slots c own (in_field at f) place e = there_below w.heap _ place (field_part w at f c (slice_get w.heap at) refl) e
  cell_bounded w slots c own (in_element at index) place e = there_below w.heap _ place (element_part w at index c (slice_get w.heap at) refl) e
  cell_bounded w slots c own (in_kept number) place e = there_below w.heap _ place (kept_part w c number (slice_get w.kept number) refl) e

  -- in a covered state, whatever stands in a cell refers to an object that is there, if the slots do
  pub bounded_of : (s : State) (slots : List Value) → Covers x gives S s → ((z place : ℕ) → slot_at slots z ≡ reference_to place → place < length s.world.heap)
      → IsBounded s.world slots
  bounded_of s slots c own = record { each = λ cell place e. cell_bounded s.world slots c.world own cell place e }

-- ---- what a described method gives

given_there : (x : Subject) (number : ℕ) (d : DescribedMethod x number) (caller : Frame) (units : List Value) (r : StubResult)
    (before : World) (v : Value) (after : World)
    → Gives x number d caller units r before v after → AreThere after.heap units → IsThere after.heap v
given_there x number d caller units results.Primitive before v after g c = there_as after.heap primitive_value v g.0 tt
given_there x number d caller units results.Void before v after g c = there_as after.heap primitive_value v g.0 tt
given_there x number d caller units results.Null before v after g c = there_as after.heap null_value v g.0 tt
given_there x number d caller units (results.Given argument) before v after g c = there_as after.heap _ v g.0 (c.each _)
given_there x number d caller units (results.New class) before v after g c = object_there x _ before v after g
given_there x number d caller units results.Kept before v after g c =
    let to = g.0.object.to in
    subst (λ (w : World). IsThere w.heap v) (sym g.1) (there_as before.heap (reference_to to.place) v to.is (there_at before.heap to.place to.object to.held))

-- ---- steps

throws_new : (x : Subject) (w : World) (f : Frame) (below : List Frame) (class : List ℕ) (t : State) → ThrowsNew x w f below class t
    → AreBounded w.heap (f ∷ below) → IsBoundedState t
throws_new x w f below class t h c =
    throws_bounded t (f ∷ below) h.world h.thrown h.after (frames_on w.heap h.world.heap (f ∷ below) (grown w h.world (keeps_made x _ w _ h.world h.makes)) c)
    (object_there x _ w (reference_to h.thrown) h.world h.makes)

-- the frame goes
unwound_bounded : (below : List Frame) (w : World) (place : ℕ) → AreBounded w.heap below → IsThere w.heap (reference_to place)
    → IsBoundedState (unwound below w place)
unwound_bounded [] w place c there = record { frames = tt; mode = tt }
unwound_bounded (f ∷ below) w place c there = record { frames = c; mode = there }

module _ (x : Subject) (given : Given) (gives : GivenAs) (S : Fact → Type 0) where
  -- after the events of a call
  after_events : (s : State) (at : AtNode x given s) (calls : Calls x given s at) → Covers x gives S s → Grows s.world.heap calls.world.heap
  after_events s at calls c = (events_later x gives S _ _ _ s.world calls.world calls.events c.world).grows

  pub step_bounded : (s t : State) → NodeStep x given s t → Covers x gives S s → IsBoundedState s → IsBoundedState t
  step_bounded s t (advances at h) c b =
      let old = frames_as s.world.heap s.frames (at.frame ∷ at.below) at.frames b.frames in
      let l = led x gives S at.now.node.op s.world h.world at.frame.slots h.left h.leads c.world old.0 in
      runs_bounded t _ h.world h.after (l.slots, frames_on s.world.heap h.world.heap at.below l.grows old.1)
  step_bounded s t (enters at h) c b =
      let heap = h.calls.world.heap in
      let arguments = h.calls.call.arguments in
      let now = frames_on s.world.heap heap (at.frame ∷ at.below) (after_events s at h.calls c)
      (frames_as s.world.heap s.frames (at.frame ∷ at.below) at.frames b.frames) in
      runs_bounded t _ h.calls.world h.enters.after (
        same_slots heap (argument_values arguments at.frame.slots) h.enters.slots h.enters.arguments (units_there heap arguments at.frame.slots now.0),
        (left_slots heap (argument_slots arguments) None primitive_value at.frame.slots h.left h.are_left tt now.0, now.1),
      )
  step_bounded s t (gets_result at h) c b =
      let heap = h.world.heap in
      let call = h.calls.call in
      let later = grown h.calls.world h.world (keeps_result x _ _ _ h.calls.world h.value h.world h.gives) in
      let grows = grows_on s.world.heap h.calls.world.heap heap (after_events s at h.calls c) later in
      let now = frames_on s.world.heap heap (at.frame ∷ at.below) grows (frames_as s.world.heap s.frames (at.frame ∷ at.below) at.frames b.frames) in
      let value = given_there x h.calls.target h.gives.called at.frame
      (argument_values call.arguments at.frame.slots) h.gives.result _ h.value h.world h.gives.gives
      (units_there heap call.arguments at.frame.slots now.0) in
      runs_bounded t _ h.world h.after (left_slots heap (argument_slots call.arguments) call.result h.value at.frame.slots h.left h.are_left value now.0, now.1)
  step_bounded s t (gets_exception at h) c b =
      let later = grown h.calls.world h.world (keeps_listed x _ _ _ h.calls.world h.thrown h.world h.throws) in
      let grows = grows_on s.world.heap h.calls.world.heap h.world.heap (after_events s at h.calls c) later in
      let now = frames_on s.world.heap h.world.heap (at.frame ∷ at.below) grows (frames_as s.world.heap s.frames (at.frame ∷ at.below) at.frames b.frames) in
      throws_bounded t _ h.world h.thrown h.after now (object_there x _ _ (reference_to h.thrown) h.world h.throws.makes)
  step_bounded s t (enters_entry at h) c b =
      let heap = s.world.heap in
      let old = frames_as heap s.frames (at.frame ∷ at.below) at.frames b.frames in
      let arguments : AreThere heap (arguments_of x.program h.entry) =
      record { each = λ unit. entry_there x gives S s.world h.entry h.stands c.world unit (bytes_eq h.entry.signature.descriptor plain_descriptor) refl } in
      runs_bounded t _ s.world h.enters.after (
        same_slots heap (arguments_of x.program h.entry) h.enters.slots h.enters.arguments arguments,
        (same_slots heap at.frame.slots h.left h.are_left old.0, old.1),
      )
  step_bounded s t (returns at h) c b =
      let heap = s.world.heap in
      let old = frames_as heap s.frames (at.frame ∷ at.below) at.frames b.frames in
      let below = frames_as heap at.below (h.caller ∷ h.rest) h.below old.1 in
      let value = returned_there heap h.value at.frame.slots old.0 in
      runs_bounded t _ s.world h.after
      (left_slots heap [] h.call.result (returned_value h.value at.frame.slots) h.caller.slots h.left h.are_left value below.0, below.1)
  step_bounded s t (resumes at h) c b =
      let old = frames_as s.world.heap s.frames (at.frame ∷ at.below) at.frames b.frames in
      runs_bounded t _ s.world h.after (frames_as s.world.heap at.below (h.caller ∷ h.rest) h.below old.1)
  step_bounded s t (ends at h) c b = subst (λ (u : State). IsBoundedState u) (sym h.after) (record { frames = tt; mode = tt })
  step_bounded s t (raises at h) c b =
      throws_new x s.world at.frame at.below h.class t h.throws (frames_as s.world.heap s.frames (at.frame ∷ at.below) at.frames b.frames)
  step_bounded s t (throws at h) c b =
      let to = h.thrown.to in
      throws_bounded t _ s.world to.place h.after (frames_as s.world.heap s.frames (at.frame ∷ at.below) at.frames b.frames)
      (there_at s.world.heap to.place to.object to.held)
  step_bounded s t (catches at h) c b =
      let heap = s.world.heap in
      let old = frames_as heap s.frames (at.frame ∷ at.below) at.frames b.frames in
      runs_bounded t _ s.world h.after
      (caught_slots heap h.now.locals (reference_to at.place) at.frame.slots h.left h.are_caught (there_at heap at.place at.object at.held) old.0, old.1)
  step_bounded s t (unwinds at h) c b =
      let old = frames_as s.world.heap s.frames (at.frame ∷ at.below) at.frames b.frames in
      subst (λ (u : State). IsBoundedState u) (sym h.after) (unwound_bounded at.below s.world at.place old.1 (there_at s.world.heap at.place at.object at.held))
  step_bounded s t (starts at h) c b =
      let heap = s.world.heap in
      runs_bounded t _ _ h.after (same_slots heap [] h.slots h.empty (none_there heap), frames_as heap s.frames (at.frame ∷ at.below) at.frames b.frames)
  step_bounded s t (wraps at h) c b =
      let old = frames_as s.world.heap s.frames (at.frame ∷ at.below) at.frames b.frames in
      throws_new x (with_kept s.world (at.place ∷ [])) h.caller h.rest _ t h.throws (frames_as s.world.heap at.below (h.caller ∷ h.rest) h.below old.1)

-- ---- executions

pub first_bounded : (x : Subject) (s : State) → IsFirst x s → IsBoundedState s
first_bounded x s h = subst (λ (u : State). IsBoundedState u) (sym h.is) (record { frames = (none_there _, tt); mode = tt })

module _ (x : Subject) (given : Given) (gives : GivenAs) (S : Fact → Type 0) (map : IsMapOf given gives)
    (closed : IsClosedSet (Instance x.program gives (record { 0 = x.entry })) S)
    (whole : AreWholeMethods x.program gives) (unrefused : HasNoRefusedCall x.program gives S) where
  steps_bounded : (s : State) (states : List State) → AreNodeSteps x given s states → Covers x gives S s → IsBoundedState s → (t : State)
      → Contains (s ∷ states) t → IsBoundedState t
  steps_bounded s [] steps c b t there =
      elim (contains_cases s t [] there) [ inl e ↦ subst (λ (u : State). IsBoundedState u) e b | inr later ↦ absurd (contains_none t later) ]
  steps_bounded s (u ∷ states) steps c b t there = elim (contains_cases s t (u ∷ states) there) [
    | inl e ↦ subst (λ (r : State). IsBoundedState r) e b
    | inr later ↦ (
        let covers = step_covers x given gives S map closed whole unrefused s u steps.0 c in
        steps_bounded u states steps.1 covers (step_bounded x given gives S s u steps.0 c b) t later)
  ]

  pub states_bounded : (states : List State) → IsNodeExecution x given states → (state : State) → Contains states state → IsBoundedState state
  states_bounded states run state there =
      steps_bounded run.first run.others run.steps (first_covered x gives S closed run.first run.is_first) (first_bounded x run.first run.is_first) state
      (subst (λ (ss : List State). Contains ss state) run.begins there)

  -- whatever a slot of a frame refers to is there
  pub frames_bounded : (states : List State) → IsNodeExecution x given states → (state : State) → Contains states state → (f : Frame) → Contains state.frames f
      → (z place : ℕ)
      → slot_at f.slots z ≡ reference_to place → place < length state.world.heap
  frames_bounded states run state there f among z place e =
      there_below state.world.heap (slot_at f.slots z) place
      ((bounded_frame state.world.heap state.frames f (states_bounded states run state there).frames among).each z) e

  -- and so is what is thrown
  pub thrown_bounded : (states : List State) → IsNodeExecution x given states → (state : State) → Contains states state → (place : ℕ)
      → state.mode ≡ throwing place → place < length state.world.heap
  thrown_bounded states run state there place e =
      there_below state.world.heap (reference_to place) place
      (subst (λ (m : Mode). IsThrownThere state.world.heap m) e (states_bounded states run state there).mode) refl

  -- in a frame of any state, whatever stands in a cell refers to an object that is there
  pub cells_bounded : (states : List State) → IsNodeExecution x given states → (state : State) → Contains states state → (f : Frame) → Contains state.frames f
      → IsBounded state.world f.slots
  cells_bounded states run state there f among =
      bounded_of x gives S state f.slots (covers_all x given gives S map closed whole unrefused states run state there)
      (λ z place e. frames_bounded states run state there f among z place e)
