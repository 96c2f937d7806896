-- Where an object is thrown: into a handler, or out of the method.
use Rattle.std.proofs.Common.{◌≡◌, ◌≢◌, ◌⊎◌, inl, inr, ℕ, ◌<◌, ◌≤◌, List, [], ◌∷◌, ◌++◌, length, Option, Some, None, Contains, refl, sym, ◌∙◌, ap, subst, arith}
use Rattle.std.specs.Prelude.{slice_get}
use Rattle.std.proofs.lemmas.Bool.{cases_lt}
use Rattle.std.proofs.lemmas.Option.{same_Some, none-some, slice_get_within}
use Rattle.list_laws.proofs.Members.{contains_only}
use Rattle.list_laws.proofs.Places.{in_longer, push_cases, pushed_at}
use Rattle.jvm_model.specs.declared.number.FieldNo.{FieldNo}
use Rattle.jvm_model.specs.declared.site.Site.{Site}
use Rattle.jvm_model.specs.Programs.{Program}
use Rattle.op_model.specs.declared.lowered.LoweredMethod.{LoweredMethod}
use Rattle.op_model.specs.declared.node.Node.{Node}
use Rattle.op_model.specs.declared.op.Op.{Op}
use Rattle.op_model.specs.declared.op.Op.TheVariants.{Throw}
use Rattle.machine_bytecode.specs.Objects.{Subject}
use Rattle.machine_bytecode.specs.States.{Value, primitive_value, null_value, reference_to, fields, Object, World, default_fields, slot_at, with_object}
use Rattle.machine_nodes.specs.Slots.{AreCaught}
use Rattle.points_to_rules.specs.Facts.{Fact}
use Rattle.access_paths.specs.declared.root.Root.{Root}
use Rattle.access_paths.specs.declared.root.Root.TheVariants.{Slot, Static, Returned, Thrown}
use Rattle.stage_facts.specs.Facts.{Tuple, SiteFact, none_yet, some_yet, of_object, Describes, Says}
use Rattle.stage_facts.specs.Values.{View, element_in, field_in, followed, of_exception, of_slots, of_throw, part_at, root_value}
use Rattle.stage_transfer.specs.Exceptions.{thrown_slot}
use Rattle.stage_transfer.specs.Stages.{Transfer}
use Rattle.stage_relations.specs.Roots.{Doubles, HasVariables, Raised}
use Rattle.stage_relations.specs.Relations.{NoPath, Reroots}
use Rattle.stage_relations.specs.Laws.{IsIdle, IsStage}
use Rattle.stage_steps.specs.Said.{AgreeOnPlaces, AreEqual, IsTracked, Results, SaysCaught}
use Rattle.stage_steps.proofs.Paths.{default_field, follow_null, part_is, same_place}
use Rattle.stage_steps.proofs.Calm.{Calm, calm_here, calm_push, From, idle_says, NoneNew}
use Rattle.stage_steps.proofs.Born.{longer}
use Rattle.stage_steps.proofs.Rerooting.{Went, with_value, with_new, rerooted_describes}

-- ---- where a thrown object is

-- A frame with its slots, and what was thrown into it.
abbrev pub with_thrown : List Value → Value → View
with_thrown slots was = record { slots = slots; returned = primitive_value; thrown = was }

-- What a node throws: the value of a slot, or what was thrown into the frame.
abbrev pub thrown_value : Option ℕ → List Value → Value → Value
thrown_value None slots was = was
thrown_value (Some z) slots was = slot_at slots z

-- The thrown object was there; or no object was, and no path leads from the one that is thrown to the object that is described.
pub data IsThrownFrom (o : ℕ) (x : World) (value : Option ℕ) (slots : List Value) (was : Value) (thrown : ℕ) : Type 0 where
  from_frame : thrown_value value slots was ≡ reference_to thrown → IsThrownFrom o x value slots was thrown
  made_new : ((place : ℕ) → thrown_value value slots was ≢ reference_to place) → ((fields : List FieldNo) → followed x.heap (reference_to thrown) fields ≢ reference_to o)
      → IsThrownFrom o x value slots was thrown

-- A slot may have an object in a handler, if it is a local variable or that of the thrown object.
pub record IsInHandler (handler : Option ℕ) (locals z : ℕ) : Type 0 where
  pub offset : ℕ
  pub is : handler ≡ Some offset
  pub low : z ≤ locals

-- What is seen where the thrown object goes.
pub record SeesThrown (handler : Option ℕ) (locals thrown : ℕ) (slots : List Value) (new : View) : Type 0 where
  pub kept : (offset z : ℕ) → handler ≡ Some offset → z < locals → slot_at new.slots z ≡ slot_at slots z
  pub given : (offset : ℕ) → handler ≡ Some offset → slot_at new.slots locals ≡ reference_to thrown
  pub uncaught : handler ≡ None → new.thrown ≡ reference_to thrown
  pub no_result : new.returned ≡ primitive_value
  pub in_slot : (z place : ℕ) → slot_at new.slots z ≡ reference_to place → IsInHandler handler locals z
  pub in_flight : (place : ℕ) → new.thrown ≡ reference_to place → handler ≡ None

lands_out : (locals thrown : ℕ) (slots : List Value) → SeesThrown None locals thrown slots (of_throw thrown)
lands_out locals thrown slots = record {
  kept = λ offset z e lt. absurd (none-some offset e);
  given = λ offset e. absurd (none-some offset e);
  uncaught = λ e. refl;
  no_result = refl;
  in_slot = λ z place e. absurd (cc e);
  in_flight = λ place e. refl;
}

lands_in : (offset locals thrown : ℕ) (slots left : List Value) → AreCaught locals (reference_to thrown) slots left → SeesThrown (Some offset) locals thrown slots (of_slots left)
lands_in offset locals thrown slots left caught = record {
  kept = λ other z e lt. caught.kept z lt;
  given = λ other e. caught.given;
  uncaught = λ e. absurd (none-some offset (sym e));
  no_result = refl;
  in_slot = λ z place e. record { offset = offset; is = refl; low = low z place e (cases_lt locals z) };
  in_flight = λ place e. absurd (cc e);
}
  where
    low : (z place : ℕ) → slot_at left z ≡ reference_to place → (locals < z) ⊎ (z ≤ locals) → z ≤ locals
    low z place e (inl lt) = absurd (let bad : primitive_value ≡ reference_to place = sym (caught.cleared z lt) ∙ e in cc bad)
    low z place e (inr le) = le

-- ---- tuples

module _ (o : ℕ) (w x : World) (value handler : Option ℕ) (locals thrown : ℕ) (slots : List Value) (was : Value) (new : View) (statics : (f : FieldNo) → x.statics f.0 ≡ w.statics f.0)
    (source : IsThrownFrom o x value slots was thrown) (lands : SeesThrown handler locals thrown slots new) where
  -- a root that gets the thrown object
  thrown_went : (r q : Root) → root_value x new q ≡ reference_to thrown → root_value w (with_thrown slots was) r ≡ thrown_value value slots was → Went o w x (with_thrown slots was) new r q
  thrown_went r q gets had = by source
    where
      by : IsThrownFrom o x value slots was thrown → Went o w x (with_thrown slots was) new r q
      by (from_frame is) = with_value (gets ∙ sym is ∙ sym had)
      by (made_new none lost) = with_new (λ place is. none place (sym had ∙ is)) (λ fs is. lost fs (sym (ap (λ (v : Value). followed x.heap v fs) gets) ∙ is))

  raised_went : {r q : Root} → Raised value handler locals r q → Went o w x (with_thrown slots was) new r q
  raised_went (Raised.local {z = z} {offset = offset} e lt) = with_value (lands.kept offset z e lt)
  raised_went (Raised.caught_value {z = z} {offset = offset} e is) =
      thrown_went (Slot z) (Slot locals) (lands.given offset e) (sym (ap (λ (v : Option ℕ). thrown_value v slots was) is))
  raised_went (Raised.caught {offset = offset} e is) = thrown_went Thrown (Slot locals) (lands.given offset e) (sym (ap (λ (v : Option ℕ). thrown_value v slots was) is))
  raised_went (Raised.thrown_value {z = z} e is) = thrown_went (Slot z) Thrown (lands.uncaught e) (sym (ap (λ (v : Option ℕ). thrown_value v slots was) is))
  raised_went (Raised.thrown e is) = thrown_went Thrown Thrown (lands.uncaught e) (sym (ap (λ (v : Option ℕ). thrown_value v slots was) is))
  raised_went (Raised.static {f = f}) = with_value (statics f)
  raised_went Raised.returned = with_value lands.no_result

  -- where the object is the thrown one, it came from the frame
  thrown_from : (q : Root) → ((z : ℕ) → value ≡ Some z → Raised value handler locals (Slot z) q) → (value ≡ None → Raised value handler locals Thrown q) → thrown ≡ o
      → From (Raised value handler locals) w (with_thrown slots was) o q
  thrown_from q slot flight same = by source
    where
      at : (v : Option ℕ) → value ≡ v → thrown_value value slots was ≡ reference_to thrown → From (Raised value handler locals) w (with_thrown slots was) o q
      at None e is = record { root = Thrown; goes = flight e; is = sym (ap (λ (v : Option ℕ). thrown_value v slots was) e) ∙ is ∙ ap reference_to same }
      at (Some z) e is = record { root = Slot z; goes = slot z e; is = sym (ap (λ (v : Option ℕ). thrown_value v slots was) e) ∙ is ∙ ap reference_to same }

      by : IsThrownFrom o x value slots was thrown → From (Raised value handler locals) w (with_thrown slots was) o q
      by (from_frame is) = at value refl is
      by (made_new none lost) = absurd (lost [] (ap reference_to same))

  raised_from : (q : Root) → root_value x new q ≡ reference_to o → From (Raised value handler locals) w (with_thrown slots was) o q
  raised_from (Static f) is = record { root = Static f; goes = Raised.static; is = sym (statics f) ∙ is }
  raised_from Returned is = absurd (let bad : primitive_value ≡ reference_to o = sym lands.no_result ∙ is in cc bad)
  raised_from Thrown is =
      let e = lands.in_flight o is in
      thrown_from Thrown (λ z has. Raised.thrown_value e has) (λ has. Raised.thrown e has) (same_place thrown o (sym (lands.uncaught e) ∙ is))
  raised_from (Slot z) is = by (cases_lt z locals) (lands.in_slot z o is)
    where
      by : (z < locals) ⊎ (locals ≤ z) → IsInHandler handler locals z → From (Raised value handler locals) w (with_thrown slots was) o (Slot z)
      by (inl lt) k = record { root = Slot z; goes = Raised.local k.is lt; is = sym (lands.kept k.offset z k.is lt) ∙ is }
      by (inr le) k =
          let low = k.low in
          let same : locals ≡ z = omega (arith, le, low) in
          let is_here : slot_at new.slots locals ≡ reference_to o = ap (slot_at new.slots) same ∙ is in
          subst (λ (y : ℕ). From (Raised value handler locals) w (with_thrown slots was) o (Slot y)) same
          (thrown_from (Slot locals) (λ y has. Raised.caught_value k.is has) (λ has. Raised.caught k.is has) (same_place thrown o (sym (lands.given k.offset k.is) ∙ is_here)))

-- A tuple where a thrown object goes, after a step in which no instance field changes.
pub caught_describes : (s : Site) (o : ℕ) (l : LoweredMethod) (n : Node) (w x : World) (value handler : Option ℕ) (thrown : ℕ) (slots : List Value) (was : Value) (u v : Tuple)
    → Calm s o w x v → ((object : Object) → slice_get w.heap o ≡ Some object → slice_get x.heap o ≡ Some object) → ((f : FieldNo) → x.statics f.0 ≡ w.statics f.0)
    → AgreeOnPlaces l n slots → IsThrownFrom o x value slots was thrown
    → Reroots (Raised value handler l.slots) (Doubles l n (Raised value handler l.slots)) NoPath u v → Describes s u o w (with_thrown slots was)
    → SaysCaught s (of_object v) o x slots l.slots thrown handler
caught_describes s o l n w x value None thrown slots was u v calm stays statics agree source rel d =
    let lands = lands_out l.slots thrown slots in
    rerooted_describes s o w x (with_thrown slots was) (of_throw thrown) u v calm d l n (Raised value None l.slots) stays agree
    (λ r q goes. raised_went o w x value None l.slots thrown slots was (of_throw thrown) statics source lands goes)
    (raised_from o w x value None l.slots thrown slots was (of_throw thrown) statics source lands) rel
caught_describes s o l n w x value (Some offset) thrown slots was u v calm stays statics agree source rel d = λ left caught.
    let lands = lands_in offset l.slots thrown slots left caught in
    rerooted_describes s o w x (with_thrown slots was) (of_slots left) u v calm d l n (Raised value (Some offset) l.slots) stays agree
    (λ r q goes. raised_went o w x value (Some offset) l.slots thrown slots was (of_slots left) statics source lands goes)
    (raised_from o w x value (Some offset) l.slots thrown slots was (of_slots left) statics source lands) rel

-- a fact that says so in each view
pub caught_idle : (s : Site) (f : SiteFact) (o : ℕ) (x : World) (slots : List Value) (locals thrown : ℕ) (handler : Option ℕ) → ((view : View) → Says s f o x view)
    → SaysCaught s f o x slots locals thrown handler
caught_idle s f o x slots locals thrown None says = says (of_throw thrown)
caught_idle s f o x slots locals thrown (Some offset) says = λ left caught. says (of_slots left)

-- ---- new objects that are thrown

-- no path leads from a new object to another one
pub thrown_new : (o : ℕ) (p : Program) (w : World) (made : Object) (value : Option ℕ) (slots : List Value) (was : Value) → made.contents ≡ fields (default_fields p) → o < length w.heap
    → ((place : ℕ) → thrown_value value slots was ≢ reference_to place) → IsThrownFrom o (with_object w made) value slots was (length w.heap)
thrown_new o p w made value slots was contents there none = made_new none lost
  where
    part : (f : FieldNo) → part_at (field_in f) (w.heap ++ made ∷ []) (length w.heap) ≡ null_value
    part f = part_is (field_in f) (w.heap ++ made ∷ []) (length w.heap) made (pushed_at w.heap made) ∙ ap (field_in f) contents ∙ default_field p f

    lost : (fs : List FieldNo) → followed (w.heap ++ made ∷ []) (reference_to (length w.heap)) fs ≢ reference_to o
    lost [] e = let same = same_place (length w.heap) o e in omega (arith, there, same)
    lost (f ∷ fs) e = let bad : null_value ≡ reference_to o = sym (ap (λ (v : Value). followed (w.heap ++ made ∷ []) v fs) (part f) ∙ follow_null (w.heap ++ made ∷ []) fs) ∙ e in cc bad

push_none : (s : Site) (w : World) (made : Object) → made.site ≢ s → NoneNew s w.heap (w.heap ++ made ∷ [])
push_none s w made apart = record {
  was = λ place object stands of_site. elim (push_cases w.heap made place object stands) [
    | inl before ↦ record { object = object; stands = before; of_site = of_site }
    | inr late ↦ absurd (apart (sym (ap (λ (y : Object). y.site) late.1) ∙ of_site))
  ];
}

-- an operation that throws what a slot holds is a throw
throws_slot : (op : Op) (z : ℕ) → thrown_slot op ≡ Some z → op ≡ Throw z
throws_slot (Throw value) z e = ap Throw (same_Some _ _ e)
throws_slot _ z e = absurd (none-some z e)

pub equal_agree : (l : LoweredMethod) (n : Node) (slots : List Value) → AreEqual l n slots → AgreeOnPlaces l n slots
equal_agree l n slots equal y z p q alike first second = same_place p q (sym first ∙ equal y z alike ∙ second)

-- ---- facts

module _ (x : Subject) (S : Fact → Type 0) (s : Site) (t : Transfer) (laws : IsStage x S s t) (o : ℕ) where
  -- one of the results says so, where one of them describes the object in a world after
  raise_results : (l : LoweredMethod) (n : Node) (handler : Option ℕ) (thrown : ℕ) (w after : World) (slots : List Value) (was : Value) → HasVariables l n → ((v : Tuple) → Calm s o w after v)
      → ((object : Object) → slice_get w.heap o ≡ Some object → slice_get after.heap o ≡ Some object) → ((f : FieldNo) → after.statics f.0 ≡ w.statics f.0) → AgreeOnPlaces l n slots
      → ((object : Object) → slice_get w.heap o ≡ Some object → IsThrownFrom o after (thrown_slot n.op) slots was thrown)
      → ((f : SiteFact) → IsIdle f → Says s f o w (with_thrown slots was) → (view : View) → Says s f o after view) → (f : SiteFact) → Says s f o w (with_thrown slots was)
      → Results (t.raise l n handler f) (λ g. SaysCaught s g o after slots l.slots thrown handler)
  raise_results l n handler thrown w after slots was variables calm stays statics agree source idle none_yet says =
      record { fact = none_yet; listed = laws.raise_idle l n handler none_yet tt; says = caught_idle s none_yet o after slots l.slots thrown handler (idle none_yet tt says) }
  raise_results l n handler thrown w after slots was variables calm stays statics agree source idle some_yet says =
      record { fact = some_yet; listed = laws.raise_idle l n handler some_yet tt; says = caught_idle s some_yet o after slots l.slots thrown handler (idle some_yet tt says) }
  raise_results l n handler thrown w after slots was variables calm stays statics agree source idle (of_object u) d =
      let k = laws.raise l n handler u variables in
      record {
        fact = of_object k.tuple;
        listed = k.listed;
        says = caught_describes s o l n w after (thrown_slot n.op) handler thrown slots was u k.tuple (calm k.tuple) stays statics agree (source d.object d.stands) k.related d;
      }

  -- in a world that stays
  raise_here : (l : LoweredMethod) (n : Node) (handler : Option ℕ) (thrown : ℕ) (f : SiteFact) (w : World) (slots : List Value) (was : Value) → HasVariables l n → AgreeOnPlaces l n slots
      → thrown_value (thrown_slot n.op) slots was ≡ reference_to thrown → Says s f o w (with_thrown slots was)
      → Results (t.raise l n handler f) (λ g. SaysCaught s g o w slots l.slots thrown handler)
  raise_here l n handler thrown f w slots was variables agree is says =
      raise_results l n handler thrown w w slots was variables (calm_here s o w) (λ object stands. stands) (λ g. refl) agree (λ object stands. from_frame is) idle f says
    where
      idle : (g : SiteFact) → IsIdle g → Says s g o w (with_thrown slots was) → (view : View) → Says s g o w view
      idle none_yet is_idle here view = here
      idle some_yet is_idle here view = here
      idle (of_object u) is_idle here view = absurd is_idle

  -- a throw of an object
  pub throw_says : (l : LoweredMethod) (n : Node) (z : ℕ) (handler : Option ℕ) (thrown : ℕ) (f : SiteFact) (w : World) (slots : List Value) → HasVariables l n → AreEqual l n slots
      → n.op ≡ Throw z → slot_at slots z ≡ reference_to thrown → Says s f o w (of_slots slots)
      → Results (t.raise l n handler f) (λ g. SaysCaught s g o w slots l.slots thrown handler)
  throw_says l n z handler thrown f w slots variables equal op_is is says =
      raise_here l n handler thrown f w slots primitive_value variables (equal_agree l n slots equal)
      (ap (λ (op : Op). thrown_value (thrown_slot op) slots primitive_value) op_is ∙ is) says

  -- an object that was thrown into the frame
  pub raised_says : (l : LoweredMethod) (n : Node) (handler : Option ℕ) (thrown : ℕ) (f : SiteFact) (w : World) (slots : List Value) → HasVariables l n → AgreeOnPlaces l n slots
      → thrown_slot n.op ≡ None → Says s f o w (of_exception slots thrown) → Results (t.raise l n handler f) (λ g. SaysCaught s g o w slots l.slots thrown handler)
  raised_says l n handler thrown f w slots variables agree none says =
      raise_here l n handler thrown f w slots (reference_to thrown) variables agree (ap (λ (v : Option ℕ). thrown_value v slots (reference_to thrown)) none) says

  -- a new object of another site, that the node throws
  new_says : (l : LoweredMethod) (n : Node) (handler : Option ℕ) (f : SiteFact) (w : World) (made : Object) (slots : List Value) → HasVariables l n → AreEqual l n slots → made.site ≢ s
      → made.contents ≡ fields (default_fields x.program) → ((z : ℕ) → n.op ≡ Throw z → slot_at slots z ≡ null_value) → IsTracked s o (w.heap ++ made ∷ []) → Says s f o w (of_slots slots)
      → Results (t.raise l n handler f) (λ g. SaysCaught s g o (with_object w made) slots l.slots (length w.heap) handler)
  new_says l n handler f w made slots variables equal apart contents of_null tracked says =
      raise_results l n handler (length w.heap) w (with_object w made) slots primitive_value variables
      (λ v. calm_push s o w made v (λ g. ap (field_in g) contents ∙ default_field x.program g) (λ index. ap (element_in index) contents) (λ unique. apart))
      (λ object stands. in_longer w.heap (made ∷ []) o object stands) (λ g. refl) (equal_agree l n slots equal)
      (λ object stands. thrown_new o x.program w made (thrown_slot n.op) slots primitive_value contents (slice_get_within w.heap o object stands) none) idle f says
    where
      others : (object : Object) → Contains (made ∷ []) object → object.site ≢ s
      others object there e = apart (ap (λ (y : Object). y.site) (contains_only made object there) ∙ e)

      none : (place : ℕ) → thrown_value (thrown_slot n.op) slots primitive_value ≢ reference_to place
      none place is = by (thrown_slot n.op) refl
        where
          by : (v : Option ℕ) → thrown_slot n.op ≡ v → ⊥
          by None e = let bad : primitive_value ≡ reference_to place = sym (ap (λ (v : Option ℕ). thrown_value v slots primitive_value) e) ∙ is in cc bad
          by (Some z) e =
              let held : slot_at slots z ≡ reference_to place = sym (ap (λ (v : Option ℕ). thrown_value v slots primitive_value) e) ∙ is in
              let bad : null_value ≡ reference_to place = sym (of_null z (throws_slot n.op z e)) ∙ held in
              cc bad

      idle : (g : SiteFact) → IsIdle g → Says s g o w (of_slots slots) → (view : View) → Says s g o (with_object w made) view
      idle g is_idle here view =
          idle_says s o w (with_object w made) (of_slots slots) view g is_idle (longer s o w.heap (made ∷ []) others tracked) (push_none s w made apart)
          (λ some. record { place = some.place; object = some.object; stands = in_longer w.heap (made ∷ []) some.place some.object some.stands; of_site = some.of_site }) here

  pub listed_says : (l : LoweredMethod) (n : Node) (handler : Option ℕ) (thrown : ℕ) (f : SiteFact) (w after : World) (made : Object) (slots : List Value) → HasVariables l n → AreEqual l n slots
      → after ≡ with_object w made → thrown ≡ length w.heap → made.site ≢ s → made.contents ≡ fields (default_fields x.program)
      → ((z : ℕ) → n.op ≡ Throw z → slot_at slots z ≡ null_value) → IsTracked s o after.heap → Says s f o w (of_slots slots)
      → Results (t.raise l n handler f) (λ g. SaysCaught s g o after slots l.slots thrown handler)
  listed_says l n handler thrown f w after made slots variables equal after_is thrown_is apart contents of_null tracked says =
      subst (λ (y : World). Results (t.raise l n handler f) (λ g. SaysCaught s g o y slots l.slots thrown handler)) (sym after_is)
      (subst (λ (place : ℕ). Results (t.raise l n handler f) (λ g. SaysCaught s g o (with_object w made) slots l.slots place handler)) (sym thrown_is)
      (new_says l n handler f w made slots variables equal apart contents of_null (subst (λ (y : World). IsTracked s o y.heap) after_is tracked) says))
