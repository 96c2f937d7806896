-- Calls of methods that a stub describes: what a fact said of an object, a result of the transfer says once the method has kept what it keeps, and has given
-- a result or thrown.
use Rattle.std.proofs.Common.{◌≡◌, ◌≢◌, ◌⊎◌, inl, inr, ℕ, ◌≤◌, List, [], ◌∷◌, ◌++◌, length, Option, Some, None, Contains, Bool, true, false, refl, sym, ◌∙◌, ap, subst}
use Rattle.std.specs.Prelude.{slice_get}
use Rattle.std.specs.List.{flat_map}
use Rattle.std.specs.Option.{option_map, option_map_or}
use Rattle.std.proofs.lemmas.Option.{slice_get_within}
use Rattle.list_laws.proofs.Members.{contained_or_not}
use Rattle.list_laws.proofs.Places.{contains_at, in_longer, place_of, pushed_at}
use Rattle.jvm_model.specs.declared.number.FieldNo.{FieldNo}
use Rattle.jvm_model.specs.declared.number.MethodNo.{MethodNo}
use Rattle.jvm_model.specs.declared.site.Site.{Site}
use Rattle.jvm_model.specs.declared.site.SiteKind.TheVariants as kinds
use Rattle.jvm_model.specs.declared.stub.StubArgument.{StubArgument}
use Rattle.jvm_model.specs.declared.stub.StubMethod.{StubMethod}
use Rattle.jvm_model.specs.declared.stub.StubResult.{StubResult}
use Rattle.jvm_model.specs.declared.stub.StubResult.TheVariants as results
use Rattle.op_model.specs.declared.lowered.LoweredMethod.{LoweredMethod}
use Rattle.op_model.specs.declared.node.Node.{Node}
use Rattle.op_model.specs.declared.op.Call.{Call as NodeCall}
use Rattle.op_model.specs.declared.op.Op.TheVariants.{Call}
use Rattle.machine_bytecode.specs.Described.{DescribedMethod, argument_unit, argument_value, places_of, kept_by, Gives, GivesResult, ThrowsListed}
use Rattle.machine_bytecode.specs.Objects.{Subject}
use Rattle.machine_bytecode.specs.States.{Value, primitive_value, null_value, reference_to, fields, Object, Frame, World, default_fields, slot_at, with_kept, with_object, new_object, site_at}
use Rattle.machine_nodes.specs.Slots.{AreLeft, argument_values, argument_slots}
use Rattle.points_to_rules.specs.Facts.{Fact}
use Rattle.access_paths.specs.declared.root.Root.{Root}
use Rattle.access_paths.specs.declared.root.Root.TheVariants.{Slot, Static, Returned, Thrown}
use Rattle.access_paths.specs.Paths.{Path}
use Rattle.stage_facts.specs.Facts.{Tuple, SiteFact, none_yet, some_yet, of_object, Describes, HasNone, Says}
use Rattle.stage_facts.specs.Values.{View, of_slots, root_value, field_in, element_in, path_value, in_kept}
use Rattle.stage_transfer.specs.Calls.{Result, an_argument, a_new_object, another}
use Rattle.stage_transfer.specs.Stages.{Transfer}
use Rattle.stage_edges.specs.Rules.{IsStub, slot_of, kept_slots, argument_given, given_by}
use Rattle.stage_relations.specs.Roots.{HasVariables, Doubles, Answered}
use Rattle.stage_relations.specs.Relations.{IsNewResult, PutsAway, Reroots, IsBorn}
use Rattle.stage_relations.specs.Laws.{IsIdle, IsStage, Meets}
use Rattle.stage_steps.specs.Said.{AreEqual, IsBounded, IsTracked, Results, SaysCaught}
use Rattle.stage_steps.proofs.Paths.{default_field, no_kept, same_place}
use Rattle.stage_steps.proofs.Calm.{Calm, From, doubled_value, reroots_describes}
use Rattle.stage_steps.proofs.Sites.{site_or_not, some_or_not}
use Rattle.stage_steps.proofs.Shapes.{append_cases}
use Rattle.stage_steps.proofs.Roots.{at_end}
use Rattle.stage_steps.proofs.Born.{made_says}
use Rattle.stage_steps.proofs.Kept.{unit_value, AreKept, are_kept, not_put_away, calm_kept, calm_kept_push, bounded_kept, idle_kept_push}
use Rattle.stage_steps.proofs.Raising.{caught_describes, caught_idle, equal_agree, thrown_new}

-- ---- the value that is given

-- the result is an argument
record IsArgumentGiven (result : Result) : Type 0 where
  slot : ℕ
  is : result ≡ an_argument slot

-- It is what an argument refers to; or what is kept; or it refers to nothing.
data IsOldValue (slots : List Value) (kept : List ℕ) (value : Value) : Result → Type 0 where
  of_argument : (z : ℕ) → value ≡ slot_at slots z → IsOldValue slots kept value (an_argument z)
  of_kept : (place : ℕ) → value ≡ reference_to place → Contains kept place → IsOldValue slots kept value another
  of_nothing : ((place : ℕ) → value ≢ reference_to place) → IsOldValue slots kept value another

not_new : {slots : List Value} {kept : List ℕ} {value : Value} {result : Result} → IsOldValue slots kept value result → (site : Site)
    → result ≢ a_new_object site
not_new (of_argument z e) site is = cc is
not_new (of_kept place e there) site is = cc is
not_new (of_nothing none) site is = cc is

given_argument : (slots : List Value) (kept : List ℕ) (value : Value) (slot : Option ℕ) → value ≡ option_map_or (slot_at slots) slot primitive_value
    → IsOldValue slots kept value (argument_given slot)
given_argument slots kept value None e = of_nothing (λ place is. (let bad : primitive_value ≡ reference_to place = sym e ∙ is in cc bad))
given_argument slots kept value (Some z) e = of_argument z e

-- ---- tuples

answered_describes : (l : LoweredMethod) (n : Node) (c : NodeCall) (result : Result) (s : Site) (o : ℕ) (w after : World) (value : Value)
    (slots left : List Value) (u v : Tuple) → AreEqual l n slots
    → AreLeft (argument_slots c.arguments) c.result value slots left → ((f : FieldNo) → after.statics f.0 ≡ w.statics f.0) → Calm s o w after v
    → ((object : Object) → slice_get w.heap o ≡ Some object → slice_get after.heap o ≡ Some object)
    → ((z : ℕ) → result ≡ an_argument z → value ≡ slot_at slots z) → (v.may ≡ false → value ≡ reference_to o → IsArgumentGiven result)
    → ((site : Site) → result ≡ a_new_object site → value ≢ reference_to o)
    → Reroots (Answered c result) (Doubles l n (Answered c result)) (IsNewResult c result) u v → Describes s u o w (of_slots slots)
    → Describes s v o after (of_slots left)
answered_describes l n c result s o w after value slots left u v equal are_left statics calm stays argument source fresh rel d =
    reroots_describes s o w after (of_slots slots) (of_slots left) u v (Answered c result) (Doubles l n (Answered c result))
    (IsNewResult c result) calm stays same from known
    (doubled_value o w after (of_slots slots) (of_slots left) l n (Answered c result) same (equal_agree l n slots equal)) rel d
  where
    answered : {r q : Root} → Answered c result r q → root_value after (of_slots left) q ≡ root_value w (of_slots slots) r
    answered (Answered.kept {z = z} aside) = are_left.kept z aside.no_argument aside.no_result
    answered (Answered.given {z = z} {target = target} is to) = are_left.given target to ∙ argument z is
    answered (Answered.static {f = f}) = statics f
    answered Answered.returned = refl
    answered Answered.thrown = refl

    same : (r q : Root) → Answered c result r q → root_value after (of_slots left) q ≡ root_value w (of_slots slots) r
    same r q goes = answered goes

    slot_from : v.may ≡ false → (z : ℕ) → slot_at left z ≡ reference_to o → (c.result ≡ Some z) ⊎ (c.result ≢ Some z)
        → Contains (argument_slots c.arguments) z ⊎ (Contains (argument_slots c.arguments) z → ⊥) → From (Answered c result) w (of_slots slots) o (Slot z)
    slot_from off z is (inl e) any =
        let value_is = sym (are_left.given z e) ∙ is in
        let k = source off value_is in
        record { root = Slot k.slot; goes = Answered.given k.is e; is = sym (argument k.slot k.is) ∙ value_is }
    slot_from off z is (inr ne) (inl there) = absurd (let bad : primitive_value ≡ reference_to o = sym (are_left.cleared z there ne) ∙ is in cc bad)
    slot_from off z is (inr ne) (inr free) = record {
      root = Slot z;
      goes = Answered.kept (record { no_argument = free; no_result = ne });
      is = sym (are_left.kept z free ne) ∙ is;
    }

    from : v.may ≡ false → (q : Root) → root_value after (of_slots left) q ≡ reference_to o → From (Answered c result) w (of_slots slots) o q
    from off (Slot z) is = slot_from off z is (some_or_not c.result z) (contained_or_not (argument_slots c.arguments) z)
    from off (Static f) is = record { root = Static f; goes = Answered.static; is = sym (statics f) ∙ is }
    from off Returned is = absurd (cc is)
    from off Thrown is = absurd (cc is)

    known : (y : Path) → IsNewResult c result y → path_value after (of_slots left) y ≢ reference_to o
    known y k is =
        fresh k.site k.result_is (sym (are_left.given k.slot.slot k.slot.target_is) ∙ sym (ap (path_value after (of_slots left)) k.slot.path_is) ∙ is)

-- What a stub that describes the target lists as a result, and a fact for it.
pub record HasAnswer (x : Subject) (s : Site) (t : Transfer) (o : ℕ) (m : Option MethodNo) (l : LoweredMethod) (n : Node) (c : NodeCall) (target : ℕ)
    (f : SiteFact) (after : World) (left : List Value) : Type 0 where
  pub stub : StubMethod
  pub parameters : List (List ℕ)
  pub is_stub : IsStub x (record { 0 = target }) stub parameters
  pub result : StubResult
  pub listed : Contains stub.returns result
  pub results : Results (t.answer l n c (kept_slots c stub parameters) (given_by m n c stub parameters result) f) (λ g. Says s g o after (of_slots left))

-- What a stub that describes the target lists as thrown; the new object of that class; and a fact for each way that it may go.
pub record HasException (x : Subject) (s : Site) (t : Transfer) (o : ℕ) (l : LoweredMethod) (n : Node) (c : NodeCall) (target : ℕ) (frame : Frame)
    (f : SiteFact) (slots : List Value) (thrown : ℕ) (after : World) : Type 0 where
  pub stub : StubMethod
  pub parameters : List (List ℕ)
  pub is_stub : IsStub x (record { 0 = target }) stub parameters
  pub class : List ℕ
  pub listed : Contains stub.throws class
  pub stands : slice_get after.heap thrown ≡ Some (new_object x.program (site_at kinds.Thrown frame class) x.property.initial)
  pub results : (handler : Option ℕ)
      → Results (t.exception l n (kept_slots c stub parameters) handler f) (λ g. SaysCaught s g o after slots l.slots thrown handler)

-- a method that the machine finds described is described for the rules
stub_of : (x : Subject) (target : ℕ) (d : DescribedMethod x target) → IsStub x (record { 0 = target }) d.stub d.descriptor.parameters
stub_of x target d = record {
  described = record { method = d.method; stands = d.stands; of_stub = d.is_described; concrete = d.concrete };
  descriptor = d.descriptor;
  are = refl;
}

-- ---- results

module _ (x : Subject) (S : Fact → Type 0) (s : Site) (t : Transfer) (laws : IsStage x S s t) (o : ℕ) where
  -- no new object
  old_value_says : (l : LoweredMethod) (n : Node) (c : NodeCall) (f : SiteFact) (result : Result) (w : World) (kept places : List ℕ) (value : Value)
      (slots left : List Value) → HasVariables l n → AreEqual l n slots
      → IsOldValue slots (w.kept ++ places) value result → AreKept slots kept places → AreLeft (argument_slots c.arguments) c.result value slots left
      → Says s f o w (of_slots slots) → Results (t.answer l n c kept result f) (λ g. Says s g o (with_kept w places) (of_slots left))
  old_value_says l n c none_yet result w kept places value slots left variables equal old are are_left says =
      record { fact = none_yet; listed = laws.answer_idle l n c kept result none_yet tt (not_new old s); says = says }
  old_value_says l n c some_yet result w kept places value slots left variables equal old are are_left says =
      record { fact = some_yet; listed = laws.answer_idle l n c kept result some_yet tt (not_new old s); says = says }
  old_value_says l n c (of_object u) result w kept places value slots left variables equal old are are_left d =
      let k = laws.answer l n c kept result u variables in
      record {
        fact = of_object k.tuple;
        listed = k.listed;
        says = answered_describes l n c result s o w (with_kept w places) value slots left u k.tuple equal are_left (λ g. refl)
            (calm_kept s o w places k.tuple (not_put_away s o w slots kept places u k.tuple are d k.related.0.may k.related.1))
            (λ object stands. stands) (argument old)
            (λ off is. source old k.tuple k.related.0.may k.related.1 off is) (λ site e. absurd (not_new old site e)) k.related.0 d;
      }
    where
      argument : {r : Result} → IsOldValue slots (w.kept ++ places) value r → (z : ℕ) → r ≡ an_argument z → value ≡ slot_at slots z
      argument (of_argument y e) z is = e ∙ ap (slot_at slots) (same_slot is)
        where
          same_slot : {a b : ℕ} → an_argument a ≡ an_argument b → a ≡ b
          same_slot q = cc q
      argument (of_kept place e there) z is = absurd (cc is)
      argument (of_nothing none) z is = absurd (cc is)

      -- what is kept is not the object, if the tuple is closed
      source : {r : Result} → IsOldValue slots (w.kept ++ places) value r → (v : Tuple) → (v.may ≡ false → u.may ≡ false) → PutsAway kept u v → v.may ≡ false
          → value ≡ reference_to o → IsArgumentGiven r
      source (of_argument y e) v may away off is = record { slot = y; is = refl }
      source (of_kept place e there) v may away off is =
          let at = place_of (w.kept ++ places) place there in
          let one : place ≡ o = same_place place o (sym e ∙ is) in
          elim (append_cases w.kept places at.0 place at.1) [
            | inl before ↦
                (let end = d.cells (may off) (in_kept at.0) (ap (λ (p : Option ℕ). option_map_or reference_to p null_value) before ∙ ap reference_to one) in
                absurd (no_kept w (of_slots slots) end.path at.0 end.ends))
            | inr now ↦ absurd (not_put_away s o w slots kept places u v are d may away off (subst (λ (p : ℕ). Contains places p) one now))
          ]
      source (of_nothing none) v may away off is = absurd (none o is)

  -- some result says so, once an object of a site was made
  abbrev AnswersNew : LoweredMethod → Node → NodeCall → World → (kept places : List ℕ) → (left : List Value) → SiteFact → Site → Type 0
  AnswersNew l n c w kept places left f y = Results (t.answer l n c kept (a_new_object y) f)
      (λ g. Says s g o (with_object (with_kept w places) (new_object x.program y x.property.initial)) (of_slots left))

  -- a new object
  module _ (l : LoweredMethod) (n : Node) (c : NodeCall) (site : Site) (w : World) (kept places : List ℕ) (slots left : List Value)
      (variables : HasVariables l n) (equal : AreEqual l n slots)
      (bounded : IsBounded w slots) (are : AreKept slots kept places)
      (are_left : AreLeft (argument_slots c.arguments) c.result (reference_to (length w.heap)) slots left)
      (tracked : IsTracked s o (w.heap ++ new_object x.program site x.property.initial ∷ [])) where
    abbrev made : Object
    made = new_object x.program site x.property.initial

    abbrev after : World
    after = with_object (with_kept w places) (new_object x.program site x.property.initial)

    new_tuple : (u : Tuple) → Describes s u o w (of_slots slots)
        → Results (t.answer l n c kept (a_new_object site) (of_object u)) (λ g. Says s g o after (of_slots left))
    new_tuple u d =
        let k = laws.answer l n c kept (a_new_object site) u variables in
        record {
          fact = of_object k.tuple;
          listed = k.listed;
          says = answered_describes l n c (a_new_object site) s o w after (reference_to (length w.heap)) slots left u k.tuple equal are_left (λ g. refl)
              (calm_kept_push s o w places made k.tuple (not_put_away s o w slots kept places u k.tuple are d k.related.0.may k.related.1)
              (default_field x.program) (λ index. refl)
              (λ unique of_site. (let shared : k.tuple.unique ≡ false = k.related.2 (ap a_new_object of_site) in cc (unique, shared))))
              (λ object stands. in_longer w.heap (made ∷ []) o object stands) (λ z is. absurd (cc is)) (λ off is. absurd (apart is))
              (λ of e. apart) k.related.0 d;
        }
      where
        apart : reference_to (length w.heap) ≢ reference_to o
        apart is = at_end w.heap o d.object d.stands (same_place _ _ is)

    new_other : (f : SiteFact) → IsIdle f → site ≢ s → Says s f o w (of_slots slots)
        → Results (t.answer l n c kept (a_new_object site) f) (λ g. Says s g o after (of_slots left))
    new_other f idle ne says = record {
      fact = f;
      listed = laws.answer_idle l n c kept (a_new_object site) f idle (λ e. ne (same_site e));
      says = idle_kept_push s o w places made (of_slots slots) (of_slots left) f idle ne tracked says;
    }
      where
        same_site : a_new_object site ≡ a_new_object s → site ≡ s
        same_site e = cc e

    new_its : (f : SiteFact) (first : Bool) → IsIdle f → site ≡ s → length w.heap ≤ o → (first ≡ true → HasNone s w.heap)
        → Meets (IsBorn c.result first x.property.initial) (t.answer l n c kept (a_new_object s) f)
        → Results (t.answer l n c kept (a_new_object site) f) (λ g. Says s g o after (of_slots left))
    new_its f first idle e le none meets =
        subst (AnswersNew l n c w kept places left f) (sym e)
        (made_says x s o c.result (argument_slots c.arguments) first (with_kept w places) slots left are_left (bounded_kept w slots kept places bounded are)
        none (t.answer l n c kept (a_new_object s) f) le (laws.answer_some l n c kept f idle) meets)

    new_object_says : (f : SiteFact) → Says s f o w (of_slots slots)
        → Results (t.answer l n c kept (a_new_object site) f) (λ g. Says s g o after (of_slots left))
    new_object_says (of_object u) d = new_tuple u d
    new_object_says none_yet says = elim (site_or_not site s) [
      | inl e ↦ new_its none_yet true tt e says.0 (λ _. says.1) (laws.answer_first l n c kept)
      | inr ne ↦ new_other none_yet tt ne says
    ]
    new_object_says some_yet says = elim (site_or_not site s) [
      | inl e ↦ new_its some_yet false tt e says.0 (λ bad. absurd (cc bad)) (laws.answer_further l n c kept)
      | inr ne ↦ new_other some_yet tt ne says
    ]

  module _ (m : Option MethodNo) (l : LoweredMethod) (n : Node) (c : NodeCall) (target : ℕ) (frame : Frame) (f : SiteFact) (w after : World) (value : Value)
      (slots left : List Value)
      (method_is : m ≡ option_map (λ (number : ℕ). record { 0 = number }) frame.method) (offset_is : n.offset ≡ frame.offset) (variables : HasVariables l n)
      (equal : AreEqual l n slots)
      (bounded : IsBounded w slots) (are_left : AreLeft (argument_slots c.arguments) c.result value slots left) (tracked : IsTracked s o after.heap)
      (says : Says s f o w (of_slots slots))
      (d : DescribedMethod x target) where
    -- the places that are kept
    abbrev places : List ℕ
    places = flat_map (λ (a : StubArgument). places_of (argument_value x target d (argument_values c.arguments slots) a)) d.stub.keeps

    abbrev kept : List ℕ
    kept = kept_slots c d.stub d.descriptor.parameters

    -- a value that is not new
    old_answer : (result : Result) → IsOldValue slots (w.kept ++ places) value result → after ≡ with_kept w places
        → Results (t.answer l n c kept result f) (λ g. Says s g o after (of_slots left))
    old_answer result old e =
        subst (λ (y : World). Results (t.answer l n c kept result f) (λ g. Says s g o y (of_slots left))) (sym e)
        (old_value_says l n c f result w kept places value slots left variables equal old (are_kept x target d c slots) are_left says)

    nothing_given : (v : Value) → value ≡ v → ((place : ℕ) → v ≢ reference_to place) → IsOldValue slots (w.kept ++ places) value another
    nothing_given v e none = of_nothing (λ place is. none place (sym e ∙ is))

    answer_of : (result : StubResult)
        → Gives x target d frame (argument_values c.arguments slots) result (kept_by x target d (argument_values c.arguments slots) w) value after
        → Results (t.answer l n c kept (given_by m n c d.stub d.descriptor.parameters result) f) (λ g. Says s g o after (of_slots left))
    answer_of results.Primitive gives = old_answer another (nothing_given primitive_value gives.0 (λ place e. cc e)) gives.1
    answer_of results.Void gives = old_answer another (nothing_given primitive_value gives.0 (λ place e. cc e)) gives.1
    answer_of results.Null gives = old_answer another (nothing_given null_value gives.0 (λ place e. cc e)) gives.1
    answer_of (results.Given a) gives =
        old_answer (argument_given (slot_of c d.stub d.descriptor.parameters a))
        (given_argument slots (w.kept ++ places) value (slot_of c d.stub d.descriptor.parameters a)
        (gives.0 ∙ unit_value c.arguments slots (argument_unit d.stub.is_static d.descriptor.parameters a))) gives.1
    answer_of (results.New class) gives =
        let own : Site = record { kind = kinds.Result; method = m; offset = n.offset; class = class } in
        let same : site_at kinds.Result frame class ≡ own =
        λ i. record { kind = kinds.Result; method = sym method_is i; offset = sym offset_is i; class = class } in
        let after_is : after ≡ with_object (with_kept w places) (new_object x.program own x.property.initial) =
        gives.after_is ∙ ap (λ (y : Site). with_object (with_kept w places) (new_object x.program y x.property.initial)) same in
        subst (λ (y : World). Results (t.answer l n c kept (a_new_object own) f) (λ g. Says s g o y (of_slots left))) (sym after_is)
        (new_object_says l n c own w kept places slots left variables equal bounded (are_kept x target d c slots)
        (subst (λ (v : Value). AreLeft (argument_slots c.arguments) c.result v slots left) gives.made_is are_left)
        (subst (λ (y : World). IsTracked s o y.heap) after_is tracked) f says)
    answer_of results.Kept gives = old_answer another (of_kept gives.0.object.to.place gives.0.object.to.is gives.0.kept) gives.1

  pub answer_says : (m : Option MethodNo) (l : LoweredMethod) (n : Node) (c : NodeCall) (target : ℕ) (frame : Frame) (f : SiteFact) (w after : World)
      (value : Value) (slots left : List Value)
      → m ≡ option_map (λ (number : ℕ). record { 0 = number }) frame.method → n.offset ≡ frame.offset → HasVariables l n → AreEqual l n slots
      → IsBounded w slots → GivesResult x target frame (argument_values c.arguments slots) w value after
      → AreLeft (argument_slots c.arguments) c.result value slots left → IsTracked s o after.heap → Says s f o w (of_slots slots)
      → HasAnswer x s t o m l n c target f after left
  answer_says m l n c target frame f w after value slots left method_is offset_is variables equal bounded given are_left tracked says =
      let d = given.called in
      record {
        stub = d.stub;
        parameters = d.descriptor.parameters;
        is_stub = stub_of x target d;
        result = given.result;
        listed = contains_at d.stub.returns given.place given.result given.listed;
        results =
            answer_of m l n c target frame f w after value slots left method_is offset_is variables equal bounded are_left tracked says d given.result
            given.gives;
      }

  -- ---- exceptions

  module _ (l : LoweredMethod) (n : Node) (c : NodeCall) (w : World) (made : Object) (kept places : List ℕ) (slots : List Value) (variables : HasVariables l n)
      (equal : AreEqual l n slots)
      (op_is : n.op ≡ Call c) (are : AreKept slots kept places) (contents : made.contents ≡ fields (default_fields x.program)) (apart : made.site ≢ s)
      (tracked : IsTracked s o (w.heap ++ made ∷ [])) where
    thrown_idle : (f : SiteFact) → IsIdle f → Says s f o w (of_slots slots) → (view : View) → Says s f o (with_object (with_kept w places) made) view
    thrown_idle f idle says view = idle_kept_push s o w places made (of_slots slots) view f idle apart tracked says

    thrown_says : (f : SiteFact) → Says s f o w (of_slots slots) → (handler : Option ℕ)
        → Results (t.exception l n kept handler f) (λ g. SaysCaught s g o (with_object (with_kept w places) made) slots l.slots (length w.heap) handler)
    thrown_says none_yet says handler = record {
      fact = none_yet;
      listed = laws.exception_idle l n kept handler none_yet tt;
      says = caught_idle s none_yet o (with_object (with_kept w places) made) slots l.slots (length w.heap) handler (thrown_idle none_yet tt says);
    }
    thrown_says some_yet says handler = record {
      fact = some_yet;
      listed = laws.exception_idle l n kept handler some_yet tt;
      says = caught_idle s some_yet o (with_object (with_kept w places) made) slots l.slots (length w.heap) handler (thrown_idle some_yet tt says);
    }
    thrown_says (of_object u) d handler =
        let k = laws.exception l n c kept handler u variables op_is in
        record {
          fact = of_object k.tuple;
          listed = k.listed;
          says = caught_describes s o l n w (with_object (with_kept w places) made) None handler (length w.heap) slots primitive_value u k.tuple
              (calm_kept_push s o w places made k.tuple (not_put_away s o w slots kept places u k.tuple are d k.related.0.may k.related.1)
              (λ g. ap (field_in g) contents ∙ default_field x.program g) (λ index. ap (element_in index) contents) (λ unique. apart))
              (λ object stands. in_longer w.heap (made ∷ []) o object stands) (λ g. refl) (equal_agree l n slots equal)
              (thrown_new o x.program (with_kept w places) made None slots primitive_value contents (slice_get_within w.heap o d.object d.stands)
              (λ place e. cc e)) k.related.0 d;
        }

  -- some result says so where an object is thrown that stands at a place
  abbrev Caught : LoweredMethod → Node → (kept : List ℕ) → SiteFact → List Value → (handler : Option ℕ) → (place : ℕ) → World → Type 0
  Caught l n kept f slots handler place y =
      Results (t.exception l n kept handler f) (λ g. SaysCaught s g o y slots l.slots place handler)

  pub exception_says : (l : LoweredMethod) (n : Node) (c : NodeCall) (target : ℕ) (frame : Frame) (f : SiteFact) (w after : World) (thrown : ℕ)
      (slots : List Value) → HasVariables l n → AreEqual l n slots
      → n.op ≡ Call c → s.kind ≢ kinds.Thrown → ThrowsListed x target frame (argument_values c.arguments slots) w thrown after → IsTracked s o after.heap
      → Says s f o w (of_slots slots) → HasException x s t o l n c target frame f slots thrown after
  exception_says l n c target frame f w after thrown slots variables equal op_is kind throws tracked says =
      let d = throws.called in
      let places = flat_map (λ (a : StubArgument). places_of (argument_value x target d (argument_values c.arguments slots) a)) d.stub.keeps in
      let made = new_object x.program (site_at kinds.Thrown frame throws.class) x.property.initial in
      let after_is : after ≡ with_object (with_kept w places) made = throws.makes.after_is in
      let place_is : thrown ≡ length w.heap = same_place _ _ throws.makes.made_is in
      record {
        stub = d.stub;
        parameters = d.descriptor.parameters;
        is_stub = stub_of x target d;
        class = throws.class;
        listed = contains_at d.stub.throws throws.place throws.class throws.listed;
        stands = ap (λ (y : World). slice_get y.heap thrown) after_is ∙ ap (slice_get (w.heap ++ made ∷ [])) place_is ∙ pushed_at w.heap made;
        results = λ handler.
            subst (λ (y : World). Caught l n (kept_slots c d.stub d.descriptor.parameters) f slots handler thrown y) (sym after_is)
            (subst (λ (place : ℕ). Caught l n (kept_slots c d.stub d.descriptor.parameters) f slots handler place (with_object (with_kept w places) made))
            (sym place_is)
            (thrown_says l n c w made (kept_slots c d.stub d.descriptor.parameters) places slots variables equal op_is (are_kept x target d c slots) refl
            (λ e. kind (sym (ap (λ (y : Site). y.kind) e))) (subst (λ (y : World). IsTracked s o y.heap) after_is tracked) f says handler));
      }
