-- Where a method is left, and its caller goes on or throws: what the exit's fact says, joined with what the caller's said at the call.
use Rattle.std.proofs.Common.{◌≡◌, ◌≢◌, ◌⊎◌, inl, inr, ℕ, ◌<◌, List, [], ◌∷◌, ◌++◌, length, Option, Some, None, Contains, false, refl, sym, ◌∙◌, ap, subst, arith}
use Rattle.std.specs.Prelude.{slice_get}
use Rattle.std.specs.List.{AllByRecursion}
use Rattle.std.specs.Option.{option_map_or}
use Rattle.list_laws.proofs.Members.{contains_none}
use Rattle.list_laws.proofs.Places.{push_cases}
use Rattle.jvm_model.specs.declared.number.FieldNo.{FieldNo}
use Rattle.jvm_model.specs.declared.number.MethodNo.{MethodNo}
use Rattle.jvm_model.specs.declared.site.Site.{Site}
use Rattle.op_model.specs.declared.lowered.LoweredMethod.{LoweredMethod}
use Rattle.op_model.specs.declared.node.Node.{Node}
use Rattle.op_model.specs.declared.op.Call.{Call as NodeCall}
use Rattle.machine_bytecode.specs.Objects.{Subject}
use Rattle.machine_bytecode.specs.States.{Value, primitive_value, null_value, reference_to, World, slot_at, with_kept}
use Rattle.points_to_rules.specs.Facts.{Fact, may_write}
use Rattle.access_paths.specs.declared.root.Root.{Root}
use Rattle.access_paths.specs.declared.root.Root.TheVariants.{Slot, Static, Returned, Thrown}
use Rattle.access_paths.specs.Paths.{Path, bare}
use Rattle.stage_facts.specs.Facts.{Tuple, SiteFact, none_yet, some_yet, of_object, Describes, Says}
use Rattle.stage_facts.specs.Values.{View, followed, of_exception, of_result, of_return, of_slots, of_throw, path_value, root_value}
use Rattle.stage_transfer.specs.Calls.{Entering, by_call, by_trigger}
use Rattle.stage_transfer.specs.Stages.{Transfer}
use Rattle.stage_relations.specs.Roots.{HandedOn, IsDropped, StaysIn}
use Rattle.stage_relations.specs.Relations.{HasFields, IsClear, IsSlotRoot, Joined, Joins, must_not_of, must_of, Target}
use Rattle.stage_relations.specs.Laws.{IsStage}
use Rattle.stage_steps.specs.Said.{AgreeOnPlaces, AreEqual, ChangesFields}
use Rattle.stage_steps.proofs.Paths.{follow_same, follows_from, same_place, Unchanged}
use Rattle.stage_steps.proofs.Calm.{calm_describes, listed_root, none_new}

-- A frame that waits for a method, now that this is left: the fact with which the method was entered said what held then, and since then slots stayed, but
-- for the arguments, which are gone; and only fields changed that the method may write.
pub record Behind (S : Fact → Type 0) (s : Site) (o : ℕ) (now : World) (by : Entering) (target : MethodNo) (sent : SiteFact) (waiting : List Value) : Type 0 where
  pub slots : List Value
  pub world : World
  pub says : Says s sent o world (of_slots slots)
  pub stays : (z : ℕ) → StaysIn by z → slot_at waiting z ≡ slot_at slots z
  pub cleared : (z place : ℕ) → slot_at waiting z ≡ reference_to place → StaysIn by z
  pub bounded : (z place : ℕ) → slot_at waiting z ≡ reference_to place → place < length world.heap
  pub changes : ChangesFields S target world.heap now.heap

-- Slots of one variable that have objects have one, as they had at the call.
pub waiting_agree : (S : Fact → Type 0) (s : Site) (o : ℕ) (now : World) (by : Entering) (target : MethodNo) (sent : SiteFact) (waiting : List Value) (l : LoweredMethod) (n : Node)
    (behind : Behind S s o now by target sent waiting) → AreEqual l n behind.slots → AgreeOnPlaces l n waiting
waiting_agree S s o now by target sent waiting l n behind equal y z p q alike first second =
    let before = behind.stays y (behind.cleared y p first) in
    let also = behind.stays z (behind.cleared z q second) in
    same_place p q (sym first ∙ before ∙ equal y z alike ∙ sym also ∙ second)

-- An exit, which has no slots.
abbrev pub at_exit : (returned thrown : Value) → View
at_exit returned thrown = record { slots = []; returned = returned; thrown = thrown }

-- The frame that waited, with what was returned to it or thrown into it.
abbrev pub at_call : List Value → (result exception : Value) → View
at_call slots result exception = record { slots = slots; returned = result; thrown = exception }

-- The same world, but for what is kept.
abbrev pub keeping : World → List ℕ → World
keeping w kept = record { heap = w.heap; statics = w.statics; kept = kept; started = w.started }

abbrev pub kept_value : List ℕ → ℕ → Value
kept_value kept number = option_map_or reference_to (slice_get kept number) null_value

-- What is seen after the way back, by what was seen at the exit: after a call the same. After an initialiser the object may be gone, or be kept.
pub record GoesBack (o : ℕ) (by : Entering) (returned thrown result exception : Value) (before after : List ℕ) : Type 0 where
  pub result_is : (c : NodeCall) → by ≡ by_call c → result ≡ returned
  pub exception_is : (c : NodeCall) → by ≡ by_call c → exception ≡ thrown
  pub was_returned : result ≡ reference_to o → returned ≡ reference_to o
  pub was_thrown : exception ≡ reference_to o → thrown ≡ reference_to o
  pub was_kept : (number : ℕ) → kept_value after number ≡ reference_to o → (kept_value before number ≡ reference_to o) ⊎ ((by ≡ by_trigger) × (thrown ≡ reference_to o))

-- ---- the fact with which the method was entered

sent_must : (s : Site) (o : ℕ) (w : World) (view : View) (f : SiteFact) → Says s f o w view → (y : Path) → Contains (must_of f) y → path_value w view y ≡ reference_to o
sent_must s o w view none_yet says y listed = absurd (contains_none y listed)
sent_must s o w view some_yet says y listed = absurd (contains_none y listed)
sent_must s o w view (of_object t) d y listed = d.must y listed

sent_must_not : (s : Site) (o : ℕ) (w : World) (view : View) (f : SiteFact) → Says s f o w view → (y : Path) → Contains (must_not_of f) y → path_value w view y ≢ reference_to o
sent_must_not s o w view none_yet says y listed = absurd (contains_none y listed)
sent_must_not s o w view some_yet says y listed = absurd (contains_none y listed)
sent_must_not s o w view (of_object t) d y listed = d.must_not y listed

-- where no other cells were possible, each slot that had the object is listed
sent_slot : (s : Site) (o : ℕ) (w : World) (slots : List Value) (f : SiteFact) → Says s f o w (of_slots slots) → IsClear f → (z : ℕ) → slot_at slots z ≡ reference_to o → o < length w.heap
    → Contains (must_of f) (bare (Slot z))
sent_slot s o w slots none_yet says clear z is there = absurd (let late = says.0 in omega (arith, late, there))
sent_slot s o w slots some_yet says clear z is there = absurd (let late = says.0 in omega (arith, late, there))
sent_slot s o w slots (of_object t) d clear z is there = listed_root s o w (of_slots slots) t (Slot z) d clear is

module _ (S : Fact → Type 0) (s : Site) (o : ℕ) (by : Entering) (target : MethodNo) (sent : SiteFact) (w : World) (waiting : List Value) (behind : Behind S s o w by target sent waiting)
    (returned thrown result exception : Value) (kept : List ℕ) (back : GoesBack o by returned thrown result exception w.kept kept) where
  -- a path that joins has the value that it had at the call
  joined_value : (old : List Path) (y : Path) → Joined S target (StaysIn by) old y
      → path_value (keeping w kept) (at_call waiting result exception) y ≡ path_value behind.world (of_slots behind.slots) y
  joined_value old y j =
      ap (λ (r : Root). followed w.heap (root_value (keeping w kept) (at_call waiting result exception) r) y.fields) j.root_is
      ∙ ap (λ (v : Value). followed w.heap v y.fields) (behind.stays j.slot j.stays)
      ∙ follow_same behind.world.heap w.heap (slot_at behind.slots j.slot) y.fields (each y.fields j.fields)
      ∙ sym (ap (λ (r : Root). followed behind.world.heap (root_value behind.world (of_slots behind.slots) r) y.fields) j.root_is)
    where
      each : (fs : List FieldNo) → AllByRecursion (λ (f : FieldNo). S (may_write target f) → ⊥) fs → AllByRecursion (Unchanged behind.world.heap w.heap) fs
      each [] none = tt
      each (f ∷ fs) none = (λ place. elim (behind.changes.each place f) [ inl same ↦ same | inr writes ↦ absurd (none.0 writes) ], each fs none.1)

  handed_value : {r q : Root} → HandedOn by r q → root_value (keeping w kept) (at_call waiting result exception) q ≡ root_value w (at_exit returned thrown) r
  handed_value HandedOn.static = refl
  handed_value (HandedOn.returned {c = c} e) = back.result_is c e
  handed_value (HandedOn.thrown {c = c} e) = back.exception_is c e

  -- a path that leads on begins at no slot, since an exit has none
  no_slot_root : (y : Path) → path_value w (at_exit returned thrown) y ≡ reference_to o → IsSlotRoot y.root → ⊥
  no_slot_root y is = on y.root is
    where
      on : (r : Root) → followed w.heap (root_value w (at_exit returned thrown) r) y.fields ≡ reference_to o → IsSlotRoot r → ⊥
      on (Slot z) leads is_slot = let k = follows_from w.heap primitive_value y.fields o leads in let bad = k.is in cc bad
      on (Static f) leads is_slot = is_slot
      on Returned leads is_slot = is_slot
      on Thrown leads is_slot = is_slot

  left_describes : (u v : Tuple) → Joins S target (HandedOn by) (StaysIn by) (IsDropped by) sent u v → Describes s u o w (at_exit returned thrown)
      → Describes s v o (keeping w kept) (at_call waiting result exception)
  left_describes u v rel d =
      calm_describes s o w (keeping w kept) (at_exit returned thrown) (at_call waiting result exception) u v (HandedOn by)
      (record { field = λ f place. refl; none = λ unique. none_new s w.heap; element = λ off place index is. is; kept = was_kept })
      (record { object = d.object; stands = d.stands; of_site = d.of_site; in_state = d.in_state ∙ sym rel.state }) (λ r q goes. handed_value goes) rel.unique
      (λ y listed. elim (rel.must y listed) [
        | inl source ↦ inl source
        | inr j ↦ inr (joined_value (must_of sent) y j ∙ sent_must s o behind.world (of_slots behind.slots) sent behind.says y j.listed)
      ])
      (λ y listed. elim (rel.must_not y listed) [
        | inl source ↦ inl source
        | inr j ↦ inr (λ is. sent_must_not s o behind.world (of_slots behind.slots) sent behind.says y j.listed (sym (joined_value (must_not_of sent) y j) ∙ is))
      ])
      rel.may (λ off r is. listed off r is) with_fields d
    where
      at_root : v.may ≡ false → (r : Root) → root_value w (at_exit returned thrown) r ≡ reference_to o → Contains u.must (bare r)
      at_root off r is = listed_root s o w (at_exit returned thrown) u r d (rel.may off) is

      not_dropped : v.may ≡ false → (r : Root) → IsDropped by r → root_value w (at_exit returned thrown) r ≢ reference_to o
      not_dropped off r dropped is = rel.dropped off (bare r) (at_root off r is) dropped

      was_kept : v.may ≡ false → (number : ℕ) → kept_value kept number ≡ reference_to o → kept_value w.kept number ≡ reference_to o
      was_kept off number is = elim (back.was_kept number is) [ inl before ↦ before | inr lost ↦ absurd (not_dropped off Thrown (IsDropped.thrown lost.0) lost.1) ]

      result_listed : v.may ≡ false → (k : Entering) → by ≡ k → returned ≡ reference_to o → Contains v.must (bare Returned)
      result_listed off (by_call c) e is = rel.roots off Returned Returned (HandedOn.returned e) (at_root off Returned is)
      result_listed off by_trigger e is = absurd (not_dropped off Returned (IsDropped.returned e) is)

      exception_listed : v.may ≡ false → (k : Entering) → by ≡ k → thrown ≡ reference_to o → Contains v.must (bare Thrown)
      exception_listed off (by_call c) e is = rel.roots off Thrown Thrown (HandedOn.thrown e) (at_root off Thrown is)
      exception_listed off by_trigger e is = absurd (not_dropped off Thrown (IsDropped.thrown e) is)

      listed : v.may ≡ false → (r : Root) → root_value (keeping w kept) (at_call waiting result exception) r ≡ reference_to o → Contains v.must (bare r)
      listed off (Slot z) is =
          let stays = behind.cleared z o is in
          rel.slots off z stays (sent_slot s o behind.world behind.slots sent behind.says (rel.clear off) z (sym (behind.stays z stays) ∙ is) (behind.bounded z o is))
      listed off (Static f) is = rel.roots off (Static f) (Static f) HandedOn.static (at_root off (Static f) is)
      listed off Returned is = result_listed off by refl (back.was_returned is)
      listed off Thrown is = exception_listed off by refl (back.was_thrown is)

      with_fields : v.may ≡ false → (y : Path) → Contains u.must y → HasFields y.fields
          → Target (λ r q. root_value (keeping w kept) (at_call waiting result exception) q ≡ root_value w (at_exit returned thrown) r) y v.must
      with_fields off y is_listed has =
          let z = rel.fields off y is_listed has (no_slot_root y (d.must y is_listed)) in
          record { path = z.path; listed = z.listed; goes = handed_value z.goes; fields = z.fields }

-- ---- facts

kept_or_new : (kept : List ℕ) (new o number : ℕ) → kept_value (kept ++ new ∷ []) number ≡ reference_to o → (kept_value kept number ≡ reference_to o) ⊎ (reference_to new ≡ reference_to o)
kept_or_new kept new o number is = elim (push_cases kept new number o (some (slice_get (kept ++ new ∷ []) number) is)) [
  | inl before ↦ inl (ap (λ (p : Option ℕ). option_map_or reference_to p null_value) before)
  | inr late ↦ inr (ap reference_to (sym late.1))
]
  where
    some : (p : Option ℕ) → option_map_or reference_to p null_value ≡ reference_to o → p ≡ Some o
    some None e = absurd (cc e)
    some (Some place) e = ap Some (cc e)

module _ (x : Subject) (S : Fact → Type 0) (s : Site) (t : Transfer) (laws : IsStage x S s t) (o : ℕ) (l : LoweredMethod) (n : Node) (by : Entering) (target : MethodNo) (sent : SiteFact)
    (w : World) (waiting : List Value) (behind : Behind S s o w by target sent waiting) where
  left_says : (returned thrown result exception : Value) (kept : List ℕ) → GoesBack o by returned thrown result exception w.kept kept → (out : SiteFact)
      → Says s out o w (at_exit returned thrown) → Says s (t.leave l n by target sent out) o (keeping w kept) (at_call waiting result exception)
  left_says returned thrown result exception kept back none_yet says =
      subst (λ (f : SiteFact). Says s f o (keeping w kept) (at_call waiting result exception)) (sym (laws.leave_idle l n by target sent none_yet tt)) says
  left_says returned thrown result exception kept back some_yet says =
      subst (λ (f : SiteFact). Says s f o (keeping w kept) (at_call waiting result exception)) (sym (laws.leave_idle l n by target sent some_yet tt)) says
  left_says returned thrown result exception kept back (of_object u) d =
      let k = laws.leave l n by target sent u in
      subst (λ (f : SiteFact). Says s f o (keeping w kept) (at_call waiting result exception)) (sym k.is)
      (left_describes S s o by target sent w waiting behind returned thrown result exception kept back u k.tuple k.related d)

  -- after a call that returns
  pub left_result_says : (c : NodeCall) → by ≡ by_call c → (v : Value) (out : SiteFact) → Says s out o w (of_return v) → Says s (t.leave l n by target sent out) o w (of_result waiting v)
  left_result_says c by_is v out says =
      left_says v primitive_value v primitive_value w.kept
      (record { result_is = λ c e. refl; exception_is = λ c e. refl; was_returned = λ is. is; was_thrown = λ is. is; was_kept = λ number is. inl is }) out says

  -- after a method that throws, also an initialiser
  pub left_exception_says : (thrown : ℕ) (out : SiteFact) → Says s out o w (of_throw thrown) → Says s (t.leave l n by target sent out) o w (of_exception waiting thrown)
  left_exception_says thrown out says =
      left_says primitive_value (reference_to thrown) primitive_value (reference_to thrown) w.kept
      (record { result_is = λ c e. refl; exception_is = λ c e. refl; was_returned = λ is. is; was_thrown = λ is. is; was_kept = λ number is. inl is }) out says

  module _ (triggered : by ≡ by_trigger) where
    no_call : (c : NodeCall) → by ≡ by_call c → ⊥
    no_call c e = let bad : by_trigger ≡ by_call c = sym triggered ∙ e in cc bad

    left_trigger : (returned thrown : Value) (kept : List ℕ)
        → ((number : ℕ) → kept_value kept number ≡ reference_to o → (kept_value w.kept number ≡ reference_to o) ⊎ ((by ≡ by_trigger) × (thrown ≡ reference_to o))) → (out : SiteFact)
        → Says s out o w (at_exit returned thrown) → Says s (t.leave l n by target sent out) o (keeping w kept) (of_slots waiting)
    left_trigger returned thrown kept was_kept out says =
        left_says returned thrown primitive_value primitive_value kept
        (record { result_is = λ c e. absurd (no_call c e); exception_is = λ c e. absurd (no_call c e); was_returned = λ is. absurd (cc is); was_thrown = λ is. absurd (cc is); was_kept = was_kept })
        out says

    -- after an initialiser that returns
    pub left_trigger_says : (v : Value) (out : SiteFact) → Says s out o w (of_return v) → Says s (t.leave l n by target sent out) o w (of_slots waiting)
    left_trigger_says v out says = left_trigger v primitive_value w.kept (λ number is. inl is) out says

    -- after one that throws, where something else is thrown then
    pub left_failed_says : (thrown : ℕ) (out : SiteFact) → Says s out o w (of_throw thrown) → Says s (t.leave l n by target sent out) o w (of_slots waiting)
    left_failed_says thrown out says = left_trigger primitive_value (reference_to thrown) w.kept (λ number is. inl is) out says

    -- and what it threw is kept
    pub left_kept_says : (thrown : ℕ) (out : SiteFact) → Says s out o w (of_throw thrown) → Says s (t.leave l n by target sent out) o (with_kept w (thrown ∷ [])) (of_slots waiting)
    left_kept_says thrown out says = left_trigger primitive_value (reference_to thrown) (w.kept ++ thrown ∷ []) was out says
      where
        was : (number : ℕ) → kept_value (w.kept ++ thrown ∷ []) number ≡ reference_to o
            → (kept_value w.kept number ≡ reference_to o) ⊎ ((by ≡ by_trigger) × (reference_to thrown ≡ reference_to o))
        was number is = elim (kept_or_new w.kept thrown o number is) [ inl before ↦ inl before | inr same ↦ inr (triggered, same) ]
