-- Events: what a fact said of an object, a result of the transfer says once the event of a call has happened.
use Rattle.std.proofs.Common.{◌≡◌, ◌≢◌, ◌⊎◌, inl, inr, ℕ, ◌≤◌, List, [], ◌∷◌, length, Option, Some, None, Contains, Bool, true, false, cond, refl, sym, ◌∙◌, ap, subst, arith}
use Rattle.std.specs.Prelude.{slice_get, slice_set, slice_index}
use Rattle.std.proofs.lemmas.Bool.{cases_eq}
use Rattle.std.proofs.lemmas.List.{get_or_past, length-set}
use Rattle.std.proofs.lemmas.Option.{same_Some, none-some}
use Rattle.list_laws.proofs.Places.{set_other}
use Rattle.jvm_model.specs.declared.automaton.Event.{Event}
use Rattle.jvm_model.specs.declared.site.Site.{Site}
use Rattle.jvm_model.specs.Soundness.{is_array}
use Rattle.jvm_model.specs.Subtypes.{IsSubtype}
use Rattle.op_model.specs.declared.lowered.LoweredMethod.{LoweredMethod}
use Rattle.op_model.specs.declared.node.Node.{Node}
use Rattle.op_model.specs.declared.op.Call.{Call as NodeCall}
use Rattle.op_model.specs.declared.op.CallKind.{CallKind}
use Rattle.op_model.specs.declared.op.CallKind.TheVariants as call_kinds
use Rattle.machine_bytecode.specs.Events.{event_for, HasEvents, moved, unmoved}
use Rattle.machine_bytecode.specs.Objects.{Subject, Refers}
use Rattle.machine_bytecode.specs.States.{Value, primitive_value, reference_to, Object, World, slot_at, with_automaton}
use Rattle.machine_nodes.specs.NodeSteps.{is_selecting_kind}
use Rattle.machine_nodes.specs.Slots.{argument_values}
use Rattle.slot_names.specs.Variables.{AreReachedNodes}
use Rattle.slot_names.proofs.EachVariable.{each_variable}
use Rattle.access_paths.specs.declared.root.Root.{Root}
use Rattle.access_paths.specs.declared.root.Root.TheVariants.{Slot, Static, Returned, Thrown}
use Rattle.access_paths.specs.Paths.{Path, bare}
use Rattle.points_to_rules.specs.Facts.{Fact, Holder, variable, may_hold}
use Rattle.points_to_rules.specs.Rules.{IsSlot}
use Rattle.stage_facts.specs.Facts.{Tuple, SiteFact, none_yet, some_yet, of_object, Describes, HasSome, Says}
use Rattle.stage_facts.specs.Values.{of_slots, root_value, field_in, element_in, path_value}
use Rattle.stage_transfer.specs.Calls.{event_of_call}
use Rattle.stage_transfer.specs.Stages.{Transfer}
use Rattle.stage_relations.specs.Roots.{same, of_one}
use Rattle.stage_relations.specs.Relations.{IsReceiver, Notes}
use Rattle.stage_relations.specs.Laws.{IsIdle, IsStage}
use Rattle.stage_steps.specs.Said.{AreEqual, Results}
use Rattle.stage_steps.proofs.Paths.{part_set, same_place, set_here}
use Rattle.stage_steps.proofs.Calm.{NoneNew, Calm, calm_here, There, calm_describes, idle_says, idle_here, listed_root}
use Rattle.stage_steps.proofs.Shapes.{was_set}

-- ---- another state of an object

abbrev in_state : Object → ℕ → Object
in_state object state = record { site = object.site; class = object.class; contents = object.contents; automaton = state }

state_none_new : (s : Site) (w : World) (place state : ℕ) (object : Object) → slice_get w.heap place ≡ Some object
    → NoneNew s w.heap (slice_set w.heap place (in_state object state))
state_none_new s w place state object held = record {
  was = λ k y stands of_site.
      let b = was_set w.heap place k object (in_state object state) y held refl stands in
      record { object = b.object; stands = b.stands; of_site = b.of_site ∙ of_site };
}

state_calm : (s : Site) (o : ℕ) (w : World) (place state : ℕ) (object : Object) (u : Tuple) → slice_get w.heap place ≡ Some object
    → Calm s o w (with_automaton w place object state) u
state_calm s o w place state object u held = record {
  field = λ f k. part_set (field_in f) w.heap place k object (in_state object state) held (λ _. refl);
  none = λ unique. state_none_new s w place state object held;
  element = λ off k index is. sym (part_set (element_in index) w.heap place k object (in_state object state) held (λ _. refl)) ∙ is;
  kept = λ off number is. is;
}

state_some : (s : Site) (w : World) (place state : ℕ) (object : Object) → slice_get w.heap place ≡ Some object → HasSome s w.heap
    → HasSome s (slice_set w.heap place (in_state object state))
state_some s w place state object held some = by (cases_eq some.place place)
  where
    by : (some.place ≡ place) ⊎ (some.place ≢ place) → HasSome s (slice_set w.heap place (in_state object state))
    by (inl e) = record {
      place = place;
      object = in_state object state;
      stands = set_here w.heap place object (in_state object state) held;
      of_site = ap (λ (y : Object). y.site) (same_Some _ _ (sym held ∙ ap (slice_get w.heap) (sym e) ∙ some.stands)) ∙ some.of_site;
    }
    by (inr ne) = record {
      place = some.place;
      object = some.object;
      stands = set_other w.heap place some.place (in_state object state) ne ∙ some.stands;
      of_site = some.of_site;
    }

-- ---- tuples

noted_describes : (l : LoweredMethod) (n : Node) (receiver : ℕ) (is_its : Bool) (state : ℕ) (s : Site) (o : ℕ) (w after : World) (slots : List Value)
    (t u : Tuple) → Calm s o w after u
    → ((f : ℕ) → after.statics f ≡ w.statics f) → There s state o after.heap → AreEqual l n slots → (is_its ≡ true → slot_at slots receiver ≡ reference_to o)
    → (is_its ≡ false → slot_at slots receiver ≢ reference_to o) → Notes l n receiver is_its state t u → Describes s t o w (of_slots slots)
    → Describes s u o after (of_slots slots)
noted_describes l n receiver is_its state s o w after slots t u calm statics there equal its its_not rel d =
    calm_describes s o w after (of_slots slots) (of_slots slots) t u (λ r q. r ≡ q) calm
    (record { object = there.object; stands = there.stands; of_site = there.of_site; in_state = there.in_state ∙ sym rel.state })
    (λ r q e. root_same q ∙ ap (root_value w (of_slots slots)) (sym e)) rel.unique
    (λ y listed. elim (rel.must y listed) [
      | inl old ↦ inl (record { path = y; listed = old; goes = refl; fields = refl })
      | inr k ↦ inr (receiver_value y k.1 ∙ its k.0)
    ])
    (λ y listed. elim (rel.must_not y listed) [
      | inl old ↦ inl (record { path = y; listed = old; goes = refl; fields = refl })
      | inr k ↦ inr (λ is. its_not k.0 (sym (receiver_value y k.1) ∙ is))
    ])
    rel.may (λ off r is. rel.all off (bare r) (listed_root s o w (of_slots slots) t r d (rel.may off) (sym (root_same r) ∙ is)))
    (λ off y listed has. record { path = y; listed = rel.all off y listed; goes = root_same y.root; fields = refl }) d
  where
    root_same : (r : Root) → root_value after (of_slots slots) r ≡ root_value w (of_slots slots) r
    root_same (Slot z) = refl
    root_same (Static f) = statics f.0
    root_same Returned = refl
    root_same Thrown = refl

    receiver_value : (y : Path) → IsReceiver l n receiver y → path_value after (of_slots slots) y ≡ slot_at slots receiver
    receiver_value y k = ap (path_value after (of_slots slots)) k.path_is ∙ equal k.slot receiver k.alike

-- ---- which call is an event

record IsChosen (selects : Bool) (found : Option Event) (e : Event) : Type 0 where
  selecting : selects ≡ true
  named : found ≡ Some e

chosen : (selects : Bool) (found : Option Event) (e : Event) → cond selects found None ≡ Some e → IsChosen selects found e
chosen true found e is = record { selecting = refl; named = is }
chosen false found e is = absurd (none-some e is)

-- the slot of the receiver
record IsReceiverSlot (arguments : List (Option ℕ)) (slots : List Value) (place : ℕ) : Type 0 where
  slot : ℕ
  first : slice_get arguments 0 ≡ Some (Some slot)
  is : slot_at slots slot ≡ reference_to place

receiver_slot : (arguments : List (Option ℕ)) (slots : List Value) (place : ℕ) → slot_at (argument_values arguments slots) 0 ≡ reference_to place
    → IsReceiverSlot arguments slots place
receiver_slot [] slots place e = absurd (cc e)
receiver_slot (None ∷ rest) slots place e = absurd (cc e)
receiver_slot (Some z ∷ rest) slots place e = record { slot = z; first = refl; is = e }

-- The variable of the receiver's slot holds the receiver's site.
abbrev pub IsReceiverHeld : (Fact → Type 0) → LoweredMethod → Node → NodeCall → World → List Value → Type 0
IsReceiverHeld S l n c w slots = (z : ℕ) (h : Holder) (place : ℕ) (object : Object) → slice_get c.arguments 0 ≡ Some (Some z) → IsSlot l n z h
    → slot_at slots z ≡ reference_to place → slice_get w.heap place ≡ Some object → S (may_hold h object.site)

-- The property observes the object of the site, if one stands at the place: it is no array, and of a subtype of the property's class.
abbrev pub IsObserved : Subject → Site → ℕ → World → Type 0
IsObserved x s o w = (object : Object) → slice_get w.heap o ≡ Some object → object.site ≡ s
    → (is_array object.class ≡ false) × IsSubtype x.program x.property.class_name object.class

-- in a method without slots, each slot is like itself alone
pub equal_at_start : (l : LoweredMethod) (n : Node) (slots : List Value) → l.slots ≡ 0 → l.stack ≡ 0 → AreEqual l n slots
equal_at_start l n slots no_slots no_stack y z (same e) = ap (slot_at slots) e
equal_at_start l n slots no_slots no_stack y z (of_one v low high one two) = absurd (omega (arith, low, no_slots, no_stack))

module _ (x : Subject) (S : Fact → Type 0) (s : Site) (t : Transfer) (laws : IsStage x S s t) (o : ℕ) where
  -- a call that is no event
  pub silent_says : (l : LoweredMethod) (n : Node) (c : NodeCall) (f : SiteFact) (w : World) (slots : List Value) → AreEqual l n slots
      → event_of_call x.property c ≡ None → Says s f o w (of_slots slots) → Results (t.event l n c f) (λ g. Says s g o w (of_slots slots))
  silent_says l n c none_yet w slots equal silent says = record { fact = none_yet; listed = laws.event_idle l n c none_yet tt; says = says }
  silent_says l n c some_yet w slots equal silent says = record { fact = some_yet; listed = laws.event_idle l n c some_yet tt; says = says }
  silent_says l n c (of_object u) w slots equal silent d =
      let k = laws.event_none l n c u silent in
      record {
        fact = of_object k.tuple;
        listed = k.listed;
        says = noted_describes l n (length slots) false u.state s o w w slots u k.tuple (calm_here s o w k.tuple) (λ f. refl)
            (record { object = d.object; stands = d.stands; of_site = d.of_site; in_state = d.in_state }) equal (λ bad. absurd (cc bad))
            (λ _. outside) (k.related (length slots)) d;
      }
    where
      outside : slot_at slots (length slots) ≢ reference_to o
      outside is = let bad : primitive_value ≡ reference_to o = sym (get_or_past slots (length slots) primitive_value (omega arith)) ∙ is in cc bad

  -- the call of the start is static
  pub start_event_says : (l : LoweredMethod) (n : Node) (c : NodeCall) (f : SiteFact) (w : World) (slots : List Value) → l.slots ≡ 0 → l.stack ≡ 0
      → c.kind ≡ call_kinds.Static → Says s f o w (of_slots slots) → Results (t.event l n c f) (λ g. Says s g o w (of_slots slots))
  start_event_says l n c f w slots no_slots no_stack static says =
      silent_says l n c f w slots (equal_at_start l n slots no_slots no_stack)
      (ap (λ (kind : CallKind). cond (is_selecting_kind kind) (event_for x.property (record { name = c.name; descriptor = c.descriptor })) None) static) says

  module _ (l : LoweredMethod) (n : Node) (c : NodeCall) (w after : World) (slots : List Value) (reached : AreReachedNodes l) (stands : Contains l.nodes n)
      (equal : AreEqual l n slots)
      (events : HasEvents x (is_selecting_kind c.kind) (record { name = c.name; descriptor = c.descriptor }) (argument_values c.arguments slots) w after)
      (held : IsReceiverHeld S l n c w slots) (observed : IsObserved x s o w) where
    abbrev event_found : Option Event
    event_found = event_for x.property (record { name = c.name; descriptor = c.descriptor })

    -- the event of an object at another place, or none
    other_says : (e : Event) (u : Tuple) (place : ℕ) (object : Object) (k : IsReceiverSlot c.arguments slots place) → event_of_call x.property c ≡ Some e
        → slice_get w.heap place ≡ Some object → place ≢ o → Describes s u o w (of_slots slots)
        → Results (t.event l n c (of_object u)) (λ g. Says s g o after (of_slots slots))
    other_says e u place object k is receiver apart d =
        let r = laws.event_other l n c e k.slot u reached stands is k.first (λ listed. not_its (d.must (bare (Slot k.slot)) listed))
        (λ unique only. apart ((d.only unique).only place object receiver (only h slot object.site (held k.slot h place object k.first slot k.is receiver)))) in
        record { fact = of_object r.tuple; listed = r.listed; says = by events r.tuple r.related }
      where
        h : Holder
        h = let named = each_variable l n k.slot reached stands in variable named.0

        slot : IsSlot l n k.slot h
        slot = let named = each_variable l n k.slot reached stands in record { name = named.0; named = named.1; is = refl }

        not_its : slot_at slots k.slot ≢ reference_to o
        not_its its = apart (same_place _ _ (sym k.is ∙ its))

        by : HasEvents x (is_selecting_kind c.kind) (record { name = c.name; descriptor = c.descriptor }) (argument_values c.arguments slots) w after
            → (v : Tuple) → Notes l n k.slot false u.state u v → Describes s v o after (of_slots slots)
        by (unmoved none same_world) v rel = subst (λ (y : World). Describes s v o y (of_slots slots)) (sym same_world)
            (noted_describes l n k.slot false u.state s o w w slots u v (calm_here s o w v) (λ f. refl)
            (record { object = d.object; stands = d.stands; of_site = d.of_site; in_state = d.in_state }) equal (λ bad. absurd (cc bad)) (λ _. not_its) rel d)
        by (moved event later) v rel = subst (λ (y : World). Describes s v o y (of_slots slots)) (sym later)
            (noted_describes l n k.slot false u.state s o w _ slots u v
            (state_calm s o w event.receiver.place state event.receiver.object v event.receiver.held) (λ f. refl)
            (record { object = d.object; stands = set_other w.heap event.receiver.place o _ elsewhere ∙ d.stands; of_site = d.of_site; in_state = d.in_state })
            equal
            (λ bad. absurd (cc bad)) (λ _. not_its) rel d)
          where
            state : ℕ
            state = slice_index event.event.next event.receiver.object.automaton

            elsewhere : o ≢ event.receiver.place
            elsewhere q =
                let j = receiver_slot c.arguments slots event.receiver.place event.receiver.is in
                let one : j.slot ≡ k.slot = same_slot (same_Some _ _ (sym j.first ∙ k.first)) in
                not_its (ap (slot_at slots) (sym one) ∙ j.is ∙ ap reference_to (sym q))
              where
                same_slot : {a b : ℕ} → Some a ≡ Some b → a ≡ b
                same_slot e = cc e

    -- the event of the object
    its_says : (e : Event) (u : Tuple) (object : Object) (k : IsReceiverSlot c.arguments slots o) → IsChosen (is_selecting_kind c.kind) event_found e
        → event_of_call x.property c ≡ Some e → (receiver : Refers w (slot_at (argument_values c.arguments slots) 0)) → receiver.place ≡ o
        → Describes s u o w (of_slots slots) → Results (t.event l n c (of_object u)) (λ g. Says s g o after (of_slots slots))
    its_says e u object k choice is receiver at d = by events
      where
        by : HasEvents x (is_selecting_kind c.kind) (record { name = c.name; descriptor = c.descriptor }) (argument_values c.arguments slots) w after
            → Results (t.event l n c (of_object u)) (λ g. Says s g o after (of_slots slots))
        by (unmoved none same_world) =
            let one : receiver.object ≡ d.object = same_Some _ _ (sym receiver.held ∙ ap (slice_get w.heap) at ∙ d.stands) in
            let seen = observed d.object d.stands d.of_site in
            absurd (none (record {
              selecting = choice.selecting;
              event = e;
              named = choice.named;
              receiver = receiver;
              no_array = ap (λ (y : Object). is_array y.class) one ∙ seen.0;
              observed = subst (λ (y : Object). IsSubtype x.program x.property.class_name y.class) (sym one) seen.1;
            }))
        by (moved event later) =
            let one : event.receiver.object ≡ d.object = same_Some _ _ (sym event.receiver.held ∙ ap (slice_get w.heap) place_is ∙ d.stands) in
            let r = laws.event_its l n c e k.slot u reached stands is k.first
            (λ h slot. subst (λ (site : Site). S (may_hold h site)) d.of_site (held k.slot h o d.object k.first slot k.is d.stands))
            (λ listed. d.must_not (bare (Slot k.slot)) listed k.is) (λ off. listed_root s o w (of_slots slots) u (Slot k.slot) d off k.is) in
            let there : There s (slice_index e.next u.state) o (slice_set w.heap event.receiver.place (in_state event.receiver.object state)) = record {
              object = in_state event.receiver.object state;
              stands = ap (slice_get (slice_set w.heap event.receiver.place (in_state event.receiver.object state))) (sym place_is)
                  ∙ set_here w.heap event.receiver.place event.receiver.object (in_state event.receiver.object state) event.receiver.held;
              of_site = ap (λ (y : Object). y.site) one ∙ d.of_site;
              in_state =
                  ap (λ (y : Event). slice_index y.next event.receiver.object.automaton) same_event
                  ∙ ap (slice_index e.next) (ap (λ (y : Object). y.automaton) one ∙ d.in_state);
            } in
            subst (λ (y : World). Results (t.event l n c (of_object u)) (λ g. Says s g o y (of_slots slots))) (sym later)
            (record {
              fact = of_object r.tuple;
              listed = r.listed;
              says =
                  noted_describes l n k.slot true (slice_index e.next u.state) s o w
                  (with_automaton w event.receiver.place event.receiver.object state) slots u r.tuple
                  (state_calm s o w event.receiver.place state event.receiver.object r.tuple event.receiver.held) (λ f. refl) there equal (λ _. k.is)
                  (λ bad. absurd (cc bad)) r.related d;
            })
          where
            state : ℕ
            state = slice_index event.event.next event.receiver.object.automaton

            place_is : event.receiver.place ≡ o
            place_is = same_place _ _ (sym event.receiver.is ∙ receiver.is) ∙ at

            same_event : event.event ≡ e
            same_event = same_Some _ _ (sym event.named ∙ choice.named)

    idle_event_says : (f : SiteFact) → IsIdle f → Says s f o w (of_slots slots) → Results (t.event l n c f) (λ g. Says s g o after (of_slots slots))
    idle_event_says f idle says = record { fact = f; listed = laws.event_idle l n c f idle; says = by events }
      where
        by : HasEvents x (is_selecting_kind c.kind) (record { name = c.name; descriptor = c.descriptor }) (argument_values c.arguments slots) w after
            → Says s f o after (of_slots slots)
        by (unmoved none same_world) = idle_here s o w after (of_slots slots) (of_slots slots) f idle (ap (λ (y : World). y.heap) same_world) says
        by (moved event later) = subst (λ (y : World). Says s f o y (of_slots slots)) (sym later)
            (idle_says s o w (with_automaton w event.receiver.place event.receiver.object state) (of_slots slots) (of_slots slots) f idle
            (λ le. subst (λ (k : ℕ). k ≤ o) (sym (length-set w.heap event.receiver.place (in_state event.receiver.object state))) le)
            (state_none_new s w event.receiver.place state event.receiver.object event.receiver.held)
            (state_some s w event.receiver.place state event.receiver.object event.receiver.held) says)
          where
            state : ℕ
            state = slice_index event.event.next event.receiver.object.automaton

    tuple_event_says : (u : Tuple) → (is_selecting_kind c.kind ≡ true → Refers w (slot_at (argument_values c.arguments slots) 0)) → (found : Option Event)
        → event_of_call x.property c ≡ found → Describes s u o w (of_slots slots)
        → Results (t.event l n c (of_object u)) (λ g. Says s g o after (of_slots slots))
    tuple_event_says u receives None silent d = by events
      where
        by : HasEvents x (is_selecting_kind c.kind) (record { name = c.name; descriptor = c.descriptor }) (argument_values c.arguments slots) w after
            → Results (t.event l n c (of_object u)) (λ g. Says s g o after (of_slots slots))
        by (unmoved none same_world) =
            subst (λ (y : World). Results (t.event l n c (of_object u)) (λ g. Says s g o y (of_slots slots))) (sym same_world)
            (silent_says l n c (of_object u) w slots equal silent d)
        by (moved event later) =
            absurd (none-some event.event (sym silent ∙ ap (λ (b : Bool). cond b event_found None) event.selecting ∙ event.named))
    tuple_event_says u receives (Some e) is d =
        let choice = chosen (is_selecting_kind c.kind) event_found e is in
        let receiver = receives choice.selecting in
        by choice receiver (cases_eq receiver.place o)
      where
        by : IsChosen (is_selecting_kind c.kind) event_found e → (receiver : Refers w (slot_at (argument_values c.arguments slots) 0))
            → (receiver.place ≡ o) ⊎ (receiver.place ≢ o) → Results (t.event l n c (of_object u)) (λ g. Says s g o after (of_slots slots))
        by choice receiver (inl at) =
            its_says e u receiver.object (receiver_slot c.arguments slots o (receiver.is ∙ ap reference_to at)) choice is receiver at d
        by choice receiver (inr apart) =
            other_says e u receiver.place receiver.object (receiver_slot c.arguments slots receiver.place receiver.is) is receiver.held apart d

  -- the event of a call, before the call itself
  pub event_says : (l : LoweredMethod) (n : Node) (c : NodeCall) (f : SiteFact) (w after : World) (slots : List Value) → AreReachedNodes l → Contains l.nodes n
      → AreEqual l n slots
      → HasEvents x (is_selecting_kind c.kind) (record { name = c.name; descriptor = c.descriptor }) (argument_values c.arguments slots) w after
      → (is_selecting_kind c.kind ≡ true → Refers w (slot_at (argument_values c.arguments slots) 0)) → IsReceiverHeld S l n c w slots → IsObserved x s o w
      → Says s f o w (of_slots slots) → Results (t.event l n c f) (λ g. Says s g o after (of_slots slots))
  event_says l n c none_yet w after slots reached stands equal events receives held observed says =
      idle_event_says l n c w after slots reached stands equal events held observed none_yet tt says
  event_says l n c some_yet w after slots reached stands equal events receives held observed says =
      idle_event_says l n c w after slots reached stands equal events held observed some_yet tt says
  event_says l n c (of_object u) w after slots reached stands equal events receives held observed d =
      tuple_event_says l n c w after slots reached stands equal events held observed u receives (event_of_call x.property c) refl d
