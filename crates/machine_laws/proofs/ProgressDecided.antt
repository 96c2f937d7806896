-- What is decided at a step: whether a number is among others, and whether a call is an event, and so what the world is after its
-- events.
use Rattle.std.proofs.Common.{◌≡◌, ◌⊎◌, inl, inr, ℕ, zero, suc, ◌<◌, Bool, true, false, List, [], ◌∷◌, length, set, get_or, Option, Some, None, refl, sym, ap, ◌∙◌, subst, arith}
use Rattle.std.specs.List.{slice_get, Contains}
use Rattle.std.specs.Prelude.{slice_index}
use Rattle.std.proofs.lemmas.Bool.{false≢true}
use Rattle.std.proofs.lemmas.Option.{same_Some, none-some}
use Rattle.jvm_model.specs.declared.automaton.Event.{Event}
use Rattle.jvm_model.specs.Lookups.{Signature}
use Rattle.jvm_model.specs.Programs.{Program}
use Rattle.jvm_model.specs.Soundness.{is_array}
use Rattle.jvm_model.specs.Subtypes.{IsSubtype, Fits}
use Rattle.machine_bytecode.specs.Events.{event_for, IsEvent, HasEvents, moved, unmoved}
use Rattle.machine_bytecode.specs.Objects.{Subject, Refers}
use Rattle.machine_bytecode.specs.States.{Value, primitive_value, null_value, reference_to, Object, World, slot_at, with_automaton}
use Rattle.machine_laws.proofs.Heaps.{same_or_not, written_there, not_written}

-- ---- what is known to be decided

abbrev pub DecidesSubtypes : Program → Type 0
DecidesSubtypes p = (above name : List ℕ) → IsSubtype p above name ⊎ (IsSubtype p above name → ⊥)

abbrev pub DecidesFits : Program → Type 0
DecidesFits p = (upper lower : List ℕ) → Fits p upper lower ⊎ (Fits p upper lower → ⊥)

-- ---- numbers

next_or : (n : ℕ) (ns : List ℕ) (m : ℕ) → (n ≡ m) ⊎ (n ≡ m → ⊥) → Contains ns m ⊎ (Contains ns m → ⊥) → Contains (n ∷ ns) m ⊎ (Contains (n ∷ ns) m → ⊥)
next_or n ns m (inl e) rest = inl (0, omega arith, e)
next_or n ns m (inr ne) (inl c) = inl (suc c.0, omega (arith, c.1), c.2)
next_or n ns m (inr ne) (inr none) = inr missing where
  at_place : (k : ℕ) → k < length (n ∷ ns) → get_or (n ∷ ns) k m ≡ m → ⊥
  at_place zero l e = ne e
  at_place (suc k) l e = none (k, omega arith, e)

  missing : Contains (n ∷ ns) m → ⊥
  missing c = at_place c.0 c.1 c.2

pub contains_or_not : (ns : List ℕ) (m : ℕ) → Contains ns m ⊎ (Contains ns m → ⊥)
contains_or_not [] m = inr (λ c. absurd (omega (arith, c.1)))
contains_or_not (n ∷ ns) m = next_or n ns m (same_or_not n m) (contains_or_not ns m)

-- ---- references

pub refers_or_not : (w : World) (v : Value) → Refers w v ⊎ (Refers w v → ⊥)
refers_or_not w primitive_value = inr (λ r. let e = r.is in absurd cc)
refers_or_not w null_value = inr (λ r. let e = r.is in absurd cc)
refers_or_not w (reference_to place) = by (slice_get w.heap place) refl where
  by : (o : Option Object) → slice_get w.heap place ≡ o → Refers w (reference_to place) ⊎ (Refers w (reference_to place) → ⊥)
  by (Some object) held = inl (record { place = place; is = refl; object = object; held = held })
  by None none = inr missing where
    missing : Refers w (reference_to place) → ⊥
    missing r =
        let e = r.is in
        let same : place ≡ r.place = cc in
        none-some r.object (sym none ∙ ap (slice_get w.heap) same ∙ r.held)

same_object : (w : World) (v : Value) (r q : Refers w v) → r.object ≡ q.object
same_object w v r q =
    let e = r.is in
    let f = q.is in
    let same : r.place ≡ q.place = cc in
    same_Some r.object q.object (sym r.held ∙ ap (slice_get w.heap) same ∙ q.held)

-- ---- events

of_receiver : (x : Subject) → DecidesSubtypes x.program → (s : Signature) (units : List Value) (w : World) (event : Event) → event_for x.property s ≡ Some event
    → Refers w (slot_at units 0) → IsEvent x true s units w ⊎ (IsEvent x true s units w → ⊥)
of_receiver x decides s units w event named r = by (is_array r.object.class) refl (decides x.property.class_name r.object.class) where
  class_of : (e : IsEvent x true s units w) → e.receiver.object.class ≡ r.object.class
  class_of e = ap (λ (o : Object). o.class) (same_object w (slot_at units 0) e.receiver r)

  by : (b : Bool) → is_array r.object.class ≡ b → IsSubtype x.program x.property.class_name r.object.class ⊎ (IsSubtype x.program x.property.class_name r.object.class → ⊥)
      → IsEvent x true s units w ⊎ (IsEvent x true s units w → ⊥)
  by true is _ = inr (λ e. false≢true (sym e.no_array ∙ ap is_array (class_of e) ∙ is))
  by false is (inl under) = inl (record { selecting = refl; event = event; named = named; receiver = r; no_array = is; observed = under })
  by false is (inr none) = inr (λ e. none (subst (IsSubtype x.program x.property.class_name) (class_of e) e.observed))

of_event : (x : Subject) → DecidesSubtypes x.program → (s : Signature) (units : List Value) (w : World) (o : Option Event) → event_for x.property s ≡ o
    → Refers w (slot_at units 0) ⊎ (Refers w (slot_at units 0) → ⊥) → IsEvent x true s units w ⊎ (IsEvent x true s units w → ⊥)
of_event x decides s units w None none _ = inr (λ e. none-some e.event (sym none ∙ e.named))
of_event x decides s units w (Some event) named (inl r) = of_receiver x decides s units w event named r
of_event x decides s units w (Some event) named (inr none) = inr (λ e. none e.receiver)

pub event_or_not : (x : Subject) → DecidesSubtypes x.program → (selects : Bool) (s : Signature) (units : List Value) (w : World) → IsEvent x selects s units w ⊎ (IsEvent x selects s units w → ⊥)
event_or_not x decides false s units w = inr (λ e. false≢true e.selecting)
event_or_not x decides true s units w = of_event x decides s units w (event_for x.property s) refl (refers_or_not w (slot_at units 0))

-- ---- the world after them

-- each object stays at its place, with its class; and the same are kept
pub record IsAlike (before after : World) : Type 0 where
  pub each : (place : ℕ) (o : Object) → slice_get before.heap place ≡ Some o → (later : Object) × (slice_get after.heap place ≡ Some later) × (later.class ≡ o.class)
  pub kept : after.kept ≡ before.kept

pub record AfterEvents (x : Subject) (selects : Bool) (s : Signature) (units : List Value) (before : World) : Type 0 where
  pub world : World
  pub events : HasEvents x selects s units before world
  pub alike : IsAlike before world

moved_alike : (w : World) (v : Value) (r : Refers w v) (state : ℕ) → IsAlike w (with_automaton w r.place r.object state)
moved_alike w v r state = record { each = λ place o held. by place o held (same_or_not place r.place); kept = refl }
  where
    changed : Object
    changed = record { site = r.object.site; class = r.object.class; contents = r.object.contents; automaton = state }

    by : (place : ℕ) (o : Object) → slice_get w.heap place ≡ Some o → (place ≡ r.place) ⊎ (place ≡ r.place → ⊥)
        → (later : Object) × (slice_get (set w.heap r.place changed) place ≡ Some later) × (later.class ≡ o.class)
    by place o held (inl same) =
        let is_o : r.object ≡ o = same_Some r.object o (sym r.held ∙ ap (slice_get w.heap) (sym same) ∙ held) in
        (changed, ap (slice_get (set w.heap r.place changed)) same ∙ written_there w.heap r.place r.object changed r.held, ap (λ (q : Object). q.class) is_o)
    by place o held (inr ne) = (o, not_written w.heap r.place place o changed ne held, refl)

pub after_events : (x : Subject) → DecidesSubtypes x.program → (selects : Bool) (s : Signature) (units : List Value) (w : World) → AfterEvents x selects s units w
after_events x decides selects s units w = by (event_or_not x decides selects s units w) where
  by : IsEvent x selects s units w ⊎ (IsEvent x selects s units w → ⊥) → AfterEvents x selects s units w
  by (inl e) = record { world = _; events = moved e refl; alike = moved_alike w (slot_at units 0) e.receiver (slice_index e.event.next e.receiver.object.automaton) }
  by (inr none) = record { world = w; events = unmoved none refl; alike = record { each = λ place o held. (o, held, refl); kept = refl } }
