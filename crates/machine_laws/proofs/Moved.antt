-- What the events of a call do to an object, whichever machine the call is of.
use Rattle.std.proofs.Common.{◌≡◌, ◌⊎◌, inl, inr, ℕ, Bool, List, Some, refl, sym, ap, ◌∙◌, subst}
use Rattle.std.specs.List.{slice_get}
use Rattle.std.specs.Prelude.{slice_set, slice_index}
use Rattle.std.proofs.lemmas.Option.{same_Some}
use Rattle.jvm_model.specs.Lookups.{Signature}
use Rattle.machine_bytecode.specs.Events.{IsEvent, HasEvents, moved, unmoved}
use Rattle.machine_bytecode.specs.Objects.{Subject}
use Rattle.machine_bytecode.specs.States.{Value, Object, World, with_automaton}
use Rattle.machine_laws.proofs.Heaps.{Keeps, same_or_not, written_there, not_written}

-- a call with these units is an event of the object at a place, and this is the next state of its automaton
pub record IsMovedOn (x : Subject) (selects : Bool) (c : Signature) (units : List Value) (w : World) (place : ℕ) (o : Object) (next : ℕ) : Type 0 where
  pub event : IsEvent x selects c units w
  pub of_place : event.receiver.place ≡ place
  pub is : next ≡ slice_index event.event.next o.automaton

-- the object is at its place after the call: its automaton is in the same state, or the event moved it
pub record Moves (x : Subject) (selects : Bool) (c : Signature) (units : List Value) (before after : World) (place : ℕ) (o : Object) : Type 0 where
  pub later : Object
  pub held : slice_get after.heap place ≡ Some later
  pub site : later.site ≡ o.site
  pub class : later.class ≡ o.class
  pub automaton : (later.automaton ≡ o.automaton) ⊎ IsMovedOn x selects c units before place o later.automaton

pub moves_by : (x : Subject) (selects : Bool) (c : Signature) (units : List Value) (before after : World) → HasEvents x selects c units before after
    → (place : ℕ) (o : Object) → slice_get before.heap place ≡ Some o → Moves x selects c units before after place o
moves_by x selects c units before after (moved e is) place o held = subst (λ (v : World). Moves x selects c units before v place o) (sym is) (by (same_or_not place e.receiver.place))
  where
    next : ℕ
    next = slice_index e.event.next e.receiver.object.automaton

    object : Object
    object = record { site = e.receiver.object.site; class = e.receiver.object.class; contents = e.receiver.object.contents; automaton = next }

    by : (place ≡ e.receiver.place) ⊎ (place ≡ e.receiver.place → ⊥) → Moves x selects c units before (with_automaton before e.receiver.place e.receiver.object next) place o
    by (inl same) =
        let is_o : e.receiver.object ≡ o = same_Some _ _ (sym e.receiver.held ∙ subst (λ (i : ℕ). slice_get before.heap i ≡ Some o) same held) in
        record {
          later = object;
          held = ap (slice_get (slice_set before.heap e.receiver.place object)) same ∙ written_there before.heap e.receiver.place e.receiver.object object e.receiver.held;
          site = ap (λ (q : Object). q.site) is_o;
          class = ap (λ (q : Object). q.class) is_o;
          automaton = inr (record { event = e; of_place = sym same; is = ap (λ (q : Object). slice_index e.event.next q.automaton) is_o });
        }
    by (inr ne) = record { later = o; held = not_written before.heap e.receiver.place place o object ne held; site = refl; class = refl; automaton = inl refl }
moves_by x selects c units before after (unmoved none is) place o held =
    subst (λ (v : World). Moves x selects c units before v place o) (sym is) (record { later = o; held = held; site = refl; class = refl; automaton = inl refl })

-- what comes after the events leaves each object as it is
pub moved_on : (x : Subject) (selects : Bool) (c : Signature) (units : List Value) (before between after : World) (place : ℕ) (o : Object)
    → Moves x selects c units before between place o → Keeps between after → Moves x selects c units before after place o
moved_on x selects c units before between after place o m keeps =
    let k = keeps.each place m.later m.held in
    record { later = k.later; held = k.held; site = k.site ∙ m.site; class = k.class ∙ m.class; automaton = by m.automaton (k.automaton) }
  where
    by : (m.later.automaton ≡ o.automaton) ⊎ IsMovedOn x selects c units before place o m.later.automaton → (keeps.each place m.later m.held).later.automaton ≡ m.later.automaton
        → ((keeps.each place m.later m.held).later.automaton ≡ o.automaton) ⊎ IsMovedOn x selects c units before place o (keeps.each place m.later m.held).later.automaton
    by (inl e) k = inl (k ∙ e)
    by (inr i) k = inr (subst (λ (q : ℕ). IsMovedOn x selects c units before place o q) (sym k) i)
