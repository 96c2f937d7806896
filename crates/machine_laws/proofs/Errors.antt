-- The error state is not left.
use Rattle.std.proofs.Common.{◌≡◌, ◌⊎◌, inl, inr, ℕ, suc, Bool, true, false, List, [], ◌∷◌, Some, ap, ◌∙◌, arith}
use Rattle.std.specs.List.{slice_get, Contains, find}
use Rattle.std.specs.Prelude.{slice_index, cond}
use Rattle.std.proofs.lemmas.List.Elements.{All-contains}
use Rattle.std.proofs.lemmas.Option.{get_or_from_slice_get, same_Some, none-some}
use Rattle.jvm_model.specs.Automata.{IsAutomaton, IsEvent as IsEventOf}
use Rattle.jvm_model.specs.Lookups.{Signature}
use Rattle.machine_bytecode.specs.Machine.{Step}
use Rattle.machine_bytecode.specs.Objects.{Subject}
use Rattle.machine_bytecode.specs.States.{Value, Object, World, State}
use Rattle.machine_laws.specs.Survival.{IsMovedBy, Survives}
use Rattle.machine_laws.proofs.Moved.{IsMovedOn}
use Rattle.machine_laws.proofs.Steps.{objects_survive}

-- what is found is among the list
found_among : {X : Type 0} (f : X → Bool) (xs : List X) (v : X) → find f xs ≡ Some v → Contains xs v
found_among f [] v e = absurd (none-some v e)
found_among {X} f (y ∷ ys) v e = by (f y) (found_among f ys v) e where
  by : (b : Bool) → (find f ys ≡ Some v → Contains ys v) → cond b (Some y) (find f ys) ≡ Some v → Contains (y ∷ ys) v
  by true deeper e = (0, omega arith, same_Some y v e)
  by false deeper e = let rest = deeper e in (suc rest.0, omega (arith, rest.1), rest.2)

-- an event leads from the error state to itself
pub error_stays : (x : Subject) → IsAutomaton x.property → (selects : Bool) (c : Signature) (units : List Value) (w : World) (place : ℕ) (o : Object) (next : ℕ)
    → IsMovedOn x selects c units w place o next → o.automaton ≡ x.property.error → next ≡ x.property.error
error_stays x automaton selects c units w place o next m error =
    let among : Contains x.property.events m.event.event = found_among _ x.property.events m.event.event m.event.named in
    let is = All-contains (IsEventOf _ _) x.property.events m.event.event automaton.events among in
    m.is ∙ ap (slice_index m.event.event.next) error ∙ get_or_from_slice_get m.event.event.next x.property.error x.property.error _ is.error_stays

pub errors_stay : (x : Subject) → IsAutomaton x.property → (s t : State) → Step x s t → (place : ℕ) (o : Object) → slice_get s.world.heap place ≡ Some o → o.automaton ≡ x.property.error
    → (later : Object) × (slice_get t.world.heap place ≡ Some later) × (later.automaton ≡ x.property.error)
errors_stay x automaton s t step place o held error = by (objects_survive x s t step place o held)
  where
    by : Survives x s t place o → (later : Object) × (slice_get t.world.heap place ≡ Some later) × (later.automaton ≡ x.property.error)
    by h = of h.automaton where
      of : (h.later.automaton ≡ o.automaton) ⊎ IsMovedBy x s place o h.later.automaton → (later : Object) × (slice_get t.world.heap place ≡ Some later) × (later.automaton ≡ x.property.error)
      of (inl same) = (h.later, h.held, same ∙ error)
      of (inr m) = (h.later, h.held, error_stays x automaton _ _ _ s.world place o h.later.automaton (record { event = m.event; of_place = m.of_place; is = m.is }) error)
