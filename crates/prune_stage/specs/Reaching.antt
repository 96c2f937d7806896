-- Only the proofs of this crate rest on this module.
-- The states that a search has reached, one answer for each state, and what an event adds to them.
use Rattle.std.specs.Prelude.{◌≡◌, ℕ, ◌<◌, Bool, true, false, List, length, Some, slice_get, All}
use Rattle.jvm_model.specs.declared.automaton.Event.{Event}

-- The event leads from a state that is reached to one that is not.
pub record AddsState (reached : List Bool) (e : Event) (state : ℕ) : Type 0 where
  pub from : ℕ
  pub before : slice_get reached from ≡ Some true
  pub leads : slice_get e.next from ≡ Some state
  pub fresh : slice_get reached state ≡ Some false

-- The event leads from states that are reached to such states alone.
pub record AddsNothing (reached : List Bool) (e : Event) : Type 0 where
  pub stays : (from state : ℕ) → slice_get reached from ≡ Some true → slice_get e.next from ≡ Some state → slice_get reached state ≡ Some true

-- The event stands among the events, with a true beside it.
pub record IsPicked (occurs : List Bool) (events : List Event) (e : Event) : Type 0 where
  pub place : ℕ
  pub stands : slice_get events place ≡ Some e
  pub is_true : slice_get occurs place ≡ Some true

-- Each event has a next state below the limit for each of at most so many states.
pub record IsWithin (limit : ℕ) (e : Event) : Type 0 where
  pub total : (from : ℕ) → from < length e.next → from < limit
  pub inside : All (λ q. q < limit) e.next

-- An event that is picked leads to the state from one that is reached.
pub record FindsState (occurs : List Bool) (events : List Event) (reached : List Bool) (state : ℕ) : Type 0 where
  pub event : Event
  pub picked : IsPicked occurs events event
  pub adds : AddsState reached event state

-- No event that is picked adds a state.
pub record FindsNothing (occurs : List Bool) (events : List Event) (reached : List Bool) : Type 0 where
  pub none : (e : Event) → IsPicked occurs events e → AddsNothing reached e
