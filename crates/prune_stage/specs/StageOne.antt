-- Public contracts rest on this module.
-- The first stage: the order of the events is left out.
use Rattle.std.specs.Prelude.{◌≡◌, ℕ, Bool, true, false, List, [], ◌∷◌, fold, slice_index, All, Contains}
use Rattle.jvm_model.specs.declared.automaton.Automaton.{Automaton}
use Rattle.jvm_model.specs.declared.automaton.Event.{Event}

-- The state to which a word of events leads.
abbrev pub state_after : ℕ → List Event → ℕ
state_after state word = fold (λ q (e : Event). slice_index e.next q) state word

-- A word over these events leads from the initial to the error state.
pub record LeadsToError (a : Automaton) (events word : List Event) : Type 0 where
  pub occur : All (Contains events) word
  pub leads : state_after a.initial word ≡ a.error

-- No word over these events does.
pub record IsSafe (a : Automaton) (events : List Event) : Type 0 where
  pub no_word : (word : List Event) → LeadsToError a events word → ⊥

-- The items with a true beside them.
abbrev pub picked : {X : Type 0} → List Bool → List X → List X
picked [] xs = []
picked (test ∷ tests) [] = []
picked (true ∷ tests) (x ∷ xs) = x ∷ picked tests xs
picked (false ∷ tests) (x ∷ xs) = picked tests xs
