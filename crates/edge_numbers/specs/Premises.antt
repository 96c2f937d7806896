-- Public contracts rest on this module.
-- From which edges of a list one follows, by their places.
use Rattle.std.specs.Prelude.{◌≡◌, ℕ, List, [], ◌∷◌, Option, None, Some, length, map, slice_get, take}
use Rattle.edge_numbers.specs.declared.because.Because.{Because}
use Rattle.edge_numbers.specs.declared.because.Because.TheVariants.{Start, One, Two}
use Rattle.edge_numbers.specs.declared.because.EdgeNo.{EdgeNo}

-- The numbers that are named.
abbrev pub premises : Because → List ℕ
premises Start = []
premises (One e) = e.0 ∷ []
premises (Two caller exit) = caller.0 ∷ exit.0 ∷ []

-- The exit, if there is one.
abbrev pub others : Option EdgeNo → List ℕ
others None = []
others (Some e) = e.0 ∷ []

-- These stand at the places of the list.
abbrev pub StandAt : {F : Type 0} → List F → List ℕ → List F → Type 0
StandAt {F} facts places these = map (slice_get facts) places ≡ map (λ (fact : F). Some fact) these

-- By one instance the fact follows from those at the places.
pub record FollowsFrom {F : Type 0} (Instance : List F → F → Type 0) (facts : List F) (places : List ℕ) (fact : F) : Type 0 where
  pub premises : List F
  pub instance : Instance premises fact
  pub stand : StandAt facts places premises

-- There is a reason for each fact: by one instance it follows from those that are named, which stand before it.
pub record AreReasons {F : Type 0} (Instance : List F → F → Type 0) (facts : List F) (reasons : List (List ℕ)) : Type 0 where
  pub count : length reasons ≡ length facts
  pub each : (k : ℕ) (fact : F) (reason : List ℕ) → slice_get facts k ≡ Some fact → slice_get reasons k ≡ Some reason → FollowsFrom Instance (take k facts) reason fact
