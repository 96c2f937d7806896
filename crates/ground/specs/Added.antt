-- Public contracts rest on this module.
-- What is added to a list without regard to order.
use Rattle.std.specs.Prelude.{◌↔◌, ◌⊎◌, List, Contains}

-- The list has what it had, and what has the property.
pub record AreAdded {X : Type 0} (P : X → Type 0) (old new : List X) : Type 0 where
  pub each : (x : X) → Contains new x ↔ (Contains old x ⊎ P x)

-- Something in the list has the relation to it.
abbrev pub OfOne : {X Y : Type 0} → (X → Y → Type 0) → List X → Y → Type 0
OfOne {X} R xs y = (x : X) × Contains xs x × R x y
