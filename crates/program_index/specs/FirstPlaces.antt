-- Public contracts rest on this module.
-- The first place of an item in a list that may have it more than once.
use Rattle.std.specs.Prelude.{◌≡◌, ◌≢◌, ℕ, ◌<◌, List, Some, slice_get}

-- the item stands at this place, and at none before it
pub record IsFirstPlace {X : Type 0} (items : List X) (item : X) (place : ℕ) : Type 0 where
  pub stands : slice_get items place ≡ Some item
  pub before : (i : ℕ) → i < place → slice_get items i ≢ Some item

-- the item stands at no place
pub record StandsNowhere {X : Type 0} (items : List X) (item : X) : Type 0 where
  pub nowhere : (i : ℕ) → slice_get items i ≢ Some item
