-- This crate's own proofs alone rest on this module.
-- What is done at one turn of the loop: all sites of a place that are fresh, or one other item.
use Rattle.std.specs.Prelude.{◌≡◌, ◌↔◌, ◌⊎◌, ◌<◌}
use Rattle.bit_rows.specs.Sets.{IsIn}
use Rattle.points_to_numbers.specs.declared.item.Item.{Item}
use Rattle.points_to_numbers.specs.declared.item.Item.TheVariants.{Holds, Runs, Calls, Constrains}
use Rattle.points_to.specs.declared.queue.Queue.{Queue}
use Rattle.points_to.specs.declared.queue.Turn.{Turn}
use Rattle.points_to.specs.declared.queue.Turn.TheVariants.{Sites, One}
use Rattle.points_to.specs.Queues.{IsDone, IsHeld, pair_item, state_of, turns_of}

-- The item is one of the turn.
abbrev pub IsInTurn : Turn → Item → Type 0
IsInTurn (Sites fresh) (Holds place site) = (place.0 ≡ fresh.place) × IsIn fresh.sites site.0
IsInTurn (Sites fresh) (Runs method) = ⊥
IsInTurn (Sites fresh) (Calls call target) = ⊥
IsInTurn (Sites fresh) (Constrains place constraint) = ⊥
IsInTurn (One item) i = i ≡ item

-- An item of the same kind as those of the turn: the one, or a pair.
abbrev pub kind_of : Turn → Item
kind_of (Sites fresh) = pair_item fresh.place 0
kind_of (One item) = item

-- The items stay. Those of the turn, which were not done, are done besides the old ones; there is at least one.
pub record IsNext (old new : Queue) (turn : Turn) : Type 0 where
  pub held : (i : Item) → IsHeld (state_of new) i ↔ IsHeld (state_of old) i
  pub still : (i : Item) → IsDone (state_of old) i → IsDone (state_of new) i
  pub split : (i : Item) → IsDone (state_of new) i → IsDone (state_of old) i ⊎ IsInTurn turn i
  pub now : (i : Item) → IsInTurn turn i → IsDone (state_of new) i
  pub fresh : (i : Item) → IsInTurn turn i → IsDone (state_of old) i → ⊥
  pub more : turns_of old < turns_of new

-- All is done, and as it was.
pub record AreAllDone (old new : Queue) : Type 0 where
  pub same : state_of new ≡ state_of old
  pub all : (i : Item) → IsHeld (state_of new) i → IsDone (state_of new) i
