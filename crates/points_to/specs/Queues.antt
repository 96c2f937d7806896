-- Public contracts rest on this module.
-- The work list: its pairs by rows, its other items, and how many of these are done. What is among its items, what it takes in, and how it ends.
use Rattle.std.specs.Prelude.{◌≡◌, ◌↔◌, ◌⊎◌, ℕ, ◌+◌, ◌≤◌, ◌^◌, List, ◌++◌, length, take, sum_by, Contains}
use Rattle.failure.specs.declared.Failure.{Failure}
use Rattle.failure.specs.declared.Failure.TheVariants.{Cause, OutOfMemory}
use Rattle.bit_rows.specs.Sets.{IsIn}
use Rattle.least_sets.specs.Rules.{IsWithoutDoubles}
use Rattle.points_to_numbers.specs.declared.item.Item.{Item}
use Rattle.points_to_numbers.specs.declared.item.Item.TheVariants.{Holds, Runs, Calls, Constrains}
use Rattle.points_to_rules.specs.declared.solve_fault.SolveFault.{SolveFault}
use Rattle.points_to_rules.specs.declared.solve_fault.SolveFault.TheVariants.{PairLimit, Refused, TooMany}
use Rattle.site_rows.specs.declared.row.SiteRow.{SiteRow}
use Rattle.site_rows.specs.Rows.{fresh_at, held_at, pairs_in}
use Rattle.site_rows.specs.Listed.{listed}
use Rattle.site_rows.specs.Sound.{AreSound}
use Rattle.points_to.specs.declared.queue.Queue.{Queue}

-- 1 for a pair, and 0 for another item.
abbrev pub weight_of : Item → ℕ
weight_of (Holds place site) = 1
weight_of (Runs method) = 0
weight_of (Calls call target) = 0
weight_of (Constrains place constraint) = 0

-- How many pairs are among the items.
abbrev pub pairs_among : List Item → ℕ
pairs_among items = sum_by weight_of items

-- ---- which items there are

-- The rows, the items that are no pairs, and how many of these are done.
pub record State : Type 0 where
  pub rows : List SiteRow
  pub others : List Item
  pub done : ℕ

-- Those of a work list.
abbrev pub state_of : Queue → State
state_of q = record { rows = q.rows.rows.items; others = q.others.keys; done = q.done }

-- The item of a place and a site.
abbrev pub pair_item : ℕ → ℕ → Item
pair_item place site = Holds (record { 0 = place }) (record { 0 = site })

-- The items of a work list: those for the pairs of its rows, and the others.
abbrev pub items_of : Queue → List Item
items_of q = listed pair_item q.rows.rows.items ++ q.others.keys

-- A site of a place is not fresh: it is passed on.
pub record HasPassed (rows : List SiteRow) (place site : ℕ) : Type 0 where
  pub held : IsIn (held_at rows place) site
  pub passed : IsIn (fresh_at rows place) site → ⊥

-- The item is there: a pair in the rows, another item among the others.
abbrev pub IsAmong : State → Item → Type 0
IsAmong s (Holds place site) = IsIn (held_at s.rows place.0) site.0
IsAmong s (Runs method) = Contains s.others (Runs method)
IsAmong s (Calls call target) = Contains s.others (Calls call target)
IsAmong s (Constrains place constraint) = Contains s.others (Constrains place constraint)

pub record IsHeld (s : State) (i : Item) : Type 0 where
  pub there : IsAmong s i

-- The item is done: a pair is passed on, another item is one of the first ones.
abbrev pub IsAmongDone : State → Item → Type 0
IsAmongDone s (Holds place site) = HasPassed s.rows place.0 site.0
IsAmongDone s (Runs method) = Contains (take s.done s.others) (Runs method)
IsAmongDone s (Calls call target) = Contains (take s.done s.others) (Calls call target)
IsAmongDone s (Constrains place constraint) = Contains (take s.done s.others) (Constrains place constraint)

pub record IsDone (s : State) (i : Item) : Type 0 where
  pub there : IsAmongDone s i

-- The item is no pair.
abbrev pub IsOther : Item → Type 0
IsOther (Holds place site) = ⊥
IsOther (Runs method) = Unit {0}
IsOther (Calls call target) = Unit {0}
IsOther (Constrains place constraint) = Unit {0}

-- The rows are sound, and the other items are no pairs, each once.
pub record IsSound (q : Queue) : Type 0 where
  pub rows : AreSound q.rows
  pub apart : IsWithoutDoubles q.others.keys
  pub unpaired : (i : Item) → Contains q.others.keys i → IsOther i
  pub within : q.done ≤ length q.others.keys

-- How many pairs are passed on, and other items done.
abbrev pub turns_of : Queue → ℕ
turns_of q = q.rows.passed + q.done

-- ---- what is taken in

-- The items stay, what comes besides is among the steps, and no item is done by that.
pub record Takes (old : State) (steps : List Item) (new : State) : Type 0 where
  pub kept : (i : Item) → IsHeld old i → IsHeld new i
  pub only : (i : Item) → IsHeld new i → IsHeld old i ⊎ Contains steps i
  pub done : (i : Item) → IsDone new i ↔ IsDone old i

-- The pairs reached the limit by some of the steps; or there are as many other items as have numbers; or memory ran out.
abbrev pub IsQueueEnd : State → (steps : List Item) → State → (limit : ℕ) → Failure SolveFault → Type 0
IsQueueEnd old steps new limit (Cause (PairLimit n)) = (n ≡ limit) × (limit ≤ pairs_in new.rows) × Takes old steps new
IsQueueEnd old steps new limit (Cause (Refused r)) = ⊥
IsQueueEnd old steps new limit (Cause TooMany) = 2 ^ 32 ≤ length new.others + 2
IsQueueEnd old steps new limit OutOfMemory = Unit {0}
