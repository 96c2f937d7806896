-- Only the proofs of this crate rest on this module.
-- Handlers that may not be caught yet, by the offsets that they cover, level by level (JVMS 2.10, 4.7.3).
use Rattle.std.specs.Prelude.{◌≡◌, ◌⊎◌, ℕ, ◌+◌, ◌/◌, ◌%◌, ◌<◌, ◌≤◌, true, List, [], ◌∷◌, ◌++◌, length, option_map, unwrap_or, slice_get, Contains}
use Rattle.std.specs.Global.{Vec}
use Rattle.jvm_model.specs.declared.code.Handler.{Handler}
use Rattle.flow_graph.specs.declared.uncaught.Level.{Level}
use Rattle.flow_graph.specs.declared.uncaught.Range.{Range}
use Rattle.flow_graph.specs.Flows.{covers, caught_at}

-- One of the ranges has the offset, and its handler begins at this target.
pub record IsInRange (ranges : List Range) (offset target : ℕ) : Type 0 where
  pub range : Range
  pub among : Contains ranges range
  pub from : range.from ≤ offset
  pub to : offset < range.to
  pub begins : range.target ≡ target

-- What a level lists at an offset.
abbrev pub listed_at : Level → ℕ → List ℕ
listed_at level offset = unwrap_or (option_map (λ (list : Vec ℕ). list.items) (slice_get level.lists.items offset)) []

-- What all levels list at an offset: at each level two neighbours of the one before are one.
abbrev pub held : List Level → ℕ → List ℕ
held [] offset = []
held (level ∷ levels) offset = listed_at level offset ++ held levels (offset / 2)

-- The handlers that cover an offset are listed there, and no others.
pub record Holds (handlers : List Handler) (levels : List Level) : Type 0 where
  pub all : (h : Handler) (offset : ℕ) → Contains handlers h → covers offset h ≡ true → Contains (held levels offset) h.target
  pub only : (offset target : ℕ) → Contains (held levels offset) target → Contains (caught_at handlers offset) target

-- What was listed at an offset was taken; what was listed elsewhere is there still, or was taken.
pub record TakesOut (offset : ℕ) (old new : List Level) : Type 0 where
  pub kept : (o target : ℕ) → Contains (held old o) target → Contains (held new o) target ⊎ Contains (held old offset) target
  pub fewer : (o target : ℕ) → Contains (held new o) target → Contains (held old o) target

-- ---- how the levels are made

-- What a handler covers.
abbrev pub range_of : Handler → Range
range_of h = record { from = h.start; to = h.finish; target = h.target }

-- The pairs of neighbours that are both in a range, as a range of the next level.
abbrev pub halved : Range → Range
halved range = record { from = range.from / 2 + range.from % 2; to = range.to / 2; target = range.target }

-- The first offset of a range, where its neighbour is not in the range.
pub record IsFirstAlone (range : Range) (offset target : ℕ) : Type 0 where
  pub some : range.from < range.to
  pub odd : range.from % 2 ≡ 1
  pub first : offset ≡ range.from
  pub begins : range.target ≡ target

-- The last offset of a range, where its neighbour is not in the range.
pub record IsLastAlone (range : Range) (offset target : ℕ) : Type 0 where
  pub some : range.from < range.to
  pub odd : range.to % 2 ≡ 1
  pub last : offset + 1 ≡ range.to
  pub begins : range.target ≡ target

-- Such an offset of one of the ranges, and where its handler begins.
pub record IsAlone (ranges : List Range) (offset target : ℕ) : Type 0 where
  pub range : Range
  pub among : Contains ranges range
  pub alone : IsFirstAlone range offset target ⊎ IsLastAlone range offset target

-- A level lists these targets too, and no others are new. It has as many lists as it had.
pub record ListsMore (IsNew : ℕ → ℕ → Type 0) (old new : Level) : Type 0 where
  pub count : length new.lists.items ≡ length old.lists.items
  pub kept : (offset target : ℕ) → Contains (listed_at old offset) target → Contains (listed_at new offset) target
  pub more : (offset target : ℕ) → IsNew offset target → Contains (listed_at new offset) target
  pub only : (offset target : ℕ) → Contains (listed_at new offset) target → Contains (listed_at old offset) target ⊎ IsNew offset target

-- So many lists, with nothing in them.
pub record IsBare (count : ℕ) (level : Level) : Type 0 where
  pub all : length level.lists.items ≡ count
  pub none : (offset : ℕ) → listed_at level offset ≡ []

-- The targets of the ranges are listed at their offsets, and no others.
pub record HoldsRanges (ranges : List Range) (levels : List Level) : Type 0 where
  pub all : (offset target : ℕ) → IsInRange ranges offset target → Contains (held levels offset) target
  pub only : (offset target : ℕ) → Contains (held levels offset) target → IsInRange ranges offset target

-- Levels for the ranges were added.
pub record AddsLevels (ranges : List Range) (old new : List Level) : Type 0 where
  pub added : List Level
  pub new_is : new ≡ old ++ added
  pub holds : HoldsRanges ranges added

-- ---- how they are taken from

-- What a level listed at an offset is listed there no more; all else is where it was.
pub record TakesListed (offset : ℕ) (old new : Level) : Type 0 where
  pub gone : listed_at new offset ≡ []
  pub kept : (o target : ℕ) → Contains (listed_at old o) target → Contains (listed_at new o) target ⊎ Contains (listed_at old offset) target
  pub fewer : (o target : ℕ) → Contains (listed_at new o) target → Contains (listed_at old o) target
