-- Public contracts rest on this module.
-- Rows by the numbers of their places: which sites a place has, and which of them are fresh, that is, not passed on yet; and how many there are.
use Rattle.std.specs.Prelude.{◌≡◌, ℕ, ◌+◌, List, [], length, Option, Some, None, slice_get, sum_by, Contains}
use Rattle.bit_rows.specs.declared.set.NumberSet.{NumberSet}
use Rattle.bit_rows.specs.declared.set.NumberSet.TheVariants.{Empty}
use Rattle.bit_rows.specs.Sets.{HasMore, IsNew, numbers_of}
use Rattle.site_rows.specs.declared.row.SiteRow.{SiteRow}

-- The sites of a row, and the fresh ones of them. Where there is no row, there are none.
abbrev pub held_in : Option SiteRow → NumberSet
held_in None = Empty
held_in (Some row) = row.held

abbrev pub fresh_in : Option SiteRow → NumberSet
fresh_in None = Empty
fresh_in (Some row) = row.fresh

-- The sites of a place, and the fresh ones of them.
abbrev pub held_at : List SiteRow → ℕ → NumberSet
held_at rows place = held_in (slice_get rows place)

abbrev pub fresh_at : List SiteRow → ℕ → NumberSet
fresh_at rows place = fresh_in (slice_get rows place)

-- How many sites a row has, and how many of them are fresh.
abbrev pub held_count : SiteRow → ℕ
held_count row = length (numbers_of row.held)

abbrev pub fresh_count : SiteRow → ℕ
fresh_count row = length (numbers_of row.fresh)

-- How many pairs there are in rows, and how many of them are fresh.
abbrev pub pairs_in : List SiteRow → ℕ
pairs_in rows = sum_by held_count rows

abbrev pub fresh_among : List SiteRow → ℕ
fresh_among rows = sum_by fresh_count rows

-- ---- one after another

-- Each place got the sites with P, and no others; and those of them that are new are fresh.
pub record Gains (old new : List SiteRow) (P : ℕ → ℕ → Type 0) : Type 0 where
  pub held : (place : ℕ) → HasMore (held_at old place) (held_at new place) (P place)
  pub fresh : (place : ℕ) → HasMore (fresh_at old place) (fresh_at new place) (IsNew (held_at old place) (P place))

-- Each place has the sites that it had, and the same fresh ones.
pub record HasSameRows (old new : List SiteRow) : Type 0 where
  pub held : (place : ℕ) → held_at new place ≡ held_at old place
  pub fresh : (place : ℕ) → fresh_at new place ≡ fresh_at old place
  pub pairs : pairs_in new ≡ pairs_in old
  pub fresh_ones : fresh_among new ≡ fresh_among old

-- Each place has the sites that it had, and the same fresh ones, but for this place, which has none that are fresh.
pub record PassesOn (old new : List SiteRow) (place : ℕ) : Type 0 where
  pub held : (q : ℕ) → held_at new q ≡ held_at old q
  pub gone : fresh_at new place ≡ Empty
  pub fresh : (q : ℕ) → (q ≡ place → ⊥) → fresh_at new q ≡ fresh_at old q
  pub pairs : pairs_in new ≡ pairs_in old
  pub fresh_ones : fresh_among new + length (numbers_of (fresh_at old place)) ≡ fresh_among old

-- ---- places that wait

-- Each place with fresh sites waits.
pub record AreWaiting (rows : List SiteRow) (waiting : List ℕ) : Type 0 where
  pub each : (place : ℕ) → (fresh_at rows place ≡ Empty → ⊥) → Contains waiting place

-- No place has a fresh site.
pub record AreIdle (rows : List SiteRow) : Type 0 where
  pub none : (place : ℕ) → fresh_at rows place ≡ Empty

-- The place has fresh sites, and each other place with fresh sites waits.
pub record IsNextPlace (rows : List SiteRow) (waiting : List ℕ) (place : ℕ) : Type 0 where
  pub some : numbers_of (fresh_at rows place) ≡ [] → ⊥
  pub others : (q : ℕ) → (q ≡ place → ⊥) → (fresh_at rows q ≡ Empty → ⊥) → Contains waiting q
