-- This crate's own proofs alone rest on this module.
-- How the sites of rows are added to lists of sites by place.
use Rattle.std.specs.Prelude.{◌≡◌, ◌↔◌, ◌⊎◌, ℕ, ◌<◌, List, Contains}
use Rattle.std.specs.declared.alloc.Global.{Global}
use Rattle.std.specs.declared.vec.Vec.{Vec}
use Rattle.jvm_model.specs.declared.number.SiteNo.{SiteNo}
use Rattle.bit_rows.specs.declared.set.NumberSet.{NumberSet}
use Rattle.bit_rows.specs.Sets.{IsIn}
use Rattle.grouped_lists.specs.Groups.{values_at}
use Rattle.site_rows.specs.declared.row.SiteRow.{SiteRow}
use Rattle.site_rows.specs.Rows.{held_at}

abbrev pub SiteGroups : Type 0
SiteGroups = List (Vec SiteNo Global)

-- The place got the sites of the set that are below the number.
pub record AddsSitesBelow (set : NumberSet) (place low : ℕ) (old new : SiteGroups) : Type 0 where
  pub each : (q : ℕ) (site : SiteNo) → Contains (values_at new q) site ↔ (Contains (values_at old q) site ⊎ ((q ≡ place) × IsIn set site.0 × (site.0 < low)))

-- It got all of them.
pub record AddsSites (set : NumberSet) (place : ℕ) (old new : SiteGroups) : Type 0 where
  pub each : (q : ℕ) (site : SiteNo) → Contains (values_at new q) site ↔ (Contains (values_at old q) site ⊎ ((q ≡ place) × IsIn set site.0))

-- Each place below the number got the sites of its row.
pub record AddsRowsBelow (rows : List SiteRow) (count : ℕ) (old new : SiteGroups) : Type 0 where
  pub each : (q : ℕ) (site : SiteNo) → Contains (values_at new q) site ↔ (Contains (values_at old q) site ⊎ ((q < count) × IsIn (held_at rows q) site.0))

-- Each place did.
pub record AddsRows (rows : List SiteRow) (old new : SiteGroups) : Type 0 where
  pub each : (q : ℕ) (site : SiteNo) → Contains (values_at new q) site ↔ (Contains (values_at old q) site ⊎ IsIn (held_at rows q) site.0)
