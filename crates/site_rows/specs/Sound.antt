-- Public contracts rest on this module.
-- What holds of rows between two turns, and what one turn takes.
use Rattle.std.specs.Prelude.{◌≡◌, ℕ, ◌+◌, ◌<◌, List}
use Rattle.bit_rows.specs.Sets.{IsIn}
use Rattle.site_rows.specs.declared.row.SiteRow.{SiteRow}
use Rattle.site_rows.specs.declared.rows.SiteRows.{SiteRows}
use Rattle.site_rows.specs.declared.rows.FreshSites.{FreshSites}
use Rattle.site_rows.specs.Rows.{AreIdle, AreWaiting, PassesOn, fresh_among, fresh_at, held_at, pairs_in}

-- Fresh sites are among the sites of their place.
pub record AreWithin (rows : List SiteRow) : Type 0 where
  pub each : (place site : ℕ) → IsIn (fresh_at rows place) site → IsIn (held_at rows place) site

-- The pairs are counted: all of them, and those that are passed on. Fresh sites are among the sites of their places, and these places wait.
pub record AreSound (s : SiteRows) : Type 0 where
  pub counted : s.pairs ≡ pairs_in s.rows.items
  pub passed : s.passed + fresh_among s.rows.items ≡ pairs_in s.rows.items
  pub within : AreWithin s.rows.items
  pub waiting : AreWaiting s.rows.items s.waiting.items

-- Nothing is fresh, and the rows are as they were.
pub record IsDone (old new : SiteRows) : Type 0 where
  pub idle : AreIdle new.rows.items
  pub rows : new.rows.items ≡ old.rows.items

-- The fresh sites of the place were taken, which are passed on then. There was at least one of them.
pub record IsTaken (old new : SiteRows) (taken : FreshSites) : Type 0 where
  pub sites : taken.sites ≡ fresh_at old.rows.items taken.place
  pub passes : PassesOn old.rows.items new.rows.items taken.place
  pub more : old.passed < new.passed
