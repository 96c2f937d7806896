-- Public contracts rest on this module.
-- The pairs of rows as a list: place by place, the sites of each in ascending order.
use Rattle.std.specs.Prelude.{ℕ, suc, List, [], ◌∷◌, ◌++◌, map}
use Rattle.bit_rows.specs.Sets.{numbers_of}
use Rattle.site_rows.specs.declared.row.SiteRow.{SiteRow}

-- What stands for the pairs of rows, the first of which is that of this place.
unfoldable pub listed_from : {X : Type 0} → (ℕ → ℕ → X) → ℕ → List SiteRow → List X
listed_from pair place [] = []
listed_from pair place (row ∷ rows) = map (pair place) (numbers_of row.held) ++ listed_from pair (suc place) rows

-- What stands for the pairs of rows.
abbrev pub listed : {X : Type 0} → (ℕ → ℕ → X) → List SiteRow → List X
listed pair rows = listed_from pair 0 rows
