-- This crate's own proofs alone rest on this module.
-- Arrays that hold one another.
use Rattle.std.specs.Prelude.{◌≡◌, ℕ, ◌+◌, List, Some, slice_get}
use Rattle.jvm_model.specs.declared.site.Site.{Site}
use Rattle.points_to_constraints.specs.Items.{Item, known}
use Rattle.points_to_rules.specs.Facts.{elements_of, may_hold}

-- The arrays of the site at the place hold those of the next one.
abbrev pub NestsAt : List Site → ℕ → Item → Type 0
NestsAt sites i x =
    (outer inner : Site) × (slice_get sites i ≡ Some outer) × (slice_get sites (i + 1) ≡ Some inner) × (x ≡ known (may_hold (elements_of outer) inner))
