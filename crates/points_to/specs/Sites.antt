-- This crate's own proofs alone rest on this module.
-- How the sites of a set come to be listed, from the lowest one on.
use Rattle.std.specs.Prelude.{◌≡◌, ◌↔◌, ℕ, ◌<◌, List, ◌∷◌, ◌++◌, [], Contains}
use Rattle.bit_rows.specs.declared.set.NumberSet.{NumberSet}
use Rattle.bit_rows.specs.Sets.{IsIn}
use Rattle.jvm_model.specs.declared.number.SiteNo.{SiteNo}

-- The site is in the one set and not in the other one.
pub record IsListed (set except : NumberSet) (site : ℕ) : Type 0 where
  pub held : IsIn set site
  pub passed : IsIn except site → ⊥

-- The list has the sites below the number that are in the one set and not in the other one.
pub record AreListedBelow (set except : NumberSet) (low : ℕ) (sites : List SiteNo) : Type 0 where
  pub each : (site : SiteNo) → Contains sites site ↔ (IsListed set except site.0 × (site.0 < low))

-- The list has them all.
pub record AreListed (set except : NumberSet) (sites : List SiteNo) : Type 0 where
  pub each : (site : SiteNo) → Contains sites site ↔ IsListed set except site.0

-- The site was added to the list, if it is not in the set.
pub record IsPushed (old : List SiteNo) (except : NumberSet) (number : ℕ) (new : List SiteNo) : Type 0 where
  pub is_new : (IsIn except number → ⊥) → new ≡ old ++ record { 0 = number } ∷ []
  pub is_old : IsIn except number → new ≡ old
