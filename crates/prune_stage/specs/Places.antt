-- Public contracts rest on this module.
-- The places of sites among those that are tracked.
use Rattle.std.specs.Prelude.{◌≡◌, ◌↔◌, ℕ, ◌<◌, List, Option, Some, slice_get}
use Rattle.jvm_model.specs.declared.number.SiteNo.{SiteNo}
use Rattle.jvm_model.specs.declared.site.Site.{Site}
use Rattle.jvm_model.specs.Programs.{Program}
use Rattle.program_model.specs.Numbers.{IsClassNumber}
use Rattle.site_report.specs.declared.tracked_site.TrackedSite.{TrackedSite}
use Rattle.site_report.specs.Sites.{site_in}

-- The answer is the only tracked site with a class of the program that is this one, or there is none.
pub record IsTracking (p : Program) (s : Site) (answer : Option TrackedSite) : Type 0 where
  pub known : (t : TrackedSite) → answer ≡ Some t → IsClassNumber p t.class.0 × (site_in p t ≡ s)
  pub only : (t : TrackedSite) → IsClassNumber p t.class.0 → site_in p t ≡ s → answer ≡ Some t

-- The site stands at the place, in the one list of tracked sites.
abbrev pub StandsIn : Program → List TrackedSite → Site → (place : ℕ) → Type 0
StandsIn p sites s place = (t : TrackedSite) × (slice_get sites place ≡ Some t) × (site_in p t ≡ s)

-- The answer is the only place at which the site stands, or there is none.
pub record IsPlaceIn (p : Program) (sites : List TrackedSite) (s : Site) (answer : Option ℕ) : Type 0 where
  pub each : (place : ℕ) → (answer ≡ Some place) ↔ StandsIn p sites s place

-- At the number of each site is its place, or that it has none.
pub record ArePlaces (p : Program) (numbered : List Site) (sites : List TrackedSite) (places : List (Option ℕ)) : Type 0 where
  pub found : (number place : ℕ) → slice_get places number ≡ Some (Some place) → (s : Site) × (slice_get numbered number ≡ Some s) × StandsIn p sites s place
  pub all : (number place : ℕ) (s : Site) → slice_get numbered number ≡ Some s → StandsIn p sites s place → slice_get places number ≡ Some (Some place)

-- A table tells where the site of a number stands.
abbrev pub StandsInTable : List (Option ℕ) → (number place : ℕ) → Type 0
StandsInTable places number place = slice_get places number ≡ Some (Some place)

-- One site alone stands somewhere, at the first place.
abbrev pub StandsAlone : SiteNo → (number place : ℕ) → Type 0
StandsAlone site number place = (number ≡ site.0) × (place ≡ 0)

-- The places are below a count.
pub record AreBelow (count : ℕ) (stands : (number place : ℕ) → Type 0) : Type 0 where
  pub each : (number place : ℕ) → stands number place → place < count
