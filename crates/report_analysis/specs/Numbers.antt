-- Public contracts rest on this module.
-- The numbers in the ground of tracked sites.
use Rattle.std.specs.Prelude.{◌≡◌, ◌<◌, ℕ, List, Option, Some, None, length, slice_get, slice_set}
use Rattle.jvm_model.specs.declared.number.SiteNo.{SiteNo}
use Rattle.jvm_model.specs.declared.site.Site.{Site}
use Rattle.ground.specs.Findings.{Findings}
use Rattle.ground_views.specs.Views.{AreOneForOne}
use Rattle.site_report.specs.declared.tracked_site.TrackedSite.{TrackedSite}
use Rattle.site_report.specs.Sites.{site_in}

-- The answer is a number of the site in the ground, or the site has none.
abbrev pub IsNumberOf : Findings → Site → Option SiteNo → Type 0
IsNumberOf g s (Some n) = slice_get g.sites n.0 ≡ Some s
IsNumberOf g s None = (number : ℕ) → slice_get g.sites number ≡ Some s → ⊥

-- Each tracked site has its number beside it.
abbrev pub AreNumbers : Findings → List TrackedSite → List (Option SiteNo) → Type 0
AreNumbers g sites numbers = AreOneForOne (λ (t : TrackedSite) (answer : Option SiteNo). IsNumberOf g (site_in g.program t) answer) sites numbers

-- The numbers, with one more at its place, if it has one.
abbrev pub numbers_with : List (Option SiteNo) → Option ℕ → SiteNo → List (Option SiteNo)
numbers_with numbers None n = numbers
numbers_with numbers (Some place) n = slice_set numbers place (Some n)

-- There is a number at a place where, among those below the limit, a number has this place; and a number that stands at a place has it.
pub record AreTurnedRound (places : List (Option ℕ)) (count limit : ℕ) (numbers : List (Option SiteNo)) : Type 0 where
  pub long : length numbers ≡ count
  pub from : (place : ℕ) (n : SiteNo) → slice_get numbers place ≡ Some (Some n) → slice_get places n.0 ≡ Some (Some place)
  pub each : (place number : ℕ) → number < limit → slice_get places number ≡ Some (Some place) → (n : SiteNo) × (slice_get numbers place ≡ Some (Some n))
