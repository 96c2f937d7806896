-- This crate's own proofs alone rest on this module.
-- The pairs of a place and a site that lines list.
use Rattle.std.specs.Prelude.{◌≡◌, List, Some, slice_get}
use Rattle.jvm_model.specs.declared.number.SiteNo.{SiteNo}
use Rattle.jvm_model.specs.declared.site.Site.{Site}
use Rattle.points_to_rules.specs.declared.place.Place.{Place}
use Rattle.points_to_rules.specs.Places.{IsHolderIn}
use Rattle.certificate_lines.specs.LineTexts.{holder_of}
use Rattle.certificate_lines.specs.declared.line.Holder.{Holder}
use Rattle.certificate_lines.specs.declared.line.Line.{Line}
use Rattle.certificate_lines.specs.declared.line.Line.TheVariants.{PointsTo}
use Rattle.certificate_ground.specs.Pairs.{OfSome}

-- The line says that the place may hold the site of the number.
pub record IsHeldBy (sites : List Site) (x : Line) (place : Place) (number : SiteNo) : Type 0 where
  pub holder : Holder
  pub site : Site
  pub is : x ≡ PointsTo holder site
  pub stands : IsHolderIn sites place (holder_of holder)
  pub numbered : slice_get sites number.0 ≡ Some site

-- Some line says so.
abbrev pub IsHeldIn : List Site → List Line → Place → SiteNo → Type 0
IsHeldIn sites all = OfSome (IsHeldBy sites) all
