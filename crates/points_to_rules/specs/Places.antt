-- Public contracts rest on this module.
-- Holders by the numbers of sites.
use Rattle.std.specs.Prelude.{◌≡◌, List, [], Some, None, slice_get, slice_index_or}
use Rattle.jvm_model.specs.declared.site.Site.{Site}
use Rattle.jvm_model.specs.declared.site.SiteKind.TheVariants.{Boot}
use Rattle.points_to_rules.specs.declared.place.Place.{Place}
use Rattle.points_to_rules.specs.declared.place.Place.TheVariants as places
use Rattle.points_to_rules.specs.Facts.{Holder, variable, field_of, elements_of, static_field, kept_objects, returned_by, thrown_by}

-- The place stands for the holder, where sites have these numbers.
abbrev pub IsHolderIn : List Site → Place → Holder → Type 0
IsHolderIn sites (places.Variable v) h = h ≡ variable v
IsHolderIn sites (places.Field site field) h = (s : Site) × (slice_get sites site.0 ≡ Some s) × (h ≡ field_of s field)
IsHolderIn sites (places.Elements site) h = (s : Site) × (slice_get sites site.0 ≡ Some s) × (h ≡ elements_of s)
IsHolderIn sites (places.Static field) h = h ≡ static_field field
IsHolderIn sites places.Kept h = h ≡ kept_objects
IsHolderIn sites (places.Returned method) h = h ≡ returned_by method
IsHolderIn sites (places.Thrown method) h = h ≡ thrown_by method

-- Any one site, where none has the number.
abbrev pub any_site : Site
any_site = record { kind = Boot; method = None; offset = 0; class = [] }

-- The holder that a place stands for.
abbrev pub holder_from : List Site → Place → Holder
holder_from sites (places.Variable v) = variable v
holder_from sites (places.Field site field) = field_of (slice_index_or sites site.0 any_site) field
holder_from sites (places.Elements site) = elements_of (slice_index_or sites site.0 any_site)
holder_from sites (places.Static field) = static_field field
holder_from sites places.Kept = kept_objects
holder_from sites (places.Returned method) = returned_by method
holder_from sites (places.Thrown method) = thrown_by method
