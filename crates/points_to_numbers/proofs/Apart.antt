-- Where names, sites and holders are each numbered once, different keys stand for different things.
use Rattle.std.proofs.Common.{◌≡◌, sym, ◌∙◌, subst}
use Rattle.least_sets.specs.Rules.{IsWithoutDoubles}
use Rattle.jvm_model.specs.declared.site.Site.{Site}
use Rattle.points_to_rules.specs.Facts.{Holder}
use Rattle.points_to_rules.specs.Places.{holder_from}
use Rattle.points_to_numbers.specs.declared.keys.SiteKey.{SiteKey}
use Rattle.points_to_rules.specs.declared.place.Place.{Place}
use Rattle.points_to_numbers.specs.Numbered.{Numbered, IsSiteAt, IsHolderAt, AreApart}
use Rattle.points_to_numbers.specs.Kept.{Kept, IsSound, numbered, site_from, sites_of}
use Rattle.points_to_rules.proofs.PlaceHolders.{places_differ}
use Rattle.points_to_numbers.proofs.Standing.{site_stands, holder_stands}
use Rattle.points_to_numbers.proofs.KeptKeys.{apart_at}

-- a site has one key
pub one_key : (n : Numbered) → IsWithoutDoubles n.classes → (a b : SiteKey) (s : Site) → IsSiteAt n a s → IsSiteAt n b s → a ≡ b
one_key n apart a b s first second =
    let kind = sym first.kind ∙ second.kind in
    let method = sym first.method ∙ second.method in
    let offset = sym first.offset ∙ second.offset in
    let class = apart s.class a.class.0 b.class.0 first.class second.class in
    (λ i. record { kind = kind i; method = method i; offset = offset i; class = record { 0 = class i } })

-- a holder has one place
pub one_place : (n : Numbered) → IsWithoutDoubles n.sites → (p q : Place) (h : Holder) → IsHolderAt n p h → IsHolderAt n q h → p ≡ q
one_place n apart p q h first second = places_differ n.sites apart p q h first second

are_apart : (k : Kept) → IsSound k → IsWithoutDoubles k.classes → AreApart (numbered k)
unfolding numbered
are_apart k sound classes =
    let n = numbered k in
    let sites = apart_at (IsSiteAt n) (site_from k.classes) (site_stands n) (one_key n classes) k.sites sound.sites sound.sites_apart in
    record {
      classes = classes;
      sites = sites;
      holders = apart_at (IsHolderAt n) (holder_from (sites_of k)) (holder_stands n) (one_place n sites) k.places sound.places sound.places_apart;
    }

-- the same of lists that are those of the tables
pub apart_by : (k : Kept) (n : Numbered) → numbered k ≡ n → IsSound k → IsWithoutDoubles k.classes → AreApart n
apart_by k n is sound classes = subst AreApart is (are_apart k sound classes)
