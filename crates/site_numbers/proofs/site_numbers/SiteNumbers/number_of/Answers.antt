use Rattle.std.proofs.Common.{◌≡◌, List, ◌∙◌, ap, map, sym, subst, Some}
use Rattle.std.specs.List.{Contains, slice_get}
use Rattle.std.proofs.lemmas.Bool.{false≢true}
use Rattle.jvm_model.specs.declared.site.Site.{Site}
use Rattle.site_numbers.specs.Words.{site_of}
use Rattle.site_numbers.proofs.EqualWords.{same_words, sees_sites}
use Rattle.site_numbers.proofs.Viewed.{found_at, is_found}
use Rattle.site_numbers.proofs.site_numbers.SiteNumbers.number_of.Goals as goal

pub unreachable-requires : goal.unreachable-requires
unreachable-requires c =
    let keys = c.self.inside.keys.keys in
    let listed = subst (λ (sites : List Site). Contains sites c.args.site.now) (sym c.self.view_is) c.requires in
    let there = subst (λ (s : Site). Contains (map site_of keys) s) (sym c.site_words.ensures) listed in
    let found = is_found same_words site_of sees_sites keys c.site_words.result there in
    false≢true (c.in-None.ensures.found ∙ found)

pub returns : goal.returns
returns c =
    let keys = c.self.inside.keys.keys in
    let at = found_at same_words site_of sees_sites keys c.site_words.result c.in-Some.number c.in-Some.ensures.index in
    subst (λ (sites : List Site). slice_get sites c.in-Some.number ≡ Some c.args.site.now) c.self.view_is (at ∙ ap (λ (s : Site). Some s) c.site_words.ensures)
