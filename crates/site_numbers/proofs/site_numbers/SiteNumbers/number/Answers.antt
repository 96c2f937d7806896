use Rattle.std.proofs.Common.{List, map, subst}
use Rattle.jvm_model.specs.declared.site.Site.{Site}
use Rattle.site_numbers.specs.Added.{IsAdded}
use Rattle.site_numbers.specs.Words.{site_of}
use Rattle.site_numbers.proofs.EqualWords.{same_words, sees_sites}
use Rattle.site_numbers.proofs.Viewed.{inserted}
use Rattle.site_numbers.proofs.site_numbers.SiteNumbers.number.Goals as goal

pub returns : goal.returns
returns c =
    let insert = c.in_ok-number.ensures in
    let new = c.insert_full.new.self.keys in
    subst (λ (sites : List Site). IsAdded sites (map site_of new) c.args.site.now c.in_ok-number.number) c.self.view_is
    (inserted same_words site_of sees_sites c.self.inside.keys.keys new c.site_words.result c.in_ok-number.number insert.keys insert.stored insert.unique
    c.args.site.now c.site_words.ensures)
