use Rattle.std.proofs.Common.{List, subst}
use Rattle.jvm_model.specs.declared.site.Site.{Site}
use Rattle.least_sets.specs.Rules.{IsWithoutDoubles}
use Rattle.site_numbers.specs.Words.{site_of}
use Rattle.site_numbers.proofs.EqualWords.{same_words, sees_sites}
use Rattle.site_numbers.proofs.Viewed.{seen_apart}
use Rattle.site_numbers.proofs.site_numbers.SiteNumbers.apart.Goals as goal

pub returns : goal.returns
returns c = subst (λ (sites : List Site). IsWithoutDoubles sites) c.self.view_is (seen_apart same_words site_of sees_sites c.self.inside.keys.keys c.len-count.ensures.unique)
