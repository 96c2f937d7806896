-- This crate's own proofs alone rest on this module.
-- The site that words are of.
use Rattle.jvm_model.specs.declared.site.Site.{Site}
use Rattle.site_numbers.specs.declared.site_words.SiteWords.{SiteWords}

abbrev pub site_of : SiteWords → Site
site_of w = record { kind = w.kind; method = w.method; offset = w.offset; class = w.class.now }
