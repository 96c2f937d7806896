use Rattle.std.proofs.lemmas.Result.{on_ok_weaker}
use Rattle.jvm_model.specs.declared.site.Site.{Site}
use Rattle.report_sites.proofs.ClassSites.{only_added}
use Rattle.report_sites.proofs.sites.add_class.Goals as goal

pub returns : goal.returns
returns c =
    let s : Site = record { kind = c.args.kind; method = c.args.at.method; offset = c.args.at.offset; class = c.args.class.now } in
    on_ok_weaker c.add_site.result
    (λ added. only_added c.args.wanted.now.program.now c.args.wanted.now.upper s c.site_below-site.result c.args.sites.now.items c.add_site.new.sites.items
    c.site_below-site.ensures added)
    c.add_site.ensures
