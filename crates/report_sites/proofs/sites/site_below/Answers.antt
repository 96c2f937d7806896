use Rattle.std.proofs.Common.{sym, ◌∙◌}
use Rattle.std.proofs.lemmas.Bool.{false≢true}
use Rattle.jvm_model.specs.declared.site.Site.{Site}
use Rattle.report_sites.proofs.ClassSites.{class_apart, found_class, no_class}
use Rattle.report_sites.proofs.sites.site_below.Goals as goal

pub returns-then-not-is_at_or_above : goal.returns-then-not-is_at_or_above
returns-then-not-is_at_or_above c =
    let s : Site = record { kind = c.args.kind; method = c.args.at.method; offset = c.args.at.offset; class = c.args.class.now } in
    let found = c.in-Some.ensures.found in
    class_apart c.args.wanted.now.program.now c.well_formed-2.ensures.program c.args.wanted.now.upper s c.in-Some.number found.0 found.1
    (λ below. false≢true (sym c.if-not-is_at_or_above.true ∙ c.is_at_or_above.ensures.1 below))

pub returns-else-not-is_at_or_above : goal.returns-else-not-is_at_or_above
returns-else-not-is_at_or_above c =
    let s : Site = record { kind = c.args.kind; method = c.args.at.method; offset = c.args.at.offset; class = c.args.class.now } in
    let found = c.in-Some.ensures.found in
    found_class c.args.wanted.now.program.now c.well_formed-2.ensures.program c.args.wanted.now.upper s c.in-Some.number found.0 found.1
    (c.is_at_or_above.ensures.0 c.if-not-is_at_or_above.false)

pub returns-in-None : goal.returns-in-None
returns-in-None c =
    let s : Site = record { kind = c.args.kind; method = c.args.at.method; offset = c.args.at.offset; class = c.args.class.now } in
    no_class c.args.wanted.now.program.now c.well_formed-2.ensures.program c.args.wanted.now.upper s c.in-None.ensures.none
