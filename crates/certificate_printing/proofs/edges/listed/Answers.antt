use Rattle.std.proofs.Common.{◌∙◌}
use Rattle.site_report.specs.Sites.{site_in}
use Rattle.certificate_printing.proofs.Told.{plain_back}
use Rattle.certificate_printing.proofs.edges.listed.Goals as goal

pub returns : goal.returns
returns c =
    let entry = plain_back c.args.edge.entry in
    let fact = plain_back c.args.edge.fact in
    let site = c.in_ok-site.ensures ∙ (λ i. site_in (c.program.ensures i) c.args.safe.site) in
    (λ i. record { stage = c.args.safe.stage; site = site i; method = c.args.edge.method; entry = entry i; spot = c.args.edge.spot; fact = fact i })
