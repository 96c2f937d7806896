use Rattle.std.proofs.Common.{◌∙◌}
use Rattle.std.proofs.lemmas.Result.{on_ok_weaker}
use Rattle.ground.specs.Added.{AreAdded}
use Rattle.site_report.specs.Sites.{site_in}
use Rattle.certificate_printing.specs.Analysed.{IsOwnEdgeLine, IsSafeLine}
use Rattle.certificate_printing.proofs.Claiming.{first_alone, with_edges}
use Rattle.certificate_printing.proofs.claims.add_safe.Goals as goal

pub returns-then-safe-eq1 : goal.returns-then-safe-eq1
returns-then-safe-eq1 c =
    let t = c.args.safe.site in
    let named = c.in_ok-site.ensures ∙ (λ i. site_in (c.program.ensures i) t) in
    first_alone c.args.of t c.args.safe.stage c.if-safe-eq1.true _ named c.args.lines.now.items c.add_line.new.lines.items c.in_ok-add_line.ensures

pub returns : goal.returns
returns c =
    let a = c.args.of in
    let t = c.args.safe.site in
    let n = c.args.safe.stage in
    let named = c.in_ok-site.ensures ∙ (λ i. site_in (c.program.ensures i) t) in
    let old = c.args.lines.now.items in
    let between = c.add_line.new.lines.items in
    let new = c.add_edges.new.lines.items in
    on_ok_weaker {P = AreAdded (IsOwnEdgeLine a t n) between new} {Q = AreAdded (IsSafeLine a t n) old new} c.add_edges.result
    (λ edges. with_edges a t n _ named old between new c.in_ok-add_line.ensures edges) c.add_edges.ensures
