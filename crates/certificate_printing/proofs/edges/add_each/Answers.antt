use Rattle.std.proofs.Common.{◌∙◌, ap, sym, arith}
use Rattle.ground.proofs.Adding.{added_all, added_more}
use Rattle.ground_views.specs.Questions.{edge_of}
use Rattle.certificate_lines.specs.declared.line.Line.TheVariants as lines
use Rattle.certificate_printing.specs.Analysed.{site_of}
use Rattle.certificate_printing.specs.Collected.{IsEdgeLine}
use Rattle.certificate_printing.proofs.Collecting.{added_one}
use Rattle.certificate_printing.proofs.edges.add_each.Goals as goal

pub loop-place-preserved : goal.loop-place-preserved
loop-place-preserved c =
    let edges = c.args.edges.now.edges in
    let R = IsEdgeLine c.args.safe.stage (site_of c.args.of c.args.safe.site) in
    let k = c.loop-place.place in
    let e = edge_of c.at.result in
    let old = c.loop-place.lines.items in
    let new = c.add_line.new.lines.items in
    let is = ap lines.PathEdge c.in_ok-edge.ensures in
    let one = added_one (R e) _ old new c.in_ok-add_line.ensures is (λ line same. is ∙ sym same) in
    record { added = added_more R edges k e c.at.ensures c.args.lines.now.items old new c.loop-place.invariant.added one }

pub returns : goal.returns
returns c =
    let R = IsEdgeLine c.args.safe.stage (site_of c.args.of c.args.safe.site) in
    let all = c.loop-place-test.false in
    let count = c.len-place-end.ensures in
    added_all R c.args.edges.now.edges c.loop-place.place (omega (arith, all, count)) c.args.lines.now.items c.loop-place.lines.items c.loop-place.invariant.added
