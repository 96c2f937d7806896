use Rattle.ground.proofs.Adding.{added_as}
use Rattle.ground.specs.Added.{AreAdded, OfOne}
use Rattle.std.proofs.lemmas.Result.{on_ok_weaker}
use Rattle.certificate_printing.specs.Analysed.{IsOwnEdgeLine, site_of}
use Rattle.certificate_printing.specs.Collected.{IsEdgeLine}
use Rattle.certificate_printing.proofs.edges.add_edges.Goals as goal

pub returns : goal.returns
returns c =
    let a = c.args.of in
    let t = c.args.safe.site in
    let n = c.args.safe.stage in
    let edges = c.in_ok-edges.edges.edges in
    let old = c.args.lines.now.items in
    let new = c.add_each.new.lines.items in
    on_ok_weaker {P = AreAdded (OfOne (IsEdgeLine n (site_of a t)) edges) old new} {Q = AreAdded (IsOwnEdgeLine a t n) old new} c.add_each.result
    (λ added.
    added_as (OfOne (IsEdgeLine n (site_of a t)) edges) (IsOwnEdgeLine a t n) old new
    (λ line one. (one.0, (c.in_ok-edges.ensures.each one.0).0 one.1, one.2))
    (λ line own. (own.0, (c.in_ok-edges.ensures.each own.0).1 own.1, own.2))
    added)
    c.add_each.ensures
