use Rattle.std.proofs.Common.{List, subst}
use Rattle.certificate_lines.specs.declared.line.Line.{Line}
use Rattle.ground.specs.Added.{AreAdded, OfOne}
use Rattle.certificate_printing.specs.Collected.{IsReachedLine}
use Rattle.certificate_printing.proofs.Told.{body_is}
use Rattle.certificate_printing.proofs.body.body_of.Goals as goal

pub returns : goal.returns
returns c =
    let first =
    subst (λ (ls : List Line). AreAdded (OfOne IsReachedLine c.running.result.now) ls c.add_reached.new.lines.items) c.new-lines.ensures.items c.in_ok-add_reached.ensures in
    body_is _ c.args.judged.now c.requires.judged c.running.result.now c.running.ensures c.writes.result.now c.writes.ensures c.requires.analysis.1.placed
    c.add_reached.new.lines.items c.add_held.new.lines.items c.add_writes.new.lines.items c.add_claims.new.lines.items c.in_order.result.items
    first c.in_ok-add_held.ensures c.in_ok-add_writes.ensures c.in_ok-add_claims.ensures c.in_order.ensures.same c.in_order.ensures.ascend
