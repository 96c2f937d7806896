use Rattle.std.proofs.Common.{length, refl}
use Rattle.std.proofs.lemmas.Option.{slice_get_read}
use Rattle.certificate_ground.proofs.NamedSites.{numbered_all, numbered_more, numbered_start}
use Rattle.certificate_ground.proofs.line_sites.sites_of.Goals as goal

pub loop-line-init : goal.loop-line-init
loop-line-init c = record { named = numbered_start c.args.lines.now c.new-sites.result }

pub loop-line-preserved : goal.loop-line-preserved
loop-line-preserved c =
    let lines = c.args.lines.now in
    let k = c.loop-line.line-index in
    let at = slice_get_read lines (length lines) k c.line-item.result refl c.loop-line-test.true c.line-item.is in
    record {
      named = numbered_more lines k c.line-item.result at c.loop-line.sites c.number_line.new.sites c.loop-line.invariant.named c.in_ok-number_line.ensures;
    }

pub returns : goal.returns
returns c = numbered_all c.args.lines.now c.loop-line.line-index c.loop-line-test.false c.loop-line.sites c.loop-line.invariant.named
