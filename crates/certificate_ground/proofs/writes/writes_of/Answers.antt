use Rattle.std.proofs.Common.{[], refl, length}
use Rattle.std.proofs.lemmas.Option.{slice_get_read}
use Rattle.certificate_ground.specs.Reached.{IsWriteOf}
use Rattle.ground.specs.Added.{OfOne}
use Rattle.ground.proofs.Adding.{added_all, added_alone, added_more}
use Rattle.certificate_ground.proofs.writes.writes_of.Goals as goal

pub loop-line-preserved : goal.loop-line-preserved
loop-line-preserved c =
    let lines = c.args.lines.now in
    let k = c.loop-line.line-index in
    let at = slice_get_read lines (length lines) k c.line-item.result refl c.loop-line-test.true c.line-item.is in
    record {
      added = added_more IsWriteOf lines k c.line-item.result at [] c.loop-line.writes.keys c.add_line.new.writes.keys c.loop-line.invariant.added c.in_ok-add_line.ensures;
    }

pub returns : goal.returns
returns c =
    let lines = c.args.lines.now in
    let writes = c.loop-line.writes.keys in
    added_alone (OfOne IsWriteOf lines) writes (added_all IsWriteOf lines c.loop-line.line-index c.loop-line-test.false [] writes c.loop-line.invariant.added)
